-- The smallest offset, one transition after the other.
use Rattle.std.proofs.Common.{◌≡◌, ℕ, zero, suc, ℤ, ◌+◌, ◌-◌, ◌<◌, ◌≤◌, arith, refl, Option, Some, None, true, false}
use Rattle.std.specs.Prelude.{int_le}
use Rattle.jiff_tz.specs.declared.info.OffsetInfo.{OffsetInfo}
use Rattle.jiff_tz.specs.declared.timezone.TimeZone.{TimeZone}
use Rattle.jiff_tz.specs.Zone.{next_at}
use Rattle.till_program.specs.StandardTime.{smaller, least_offset}

-- no transition comes
pub none_left : (k : ℕ) (zone : TimeZone) (end at least : ℤ) → next_at zone at ≡ None → least_offset k zone end at least ≡ least
unfolding least_offset
none_left zero zone end at least none = refl
none_left (suc k) zone end at least none = rw none refl

-- the next one comes after the end
pub too_late : (k : ℕ) (zone : TimeZone) (end at least t : ℤ) (info : OffsetInfo) → next_at zone at ≡ Some (t, info)
    → int_le t end ≡ false → least_offset k zone end at least ≡ least
unfolding least_offset
too_late zero zone end at least t info next late = refl
too_late (suc k) zone end at least t info next late = rw (next, late) refl

-- the next one is looked at
pub one_more : (n : ℕ) (zone : TimeZone) (end at least t : ℤ) (info : OffsetInfo) → n < 400 → next_at zone at ≡ Some (t, info)
    → int_le t end ≡ true → least_offset (400 - n) zone end at least ≡ least_offset (400 - (n + 1)) zone end t (smaller least info.offset.seconds)
unfolding least_offset
one_more n zone end at least t info short next within =
    let there : 400 - n ≡ suc (400 - (n + 1)) = omega (arith, short) in
    rw (there, next, within) refl

-- no further one is looked at
pub all_looked : (n : ℕ) (zone : TimeZone) (end at least : ℤ) → 400 ≤ n → least_offset (400 - n) zone end at least ≡ least
unfolding least_offset
all_looked n zone end at least long =
    let none : 400 - n ≡ zero = omega (arith, long) in
    rw none refl
