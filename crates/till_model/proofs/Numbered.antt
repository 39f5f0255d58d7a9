-- Entries with numbered keys and rising moments.
use Rattle.shop_model.proofs.Common.{◌≡◌, ◌⊎◌, inl, inr, ◌∙◌, ℕ, zero, suc, ◌+◌, ◌<◌, ◌^◌, List, [], ◌∷◌, ◌++◌, length, take, Bool, true, false, Some, None}
use Rattle.shop_model.proofs.Common.{refl, sym, subst, ap, arith, length-append, slice_get, decimal, nat_lt, list_any, bytes_eq, cases_Bool, nat_tests}
use Rattle.shop_model.proofs.Common.{bytes_eq-Decides, Moment, is_earlier, Text, Command, Answer}
use Rattle.std.specs.Prelude.{◌-◌}
use Rattle.std.proofs.lemmas.Fmt.{decimal_injective}
use Rattle.std.proofs.lemmas.Option.{slice_get_within}
use Rattle.shop_model.proofs.Resends.{same_some, same_none}
use Rattle.till_model.specs.Tills.{Entry, are_marked, have_own_keys}
use Rattle.till_model.specs.Numbered.{mark_text, key_of, has_mark, AreNumbered, IsAfterLast}
use Rattle.till_model.specs.Laws.{entries_of, NumberedAreOwn}

-- ---- keys

front_of : (front back : Text) → take (length front) (front ++ back) ≡ front
front_of [] back = refl
front_of (c ∷ cs) back = ap (λ (l : Text). c ∷ l) (front_of cs back)

key_marked : (mark : Text) (n : ℕ) → has_mark mark (key_of mark n) ≡ true
key_marked mark n = (bytes_eq-Decides (take (length (mark_text mark)) (key_of mark n)) (mark_text mark)).1 (front_of (mark_text mark) (decimal n))

behind : (front x y : Text) → front ++ x ≡ front ++ y → x ≡ y
behind [] x y e = e
behind (c ∷ cs) x y e = behind cs x y (tails e)
  where
    tails : c ∷ (cs ++ x) ≡ c ∷ (cs ++ y) → cs ++ x ≡ cs ++ y
    tails e = cc

keys_differ : (mark : Text) (m n : ℕ) → m < n → n < 2 ^ 64 → bytes_eq (key_of mark m) (key_of mark n) ≡ false
keys_differ mark m n low small = elim (cases_Bool (bytes_eq (key_of mark m) (key_of mark n))) [
  | inr isnt ↦ isnt
  | inl is ↦
      let whole : key_of mark m ≡ key_of mark n = (bytes_eq-Decides (key_of mark m) (key_of mark n)).0 is in
      let same : m ≡ n = decimal_injective m n (omega arith) small (behind (mark_text mark) (decimal m) (decimal n) whole) in
      absurd (omega arith)
]

-- ---- entries by place

pub command_at : (commands : List Command) (replies : List Answer) (i : ℕ) (entry : Entry)
    → slice_get (entries_of commands replies) i ≡ Some entry → slice_get commands i ≡ Some entry.command
command_at [] replies i entry there = absurd (same_none entry there)
command_at (c ∷ cs) [] zero entry there = ap (λ (it : Entry). Some it.command) (same_some (record { command = c; reply = None }) entry there)
command_at (c ∷ cs) [] (suc i) entry there = command_at cs [] i entry there
command_at (c ∷ cs) (a ∷ answers) zero entry there = ap (λ (it : Entry). Some it.command) (same_some (record { command = c; reply = Some a }) entry there)
command_at (c ∷ cs) (a ∷ answers) (suc i) entry there = command_at cs answers i entry there

all_marked : (marked : Text → Bool) (entries : List Entry)
    → ((i : ℕ) (entry : Entry) → slice_get entries i ≡ Some entry → marked entry.command.key ≡ true) → are_marked marked entries ≡ true
all_marked marked [] each = refl
all_marked marked (e ∷ es) each = rw (each 0 e refl) (all_marked marked es (λ i entry there. each (suc i) entry there))

none_same : (e : Entry) (es : List Entry) → ((i : ℕ) (entry : Entry) → slice_get es i ≡ Some entry → bytes_eq e.command.key entry.command.key ≡ false)
    → list_any (λ (it : Entry). bytes_eq e.command.key it.command.key) es ≡ false
none_same e [] differ = refl
none_same e (x ∷ xs) differ = rw (differ 0 x refl) (none_same e xs (λ i entry there. differ (suc i) entry there))

abbrev AllDiffer : List Entry → Type 0
AllDiffer entries =
    (i j : ℕ) (earlier later : Entry) → i < j → slice_get entries i ≡ Some earlier
    → slice_get entries j ≡ Some later → bytes_eq earlier.command.key later.command.key ≡ false

all_own : (entries : List Entry) → AllDiffer entries → have_own_keys entries ≡ true
all_own [] differ = refl
all_own (e ∷ es) differ =
    let none = none_same e es (λ i entry there. differ 0 (suc i) e entry (omega arith) refl there) in
    rw none (all_own es (λ i j earlier later low at_i at_j. differ (suc i) (suc j) earlier later (omega arith) at_i at_j))

pub numbered_own : NumberedAreOwn
numbered_own mark commands replies numbered =
    let entries = entries_of commands replies in
    let key : (i : ℕ) (entry : Entry) → slice_get entries i ≡ Some entry → entry.command.key ≡ key_of mark (i + 1) =
    λ i entry there. numbered.keys i entry.command (command_at commands replies i entry there) in
    record {
      marked = all_marked (has_mark mark) entries (λ i entry there. ap (has_mark mark) (key i entry there) ∙ key_marked mark (i + 1));
      keys = all_own entries (λ i j earlier later low at_i at_j.
          let within : j < length commands = slice_get_within commands j later.command (command_at commands replies j later at_j) in
          let few : length commands < 2 ^ 64 - 1 = numbered.few in
          rw (key i earlier at_i, key j later at_j) (keys_differ mark (i + 1) (j + 1) (omega arith) (omega arith)));
      moments = λ i j earlier later low at_i at_j.
          numbered.moments i j earlier.command later.command low (command_at commands replies i earlier at_i) (command_at commands replies j later at_j);
    }

-- ---- one more

more_at : (commands : List Command) (command it : Command) (i : ℕ) → slice_get (commands ++ command ∷ []) i ≡ Some it
    → ((i < length commands) × (slice_get commands i ≡ Some it)) ⊎ ((i ≡ length commands) × (command ≡ it))
more_at [] command it zero there = inr (refl, same_some command it there)
more_at [] command it (suc i) there = absurd (same_none it there)
more_at (c ∷ cs) command it zero there = inl (omega arith, there)
more_at (c ∷ cs) command it (suc i) there = elim (more_at cs command it i there) [
  | inl (low, here) ↦ inl (omega arith, here)
  | inr (is, same) ↦ inr (omega arith, same)
]

earlier_still : (a b c : Moment) → is_earlier a b ≡ true → is_earlier b c ≡ true → is_earlier a c ≡ true
earlier_still a b c one two = grind (arith, nat_tests)

-- each is before a moment that is after the last
each_before : (mark : Text) (commands : List Command) (moment : Moment) → AreNumbered mark commands
    → IsAfterLast commands moment → (i : ℕ) (it : Command) → slice_get commands i ≡ Some it
    → is_earlier it.moment moment ≡ true
each_before mark commands moment numbered last i it there =
    let within : i < length commands = slice_get_within commands i it there in
    elim (more_or_last (length commands) i within) [
      | inl is ↦ last i it is there
      | inr (j, is, low) ↦
          let end = some_at commands j (omega arith) in
          earlier_still it.moment end.0.moment moment (numbered.moments i j it end.0 low there end.1) (last j end.0 is end.1)
    ]
  where
    more_or_last : (n i : ℕ) → i < n → (n ≡ i + 1) ⊎ ((j : ℕ) × (n ≡ j + 1) × (i < j))
    more_or_last zero i low = absurd (omega arith)
    more_or_last (suc n) i low = elim (cases_Bool (nat_lt i n)) [
      | inl is ↦ inr (n, omega arith, grind (arith, nat_tests))
      | inr isnt ↦ inl (grind (arith, nat_tests))
    ]

    some_at : (commands : List Command) (j : ℕ) → j < length commands → (it : Command) × (slice_get commands j ≡ Some it)
    some_at [] j low = absurd (omega arith)
    some_at (c ∷ cs) zero low = (c, refl)
    some_at (c ∷ cs) (suc j) low = some_at cs j (omega arith)

pub numbered_more : (mark : Text) (commands : List Command) (command : Command) → AreNumbered mark commands
    → length commands + 1 < 2 ^ 64 - 1 → command.key ≡ key_of mark (length commands + 1)
    → IsAfterLast commands command.moment → AreNumbered mark (commands ++ command ∷ [])
numbered_more mark commands command numbered few key last =
    let long : length (commands ++ command ∷ []) ≡ length commands + 1 = length-append commands (command ∷ []) in
    record {
      few = omega (arith, long, few);
      keys = λ i it there. elim (more_at commands command it i there) [
        | inl (low, here) ↦ numbered.keys i it here
        | inr (is, same) ↦ ap (λ (c : Command). c.key) (sym same) ∙ key ∙ ap (λ (n : ℕ). key_of mark (n + 1)) (sym is)
      ];
      moments = λ i j earlier later low at_i at_j. elim (more_at commands command later j at_j) [
        | inl (below, here) ↦ elim (more_at commands command earlier i at_i) [
          | inl (under, there) ↦ numbered.moments i j earlier later low there here
          | inr (is, same) ↦ absurd (omega arith)
        ]
        | inr (is, same) ↦ elim (more_at commands command earlier i at_i) [
          | inl (under, there) ↦
              subst (λ (c : Command). is_earlier earlier.moment c.moment ≡ true) same (each_before mark commands command.moment numbered last i earlier there)
          | inr (is', same') ↦ absurd (omega arith)
        ]
      ];
    }
