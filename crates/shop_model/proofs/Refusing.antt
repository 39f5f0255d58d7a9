-- The first refusal that holds is the lowest, since each list of them rises.
use Rattle.shop_model.proofs.Common.{◌≡◌, ℕ, ◌≤◌, List, [], ◌∷◌, true, false, refl, arith, sym, ap, ◌∙◌, nat_lt, nat_le, if◌then◌else◌, AllByRecursion, le_refl}
use Rattle.shop_model.proofs.Common.{and_parts, leb-true, false≢true, Refusal, Full, refusal_number, Text, Rules, Act, Import, OfficeAct, AddCountry, Stock}
use Rattle.shop_model.proofs.Common.{Copies, BadLine, Moment, Catalogue, Shop, Verdict, Again, Refused, Accepted, first, import_refusals, act_refusals}
use Rattle.shop_model.proofs.Common.{refusals, office_refusals, rise_from, IsLowest, RefusalsAreInOrder}
use Rattle.std.specs.Prelude.{Bool, length}

-- what rises from above n has no number below it
none_below : (n m : ℕ) (tests : List (Refusal × Bool)) → n ≤ m → rise_from m tests ≡ true
    → AllByRecursion (λ test. test.1 ≡ true → n ≤ refusal_number test.0) tests
none_below n m [] le rise = tt
none_below n m (test ∷ tests) le rise =
    let parts = and_parts (nat_lt m (refusal_number test.0)) (rise_from (refusal_number test.0) tests) rise in
    let above = leb-true _ _ parts.0 in
    let more : n ≤ refusal_number test.0 = omega (arith, le, above) in
    (λ holds. more, none_below n (refusal_number test.0) tests more parts.1)

pub lowest : (n : ℕ) (tests : List (Refusal × Bool)) → rise_from n tests ≡ true → IsLowest tests (first tests)
lowest n [] rise = tt
lowest n (test ∷ tests) rise = told (lowest (refusal_number test.0) tests parts.1) test.1 refl
  where
    parts : (nat_lt n (refusal_number test.0) ≡ true) × (rise_from (refusal_number test.0) tests ≡ true)
    parts = and_parts (nat_lt n (refusal_number test.0)) (rise_from (refusal_number test.0) tests) rise

    further : (v : Verdict) → test.1 ≡ false → IsLowest tests v → IsLowest (test ∷ tests) v
    further (Again reply) fails is = is
    further (Refused refusal) fails is = ((test ∷ is.0.0, is.0.1, ap (λ rest. test ∷ rest) is.0.2), (λ holds. absurd (false≢true (sym fails ∙ holds)), is.1))
    further Accepted fails is = (fails, is)

    told : IsLowest tests (first tests) → (holds : Bool) → test.1 ≡ holds → IsLowest (test ∷ tests) (if holds then Refused test.0 else first tests)
    told more true is =
        let here : test ≡ (test.0, true) = ap (λ (h : Bool). (test.0, h)) is in
        (([], tests, ap (λ x. x ∷ tests) here), (λ holds. le_refl _, none_below (refusal_number test.0) (refusal_number test.0) tests (le_refl _) parts.1))
    told more false is = further (first tests) is more

import_rises : (catalogue : Catalogue) (shop : Shop) (lot : Text) (stock : Stock) → rise_from 9 (import_refusals catalogue shop lot stock) ≡ true
import_rises catalogue shop lot (Copies films) = refl
import_rises catalogue shop lot (BadLine line) = refl

act_rises : (rules : Rules) (b : ℕ) (catalogue : Catalogue) (shop : Shop) (moment : Moment) (act : Act)
    → rise_from 9 (act_refusals rules b catalogue shop moment act) ≡ true
act_rises rules b catalogue shop moment (Import lot file) = import_rises catalogue shop lot (rules.stock_of file)
act_rises rules b catalogue shop moment act = refl

office_rises : (catalogue : Catalogue) (act : OfficeAct) → rise_from 7 (office_refusals catalogue act) ≡ true
office_rises catalogue (AddCountry name) = refl
office_rises catalogue act = refl

pub in_order : RefusalsAreInOrder
in_order = record {
  branch = λ rules b catalogue shop command.
      let rise = act_rises rules b catalogue shop command.moment command.act in
      record { rise = rise; lowest = lowest 6 (refusals rules b catalogue shop command) rise };
  office = λ rules catalogue command.
      let rise = office_rises catalogue command.act in
      record { rise = rise; lowest = lowest 6 ((Full, nat_le rules.commands (length catalogue.kept)) ∷ office_refusals catalogue command.act) rise };
}
