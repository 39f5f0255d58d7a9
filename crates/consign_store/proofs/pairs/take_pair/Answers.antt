use Rattle.shop_schema.proofs.Common.{◌≡◌, ◌∙◌, ℕ, List, Some, Result, sym, ap, inside_as, IfOk, slice_get, IfOk-weaker, column, number_value, TellsFirst}
use Rattle.sqlite_value.specs.Order as sql
use Rattle.consign_store.proofs.PairTexts.{tallies_pair}
use Rattle.consign_store.proofs.pairs.take_pair.Goals as goal

told_number : {E : Type 0} (rows slice : List sql.Row) (P : ℕ → Type 0) (r : Result ℕ E)
    → slice ≡ rows → IfOk r (λ n. TellsFirst (λ row m. column row 0 ≡ number_value m) slice (Some n))
    → ((row : sql.Row) (n : ℕ) → slice_get rows 0 ≡ Some row → column row 0 ≡ number_value n → P n) → IfOk r P
told_number rows slice P r same told some = IfOk-weaker r _ P (λ n it. some it.0 n (ap (λ rs. slice_get rs 0) (sym same) ∙ sym it.1) it.2) told

pub returns : goal.returns
returns g c = record {
  inside = inside_as c.in_ok-rows.ensures.inside;
  says = λ clean.
      let shown = rw (c.to_sql.ensures, c.get.ensures.value, c.to_sql-2.ensures, c.get-2.ensures.value) at (c.in_ok-rows.ensures.shown clean) in
      told_number _ _ _ c.first_number.result c.as_slice.ensures.value c.first_number.ensures (tallies_pair _ _ c.args.source c.args.addressee _ shown);
}
