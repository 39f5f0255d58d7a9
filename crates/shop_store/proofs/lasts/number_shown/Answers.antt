use Rattle.shop_schema.proofs.Common.{rules, inside_as}
use Rattle.shop_store.proofs.LastNumbers.{first_number}
use Rattle.shop_store.proofs.lasts.number_shown.Goals as goal

pub returns : goal.returns
returns g c = record {
  inside = inside_as c.in_ok-query_first.ensures.inside;
  says = λ clean.
      let these = c.in_ok-query_first.ensures.shown clean in
      (these.0, these.1, rw c.unwrap_or.ensures (first_number (λ row n says. search rules) these.0 c.in_ok-query_first.field-0 these.2));
}
