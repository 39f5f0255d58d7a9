use Rattle.shop_types.proofs.Common.{◌≡◌, ◌∙◌, ◌++◌, Some, List, ℕ, ap, Decides-eqb, strip_prefix_is, strip_suffix_is}
use Rattle.till_shows.specs.Refused.{line_start, line_end}
use Rattle.till_shows.proofs.NumberLemmas.{between_ends}
use Rattle.till_shows.proofs.refused.digits_in.Goals as goal

pub returns-clause-some : goal.returns-clause-some
returns-clause-some c =
    let body = c.args.body.now in
    let rest = c.in_ok-rest.rest in
    let front : body ≡ line_start ++ rest.now =
    strip_prefix_is Decides-eqb body c.as_slice.result.now (Some rest) c.in_ok-rest.ensures.cases ∙ ap (λ (l : List ℕ). l ++ rest.now) c.as_slice.ensures in
    let back = strip_suffix_is Decides-eqb rest.now c.as_slice-2.result.now c.strip_suffix.result c.strip_suffix.ensures.cases in
    between_ends body line_start rest.now line_end c.strip_suffix.result front (rw c.as_slice-2.ensures at back)
