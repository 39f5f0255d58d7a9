use Rattle.shop_types.proofs.Common.{◌∙◌, ap, subst, List, ℕ, IsPermutation, IsPermutation-sym, IsPermutation-trans}
use Rattle.audit_rows.specs.Lists.{counts_from}
use Rattle.audit_rows.proofs.ConsignmentLemmas.{sorted_counts}
use Rattle.audit_rows.proofs.consignments.places_count.Goals as goal

pub returns : goal.returns
returns c places p s =
    let bag = subst (λ (ns : List ℕ). IsPermutation ns c.sort_unstable.new.self.items) c.in_ok-places.ensures c.sort_unstable.ensures.permutation in
    c.counts.ensures ∙ ap (counts_from 1) c.as_slice.ensures.value
    ∙ sorted_counts c.sort_unstable.new.self.items places (IsPermutation-trans _ _ _ (IsPermutation-sym _ _ bag) p) c.sort_unstable.ensures.sorted s
