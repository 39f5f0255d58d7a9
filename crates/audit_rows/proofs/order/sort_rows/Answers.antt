use Rattle.shop_types.proofs.Common.{rules, is_lt, nat_cmp, slice_cmp, nat_list_cmp_total, ranks_by, answers_always}
use Rattle.audit_rows.proofs.order.sort_rows.Goals as goal

pub returns-clause-sorted : goal.returns-clause-sorted
returns-clause-sorted g c =
    c.sort_unstable_by.ensures.sorted (λ x y. is_lt (slice_cmp nat_cmp (g.T.Keyed.key x) (g.T.Keyed.key y))) (ranks_by nat_list_cmp_total g.T.Keyed.key)
    (answers_always _ _ _ (λ f a r q h. search rules))
