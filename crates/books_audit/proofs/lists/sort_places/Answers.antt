use Rattle.shop_schema.proofs.Common.{rules, is_lt, nat_cmp, nat_cmp_total, ranks_by, answers_always}
use Rattle.books_audit.proofs.lists.sort_places.Goals as goal

pub returns-clause-sorted : goal.returns-clause-sorted
returns-clause-sorted g c =
    c.sort_unstable_by.ensures.sorted (λ x y. is_lt (nat_cmp (g.T.Shared.place x) (g.T.Shared.place y))) (ranks_by nat_cmp_total g.T.Shared.place)
    (answers_always _ _ _ (λ f a r q h. search rules))
