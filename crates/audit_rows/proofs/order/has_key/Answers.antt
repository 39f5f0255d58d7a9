use Rattle.shop_types.proofs.Common.{rules, ◌∙◌, nat_cmp, slice_cmp}
use Rattle.std.proofs.lemmas.Fn.{always_returns_same}
use Rattle.audit_rows.proofs.Searches.{searched_key}
use Rattle.audit_rows.proofs.order.has_key.Goals as goal

pub returns : goal.returns
returns g c =
    c.is_ok.ensures.value
    ∙ searched_key g.T.Keyed.key (g.T.Keyed.key c.args.wanted.now) c.args.rows.now _ c.binary_search_by.ensures.bound
    (c.binary_search_by.ensures.position (λ y. slice_cmp nat_cmp (g.T.Keyed.key y) (g.T.Keyed.key c.args.wanted.now))
    (always_returns_same _ _ _ (λ a r q h. search rules)))
    c.requires
