use Rattle.std.proofs.Common.{◌∙◌, ap, sym, map, true≢false}
use Rattle.audit_rows.specs.Lists.{climbs}
use Rattle.audit_rows.proofs.Keys.{distinct_by_order}
use Rattle.books_audit.proofs.lists.read_keyed.Goals as goal

pub returns-then-not-climbs-clause-none : goal.returns-then-not-climbs-clause-none
returns-then-not-climbs-clause-none g c e h =
    let is = c.climbs.ensures ∙ ap (λ xs. climbs (map g.T.Keyed.key xs)) c.as_slice.ensures.value in
    true≢false (sym (h.different c.in-Some.all.items (rw (c.of.ensures, c.in-Some.is) at c.in_ok-all.ensures.found))
    ∙ sym (distinct_by_order g.T.Keyed.key _ _ c.sort_rows.ensures.permutation c.sort_rows.ensures.sorted) ∙ sym is ∙ c.if-not-climbs.true)
