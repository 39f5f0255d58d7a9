use Rattle.shop_types.proofs.Common.{◌∙◌, ap, sym, is_eq, is_eq_index}
use Rattle.std.proofs.lemmas.Map.Text.{is_eq-slice_cmp}
use Rattle.audit_rows.proofs.order.is_same.Goals as goal

pub returns : goal.returns
returns g c = c.eq.ensures ∙ sym (is_eq_index _) ∙ ap is_eq c.compare.ensures ∙ is_eq-slice_cmp (g.T.Keyed.key c.args.a.now) (g.T.Keyed.key c.args.b.now)
