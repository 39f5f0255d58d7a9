use Rattle.shop_types.proofs.Common.{◌==◌, ◌∙◌, sym, ap, list_any, at}
use Rattle.audit_rows.specs.declared.rows.CheckedStaff.{CheckedStaff}
use Rattle.audit_rows.proofs.ShopLemmas.{alone, at_place, at_no_place}
use Rattle.audit_rows.proofs.links.is_staff_of.Goals as goal

pub returns-in-Some : goal.returns-in-Some
returns-in-Some c =
    let h = c.in-Some.ensures.lookup in
    ap (λ n. n == c.args.branch) c.get-in-Some.ensures.value ∙ alone (c.in-Some.row.now.branch == c.args.branch)
    ∙ sym (ap (list_any (λ (row : CheckedStaff). row.branch == c.args.branch))
    (ap (λ n. at n c.args.staff.now) (sym c.get.ensures.value)
    ∙ at_place c.get.result c.get.ensures.bound c.args.staff.now c.in-Some.row.now h.3.0 h.1))

pub returns-in-None : goal.returns-in-None
returns-in-None c =
    let h = c.in-None.ensures.lookup in
    sym (ap (list_any (λ (row : CheckedStaff). row.branch == c.args.branch))
    (ap (λ n. at n c.args.staff.now) (sym c.get.ensures.value) ∙ at_no_place c.get.result c.get.ensures.bound c.args.staff.now h.3))
