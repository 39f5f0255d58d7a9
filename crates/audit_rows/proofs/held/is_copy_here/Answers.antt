use Rattle.shop_types.proofs.Common.{◌∙◌, sym, ap, map, list_any, at, is_here}
use Rattle.audit_rows.specs.Seen.{shop_copy}
use Rattle.audit_rows.proofs.ShopLemmas.{alone, at_found, at_missing}
use Rattle.audit_rows.proofs.held.is_copy_here.Goals as goal

pub returns-in-Some : goal.returns-in-Some
returns-in-Some c =
    let h = c.in-Some.ensures.lookup in
    c.is_here.ensures ∙ alone (is_here (shop_copy c.in-Some.row.now))
    ∙ sym (ap (list_any is_here)
    (ap (λ n. at n (map shop_copy c.args.copies.now)) (sym c.get.ensures.value)
    ∙ at_found shop_copy c.get.result c.get.ensures.bound c.args.copies.now c.in-Some.row.now h.3.0 h.1))

pub returns-in-None : goal.returns-in-None
returns-in-None c =
    let h = c.in-None.ensures.lookup in
    sym (ap (list_any is_here)
    (ap (λ n. at n (map shop_copy c.args.copies.now)) (sym c.get.ensures.value)
    ∙ at_missing shop_copy c.get.result c.get.ensures.bound c.args.copies.now h.3))
