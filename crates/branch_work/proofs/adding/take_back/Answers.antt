use Rattle.shop_schema.proofs.Common.{◌∙◌, sym, ap, option_map, Some, and_then, Rental, counts_of, drop_out}
use Rattle.sql_rows.proofs.Chaining.{one_call}
use Rattle.shop_ledger.proofs.CountsOf.{agreed, beside}
use Rattle.shop_ledger.proofs.Agreeing.{returned_counted, its_rentals, out_once}
use Rattle.branch_core.specs.Agreed.{seen_rental}
use Rattle.branch_work.proofs.Acted.{carried_out, copy_found}
use Rattle.branch_work.proofs.TermLemmas.{set_termed}
use Rattle.branch_work.proofs.adding.take_back.Goals as goal

pub returns : goal.returns
returns g c = carried_out (and_then (one_call c.in_ok-set_returned.ensures) (one_call c.in_ok-drop_out.ensures)) (λ said rules books holds held agrees marked.
    let b = c.args.branch in
    let r = c.args.rental in
    let x = c.in-Some.found.copy in
    let m = c.args.command.now.at in
    let set = said.0 (counts_of books) books (beside _ books holds) held in
    let copy = copy_found b r c.in-Some.found books held (ap (option_map seen_rental) (sym c.in-Some.is) ∙ agrees.rental) in
    let dropped = said.1 (counts_of books) _ set (out_once b r x books copy) in (
      agreed _ _ (drop_out b x r (counts_of books)) (returned_counted b r x m books (its_rentals b r x books.rentals copy))
          (set_termed b r (λ (it : Rental). record it { returned = Some m }) books holds.stands.more.termed) dropped.0,
      c.in_ok-number_text.ensures,
      tt,
    ))
