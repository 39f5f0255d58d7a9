use Rattle.shop_schema.proofs.Common.{◌≡◌, ◌∙◌, refl, sym, ap, Bool, List, Option, option_map, option_to_list, Copy, NoCopy, Decision, in_stock, given}
use Rattle.shop_schema.proofs.Common.{InStockIs, Reply, Shows, answer_of, accepted_answer, shop_of}
use Rattle.shop_store.specs.Seen.{seen_copy_now}
use Rattle.shop_store.specs.declared.copies.CopyNow.{CopyNow}
use Rattle.branch_finds.proofs.Shows.{stock_of_out}
use Rattle.sql_rows.proofs.Chaining.{done_inside}
use Rattle.branch_reports.proofs.Decisions.{accepted_told, refused_told}
use Rattle.branch_finds.proofs.looks.look_in_stock.Goals as goal

abbrev told : Bool → List Copy → Reply
told is_in copies = given NoCopy (λ (_ : Copy). InStockIs is_in) copies

abbrev listed : Option CopyNow → List Copy
listed o = option_to_list (option_map seen_copy_now o)

pub returns-in_ok-in_stock_text-in-Ok-Some-clause-does : goal.returns-in_ok-in_stock_text-in-Ok-Some-clause-does
returns-in_ok-in_stock_text-in-Ok-Some-clause-does g c = done_inside c.in-Ok-Some.ensures.does (λ row books holds held.
    let rentals = (shop_of c.args.branch books).rentals in
    let found = row books holds held in
    let is_in : c.is_none.result ≡ in_stock c.args.copy rentals =
    stock_of_out c.args.copy rentals c.in-Ok-Some.found.out _ c.is_none.ensures (rw c.in-Ok-Some.field-0-is at found.1.1) in
    let shows : Bool → Reply = λ b. Shows (InStockIs b) in (
      found.0,
      c.accepted.ensures ∙ ap accepted_answer c.in_ok-in_stock_text-in-Ok-Some.ensures ∙ ap (λ (b : Bool). answer_of (shows b)) is_in
          ∙ ap (λ (copies : List Copy). answer_of (told (in_stock c.args.copy rentals) copies)) (ap listed (sym c.in-Ok-Some.field-0-is) ∙ found.1.0),
    ))

pub returns-in-Ok-None-clause-does : goal.returns-in-Ok-None-clause-does
returns-in-Ok-None-clause-does g c = done_inside c.in-Ok-None.ensures.does (λ row books holds held.
    let found = row books holds held in (
      found.0,
      c.refused.ensures
          ∙ ap (λ (copies : List Copy). answer_of (told (in_stock c.args.copy (shop_of c.args.branch books).rentals) copies))
          (ap listed (sym c.in-Ok-None.field-0-is) ∙ found.1.0),
    ))

pub returns-in_ok-in_stock_text-in-Ok-Some-clause-decided : goal.returns-in_ok-in_stock_text-in-Ok-Some-clause-decided
returns-in_ok-in_stock_text-in-Ok-Some-clause-decided g c = accepted_told _ _ c.accepted.ensures

pub returns-in-Ok-None-clause-decided : goal.returns-in-Ok-None-clause-decided
returns-in-Ok-None-clause-decided g c = refused_told _ (Decision NoCopy) c.refused.ensures refl
