use Rattle.shop_schema.proofs.Common.{◌∙◌, ◌∷◌, refl, sym, ap, ℕ, [], codes, List, Option, option_map, option_to_list, some_calls, Copy, Text, NoCopy, Decision}
use Rattle.shop_schema.proofs.Common.{held_by, object, given, HolderIs, Reply, answer_of, accepted_answer, holder_text, shop_of}
use Rattle.shop_store.specs.Seen.{seen_copy_now}
use Rattle.shop_store.specs.declared.copies.CopyNow.{CopyNow}
use Rattle.branch_finds.proofs.Shows.{first_holder}
use Rattle.shop_schema.specs.Asked.{HoldsBooks}
use Rattle.shop_ledger.proofs.Failing.{fails_after, finds_stay}
use Rattle.sql_rows.proofs.Chaining.{one_call, first_done, done_inside}
use Rattle.branch_reports.proofs.Decisions.{accepted_told, refused_told}
use Rattle.branch_finds.proofs.looks.look_holder.Goals as goal

abbrev holder : Text → Text
holder customer = object ((codes "customer", customer) ∷ [])

abbrev told : List ℕ → List Copy → Reply
told holders copies = given NoCopy (λ (_ : Copy). HolderIs holders) copies

abbrev listed : Option CopyNow → List Copy
listed o = option_to_list (option_map seen_copy_now o)

pub returns-clause-does : goal.returns-clause-does
returns-clause-does g c = first_done c.in-Ok-Some.ensures.does (some_calls c.in-Ok.ensures.does) (λ row said books holds held.
    let copy = c.args.copy in
    let shop = shop_of c.args.branch books in
    let found = row books holds held in
    let has = said copy books found.0 held in (
      has.0,
      c.accepted.ensures ∙ ap accepted_answer c.in_ok-holder_text.ensures
          ∙ ap (λ (o : Option ℕ). accepted_answer (holder (holder_text (option_to_list o)))) (has.1 (rw c.in-Ok-Some.field-0-is at found.1.1))
          ∙ ap (λ (text : Text). accepted_answer (holder text)) (first_holder (held_by copy shop.rentals))
          ∙ ap (λ (copies : List Copy). answer_of (told (held_by copy shop.rentals) copies)) (ap listed (sym c.in-Ok-Some.field-0-is) ∙ found.1.0),
    ))

pub returns-in-Ok-None-clause-does : goal.returns-in-Ok-None-clause-does
returns-in-Ok-None-clause-does g c = done_inside c.in-Ok-None.ensures.does (λ row books holds held.
    let found = row books holds held in
    let holders = held_by c.args.copy (shop_of c.args.branch books).rentals in
    (found.0, c.refused.ensures ∙ ap (λ (copies : List Copy). answer_of (told holders copies)) (ap listed (sym c.in-Ok-None.field-0-is) ∙ found.1.0)))

pub returns-clause-decided : goal.returns-clause-decided
returns-clause-decided g c = accepted_told _ _ c.accepted.ensures

pub returns-in-Ok-None-clause-decided : goal.returns-in-Ok-None-clause-decided
returns-in-Ok-None-clause-decided g c = refused_told _ (Decision NoCopy) c.refused.ensures refl

pub returns-in-Err-find_holder-clause-fails : goal.returns-in-Err-find_holder-clause-fails
returns-in-Err-find_holder-clause-fails g c =
    fails_after HoldsBooks HoldsBooks (one_call c.in-Ok-Some.ensures.does) finds_stay c.in-Err-find_holder.ensures.does.inside
    c.in-Err-find_holder.ensures.fails
