use Rattle.shop_schema.proofs.Common.{◌∙◌, ap, Option, option_map, seen_office}
use Rattle.shop_ledger.specs.declared.kept.KeptRow.{KeptRow}
use Rattle.shop_ledger.specs.Seen.{seen_kept, by_form}
use Rattle.shop_ledger.proofs.KeptLemmas.{copied_told}
use Rattle.shop_schema.proofs.OfficeOneToOne.{office_told}
use Rattle.sql_rows.proofs.Chaining.{first_last}
use Rattle.chain_requests.proofs.office_commands.answer_office.Goals as goal

pub returns-clause-does : goal.returns-clause-does
returns-clause-does g c = first_last c.in_ok-kept.ensures c.answer.ensures.does (λ said done works books holds held.
    let kept = said books holds held in
    let told =
    c.kept_found-kept.ensures ∙ copied_told c.in_ok-form.form c.as_ref.result
    ∙ ap (λ (o : Option KeptRow). option_map (by_form c.in_ok-form.form) (option_map seen_kept o)) c.as_ref.ensures.value
    ∙ office_told (seen_office c.args.command.now) c.in_ok-form.form
    (option_map seen_kept c.in_ok-kept.kept) books.catalogue.kept c.in_ok-form.ensures kept.1 in
    works books kept.0 held told)
