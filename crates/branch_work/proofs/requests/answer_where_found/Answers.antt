use Rattle.shop_schema.proofs.Common.{◌∙◌, refl, ap, Option, option_map, and_then, some_calls, within_err, within_of, within_then, seen_command}
use Rattle.std.proofs.lemmas.Result.{IfOk-from_err}
use Rattle.sql_rows.proofs.Chaining.{one_call, and_more}
use Rattle.shop_ledger.specs.declared.kept.KeptRow.{KeptRow}
use Rattle.shop_ledger.specs.Seen.{seen_kept, by_form}
use Rattle.shop_ledger.proofs.KeptLemmas.{copied_told}
use Rattle.branch_work.specs.Rules.{rules_of}
use Rattle.branch_work.proofs.Kepts.{kept_told}
use Rattle.branch_work.proofs.requests.answer_where_found.Goals as goal

pub returns-clause-does : goal.returns-clause-does
returns-clause-does g c =
    and_more (and_then (one_call c.in_ok-kept.ensures) (some_calls c.in_ok-found.ensures)) c.answer.ensures.does (λ said done works books holds held stands.
    let b = c.args.branch in
    let command = seen_command c.args.command.now in
    let rules = rules_of c.args.limits in
    let kept = said.0 books holds held.0 in
    let told =
    c.kept_found.ensures ∙ copied_told c.in_ok-form.form c.as_ref.result
    ∙ ap (λ (o : Option KeptRow). option_map (by_form c.in_ok-form.form) (option_map seen_kept o)) c.as_ref.ensures.value
    ∙ kept_told b command c.in_ok-form.form (option_map seen_kept c.in_ok-kept.kept) books.kept
    c.in_ok-form.ensures.form c.form_of.ensures.moment held.0.values.kept kept.1 in
    let found = said.1 books kept.0 held.0 in
    let it = found.1 held.1 in
    (works books found.0 held.0 stands.there (it.0.0 rules refl told stands) it.0.1, it.1))

pub returns-in_err-found-clause-does : goal.returns-in_err-found-clause-does
returns-in_err-found-clause-does g c =
    let err = c.from_residual-in_err-found.ensures.0 in
    record {
      inside = within_err (within_then (within_of c.in_ok-kept.ensures.inside) c.find_for_command.ensures.inside) err;
      says = λ clean. IfOk-from_err _ _ err;
    }
