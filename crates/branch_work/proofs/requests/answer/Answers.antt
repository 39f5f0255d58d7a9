use Rattle.shop_schema.proofs.Common.{◌∙◌, refl, ap, Result, Ok, IfOk-weaker, state, does_such, within_none, verdict, shop_of, Change, Refusal, seen_command}
use Rattle.shop_types.specs.declared.change.Change.TheVariants as change
use Rattle.branch_work.specs.Rules.{rules_of}
use Rattle.branch_work.proofs.Doing.{branch_goes, again_done, accepted_done, refused_done}
use Rattle.branch_reports.proofs.Decisions.{accepted_told}
use Rattle.branch_work.proofs.requests.answer.Goals as goal

abbrev known : Change → Result Change Refusal
known it = Ok it

pub returns-in-Ok-Again-clause-does : goal.returns-in-Ok-Again-clause-does
returns-in-Ok-Again-clause-does g c = record {
  inside = within_none;
  says = λ clean. IfOk-weaker c.again.result _ _ (λ done told books holds held there agrees marked.
      let b = c.args.branch in
      let command = seen_command c.args.command.now in
      let s = state g.S.Store c.args.tx.now.conn.now in
      let rules = rules_of c.args.limits in
      let is = rw (c.in-Ok-Again.is ∙ ap known c.in-Ok-Again.field-0-is) at (c.decide.ensures rules books.catalogue (shop_of b books) refl refl agrees) in
      again_done (branch_goes c.args.limits b books command there) done s _ is told.0 holds) c.again.ensures;
}

pub returns-in-Ok-Accepted-clause-does : goal.returns-in-Ok-Accepted-clause-does
returns-in-Ok-Accepted-clause-does g c = does_such c.add.ensures.does (λ done old new told books holds held there agrees marked.
    let b = c.args.branch in
    let command = seen_command c.args.command.now in
    let rules = rules_of c.args.limits in
    let is = rw (c.in-Ok-Accepted.is ∙ ap known c.in-Ok-Accepted.field-0-is) at (c.decide.ensures rules books.catalogue (shop_of b books) refl refl agrees) in
    let added = told.1 c.args.limits books holds held agrees.act marked in
    accepted_done (branch_goes c.args.limits b books command there) done new is added.1 told.0 added.0)

pub returns-in-Err-clause-does : goal.returns-in-Err-clause-does
returns-in-Err-clause-does g c = record {
  inside = within_none;
  says = λ clean. IfOk-weaker c.refuse.result _ _ (λ done told books holds held there agrees marked.
      let b = c.args.branch in
      let command = seen_command c.args.command.now in
      let s = state g.S.Store c.args.tx.now.conn.now in
      let rules = rules_of c.args.limits in
      let is = rw c.in-Err.is at (c.decide.ensures rules books.catalogue (shop_of b books) refl refl agrees) in
      let refused = told.1 (verdict rules b books.catalogue (shop_of b books) command) is in
      refused_done (branch_goes c.args.limits b books command there) done s refused.0 refused.1 refused.2 holds) c.refuse.ensures.told;
}

pub returns-in-Ok-Again-clause-decided : goal.returns-in-Ok-Again-clause-decided
returns-in-Ok-Again-clause-decided g c = IfOk-weaker c.again.result _ _ (λ done told. accepted_told _ _ told.0) c.again.ensures
