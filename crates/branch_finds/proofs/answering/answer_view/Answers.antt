use Rattle.shop_schema.proofs.Common.{refl, subst, Decision, NoCounter}
use Rattle.shop_types.specs.Seen.{seen_view}
use Rattle.shop_model.specs.Values.{OneView}
use Rattle.shop_ledger.specs.Standings.{IsStanding}
use Rattle.sql_rows.proofs.Chaining.{done_inside}
use Rattle.branch_reports.proofs.Decisions.{refused_told}
use Rattle.branch_finds.specs.declared.work.Listing.TheVariants as list
use Rattle.branch_finds.specs.declared.work.Work.TheVariants as work
use Rattle.branch_finds.proofs.Answered.{nobody_answered, shown_answered}
use Rattle.branch_finds.proofs.answering.answer_view.Goals as goal

pub returns-in-None-clause-does : goal.returns-in-None-clause-does
returns-in-None-clause-does g c = done_inside c.in_ok-standing_at.ensures.does (λ standing books holds held.
    let found = standing books holds held in (
      found.0,
      nobody_answered c.args.branch (OneView (seen_view c.args.view)) books c.no_counter.result
          (subst (IsStanding c.args.branch books) c.in-None.is found.1) c.no_counter.ensures.reply c.no_counter.ensures.same,
    ))

pub returns-in-Some-clause-does : goal.returns-in-Some-clause-does
returns-in-Some-clause-does g c = done_inside c.in_ok-standing_at.ensures.does (λ standing books holds held.
    let found = standing books holds held in
    let stands = subst (IsStanding c.args.branch books) c.in-Some.is found.1 in
    (found.0, shown_answered c.args.branch (OneView (seen_view c.args.view)) books (work.Shows (list.View c.args.view)) stands.there refl))

pub returns-in-None-clause-decided : goal.returns-in-None-clause-decided
returns-in-None-clause-decided g c = refused_told _ (Decision NoCounter) c.no_counter.ensures.reply refl
