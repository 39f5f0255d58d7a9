use Rattle.shop_schema.proofs.Common.{refl, subst, Decision, NoCounter, seen_ask}
use Rattle.shop_ledger.specs.Standings.{IsStanding}
use Rattle.shop_schema.specs.Asked.{HoldsBooks}
use Rattle.shop_ledger.proofs.Failing.{fails_after}
use Rattle.branch_finds.specs.Looks.{HoldsFor, reads_row}
use Rattle.sql_rows.proofs.Chaining.{one_call, done_inside, first_last}
use Rattle.branch_reports.proofs.Decisions.{refused_told}
use Rattle.branch_finds.proofs.Answered.{nobody_answered, shown_answered}
use Rattle.branch_finds.proofs.Telling.{branch_asks, within_by}
use Rattle.branch_finds.proofs.answering.look_where_found.Goals as goal

pub returns-in-Ok-None-clause-does : goal.returns-in-Ok-None-clause-does
returns-in-Ok-None-clause-does g c = done_inside c.in-Ok-None.ensures.does (λ standing books holds held.
    let found = standing books holds held in (
      found.0,
      nobody_answered c.args.branch (seen_ask c.args.ask) books c.no_counter.result
          (subst (IsStanding c.args.branch books) c.in-Ok-None.field-0-is found.1) c.no_counter.ensures.reply c.no_counter.ensures.same,
    ))

pub returns-in-Ok-Some-clause-does : goal.returns-in-Ok-Some-clause-does
returns-in-Ok-Some-clause-does g c =
    let looked = within_by (reads_row (seen_ask c.args.ask)) c.look.ensures.looks.does in
    first_last c.in-Ok-Some.ensures.does looked (λ standing it shown books holds held.
    let found = standing books holds held in
    let stands = subst (IsStanding c.args.branch books) c.in-Ok-Some.field-0-is found.1 in
    let seen = shown books found.0 held in
    (seen.0, shown_answered c.args.branch (seen_ask c.args.ask) books it stands.there seen.1))

pub returns-in-Ok-None-clause-decided : goal.returns-in-Ok-None-clause-decided
returns-in-Ok-None-clause-decided g c = refused_told _ (Decision NoCounter) c.no_counter.ensures.reply refl

pub returns-in-Ok-Some-clause-fails : goal.returns-in-Ok-Some-clause-fails
returns-in-Ok-Some-clause-fails g c =
    fails_after HoldsBooks (HoldsFor c.args.branch (seen_ask c.args.ask)) (one_call c.in-Ok-Some.ensures.does)
    (λ said it.
    let found = said it.0 it.1 it.2 in
    let stands = subst (IsStanding c.args.branch it.0) c.in-Ok-Some.field-0-is found.1 in
    branch_asks c.args.branch (seen_ask c.args.ask) (it.0, found.0, it.2, stands.there))
    (within_by (reads_row (seen_ask c.args.ask)) c.look.ensures.looks.does).inside c.look.ensures.fails

pub returns-in-Ok-Some-clause-still : goal.returns-in-Ok-Some-clause-still
returns-in-Ok-Some-clause-still g c = c.look.ensures.looks.still

pub returns-in-Ok-None-clause-still : goal.returns-in-Ok-None-clause-still
returns-in-Ok-None-clause-still g c row = c.no_counter.ensures.same
