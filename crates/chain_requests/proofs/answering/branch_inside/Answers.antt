use Rattle.shop_schema.proofs.Common.{refl, sym, subst, inl, inr, state, Counter, seen_ask, seen_request}
use Rattle.shop_model.specs.Values.{OneView}
use Rattle.shop_types.specs.Seen.{seen_view}
use Rattle.shop_types.specs.declared.request.Request.{Request}
use Rattle.shop_types.specs.declared.request.Request.TheVariants as request
use Rattle.chain_caches.proofs.FilmSteps.{rows_by_branch}
use Rattle.sql_rows.proofs.Chaining.{done_inside}
use Rattle.branch_work.specs.Rules.{rules_of}
use Rattle.branch_work.specs.Works.{IsDone}
use Rattle.chain_requests.proofs.Looking.{decision_for, look_come, office_refused, no_list, no_row_look, still_for}
use Rattle.chain_requests.proofs.Wells.{passed_on}
use Rattle.chain_requests.proofs.answering.branch_inside.Goals as goal

pub returns-in_ok-done-in-Do-clause-does : goal.returns-in_ok-done-in-Do-clause-does
returns-in_ok-done-in-Do-clause-does g c = done_inside c.in_ok-done-in-Do.ensures.does (λ works books holds held.
    let it = works books holds (held.0, held.1) in
    let P : Request → Type 0 = λ request.
    IsDone c.args.limits (Counter c.args.branch) (seen_request request) c.in_ok-done-in-Do.done (state g.S.Store c.answer_command.new.tx.conn.now) books in
    (subst P (sym c.in-Do.is) it.0, rows_by_branch _ (rules_of c.args.limits) c.args.branch (seen_request c.args.request.now) books it.1))

pub returns-in_ok-look-in-Look-clause-does : goal.returns-in_ok-look-in-Look-clause-does
returns-in_ok-look-in-Look-clause-does g c = done_inside c.in_ok-look-in-Look.ensures.does (λ looks books holds held.
    let found = looks books holds held.0 in
    let come =
    look_come c.args.limits c.args.branch books (seen_ask c.in-Look.ask) c.in_ok-look-in-Look.look
    (state g.S.Store c.answer_look.new.tx.conn.now) (found.1 held.2) found.0 in
    (rw (c.in-Look.is, c.for_branch.ensures) come, rows_by_branch _ (rules_of c.args.limits) c.args.branch (seen_request c.args.request.now) books held.1))

pub returns-in_ok-look-in-View-clause-does : goal.returns-in_ok-look-in-View-clause-does
returns-in_ok-look-in-View-clause-does g c = done_inside c.in_ok-look-in-View.ensures.does (λ looks books holds held.
    let found = looks books holds held.0 in
    let come =
    look_come c.args.limits c.args.branch books (OneView (seen_view c.in-View.view)) c.in_ok-look-in-View.look
    (state g.S.Store c.answer_view.new.tx.conn.now) found.1 found.0 in (
      rw (c.in-View.is, c.for_branch-in-View.ensures) come,
      rows_by_branch _ (rules_of c.args.limits) c.args.branch (seen_request c.args.request.now) books held.1,
    ))

pub returns-in_ok-done-in-Office-clause-does : goal.returns-in_ok-done-in-Office-clause-does
returns-in_ok-done-in-Office-clause-does g c = done_inside c.in_ok-done-in-Office.ensures.does (λ refuses books holds held.
    let found = refuses books holds held.0 in
    let s = state g.S.Store c.refuse_office.new.tx.conn.now in
    let it = c.in_ok-done-in-Office.done in
    let P : Request → Type 0 = λ request. IsDone c.args.limits (Counter c.args.branch) (seen_request request) it s books in
    let done : P c.args.request.now = elim c.in-Office.is [
      | inl is ↦ subst P (sym is.1) (office_refused c.args.limits c.args.branch books (seen_request (request.Office is.0)) it s refl refl found.1.0 found.0)
      | inr is ↦ subst P (sym is.1) (office_refused c.args.limits c.args.branch books (seen_request (request.OfficeLook is.0)) it s refl refl found.1.0 found.0)
    ] in
    (done, rows_by_branch _ (rules_of c.args.limits) c.args.branch (seen_request c.args.request.now) books held.1))

pub returns-in_ok-look-in-Look-clause-decided : goal.returns-in_ok-look-in-Look-clause-decided
returns-in_ok-look-in-Look-clause-decided g c =
    rw c.for_branch.ensures (decision_for c.args.branch c.in_ok-look-in-Look.look c.in_ok-look-in-Look.ensures.decided)

pub returns-in_ok-look-in-View-clause-decided : goal.returns-in_ok-look-in-View-clause-decided
returns-in_ok-look-in-View-clause-decided g c =
    rw c.for_branch-in-View.ensures (decision_for c.args.branch c.in_ok-look-in-View.look c.in_ok-look-in-View.ensures.decided)

pub returns-in_err-done-in-Do-clause-fails : goal.returns-in_err-done-in-Do-clause-fails
returns-in_err-done-in-Do-clause-fails g c row = absurd (no_row_look (request.Do c.in-Do.command) c.in-Do.is refl row)

pub returns-in_ok-done-in-Do-clause-still : goal.returns-in_ok-done-in-Do-clause-still
returns-in_ok-done-in-Do-clause-still g c row = absurd (no_row_look (request.Do c.in-Do.command) c.in-Do.is refl row)

pub returns-in_err-look-in-Look-clause-fails : goal.returns-in_err-look-in-Look-clause-fails
returns-in_err-look-in-Look-clause-fails g c row clean ready books =
    passed_on c.from_residual-in_err-look-in-Look.result c.in_err-look-in-Look.field-0.0 (c.in_err-look-in-Look.ensures.fails clean ready books)
    c.from_residual-in_err-look-in-Look.ensures.1

pub returns-in_ok-look-in-Look-clause-still : goal.returns-in_ok-look-in-Look-clause-still
returns-in_ok-look-in-Look-clause-still g c row =
    rw c.for_branch.ensures (still_for c.args.branch c.in_ok-look-in-Look.look
    (c.in_ok-look-in-Look.ensures.still (no_list (seen_ask c.in-Look.ask) (rw c.in-Look.is at row))))

pub returns-in_err-look-in-View-clause-fails : goal.returns-in_err-look-in-View-clause-fails
returns-in_err-look-in-View-clause-fails g c row = absurd (no_row_look (request.View c.in-View.view) c.in-View.is refl row)

pub returns-in_ok-look-in-View-clause-still : goal.returns-in_ok-look-in-View-clause-still
returns-in_ok-look-in-View-clause-still g c row = absurd (no_row_look (request.View c.in-View.view) c.in-View.is refl row)

pub returns-in_err-done-in-Office-clause-fails : goal.returns-in_err-done-in-Office-clause-fails
returns-in_err-done-in-Office-clause-fails g c row = elim c.in-Office.is [
  | inl is ↦ absurd (no_row_look (request.Office is.0) is.1 refl row)
  | inr is ↦ absurd (no_row_look (request.OfficeLook is.0) is.1 refl row)
]

pub returns-in_ok-done-in-Office-clause-still : goal.returns-in_ok-done-in-Office-clause-still
returns-in_ok-done-in-Office-clause-still g c row = elim c.in-Office.is [
  | inl is ↦ absurd (no_row_look (request.Office is.0) is.1 refl row)
  | inr is ↦ absurd (no_row_look (request.OfficeLook is.0) is.1 refl row)
]
