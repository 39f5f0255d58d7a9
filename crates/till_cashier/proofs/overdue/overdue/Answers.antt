use Rattle.std.proofs.Common.{◌≡◌, List, Some, inl, inr, map, refl, string_bytes, subst, sym}
use Rattle.std.specs.List.{All}
use Rattle.sqlite.specs.Held.{state}
use Rattle.shop_model.specs.Values.{Text, Overdue}
use Rattle.till_client.specs.Replies.{seen_answer}
use Rattle.till_shows.specs.Lists.{overdue_fields, whole_table}
use Rattle.till_cashier.specs.declared.outs.Out.{Out}
use Rattle.till_cashier.specs.declared.overdue.Late.{Late}
use Rattle.till_cashier.specs.Asking.{IsAnswered, IsLookedUp}
use Rattle.till_cashier.specs.Late.{IsOutOf, TablesLate, lates_in, seen_late}
use Rattle.till_cashier.specs.Looking.{ShowsLate}
use Rattle.till_cashier.proofs.Doing.{ok_then}
use Rattle.till_cashier.proofs.Looking.{adds_shown}
use Rattle.till_cashier.proofs.overdue.overdue.Goals as goal

pub returns-then-is_empty-clause-says : goal.returns-then-is_empty-clause-says
returns-then-is_empty-clause-says g c clean =
    let asks = IsLookedUp (IsAnswered (g.V.Server.opens c.args.desk.now.server.now) g.V.Reader.Read.remaining g.V.Writer.Write.contents)
    c.args.desk.now.settings.now.token in
    let old = string_bytes c.args.said.now.text in
    let mid = string_bytes c.says_all.new.said.text in
    let new = string_bytes c.says_list.new.said.text in
    ok_then c.says_list.result c.says_list.ensures.said
    (λ adds. (
      c.in_ok-now.field-0,
      c.in_ok-now.ensures,
      adds_shown (asks (Overdue c.in_ok-now.field-0)) c.args.desk.now.is_json
          (ShowsLate asks (state g.S.Store c.args.conn.now) c.args.desk.now.sheet.now) (seen_answer c.in_ok-answer.answer) c.in_ok-says_all.field-0 old mid new
          c.args.said.now.status c.says_all.new.said.status c.says_list.new.said.status c.if-branch.false c.in_ok-answer.ensures
          c.in_ok-says_all.ensures.said c.in_ok-says_all.ensures.status (
            adds.0,
            inl (
              adds.1.0,
              subst (λ (b : Text). whole_table overdue_fields b ≡ Some adds.1.0) c.as_slice-body.ensures.value adds.1.1,
              adds.1.2,
            ),
            adds.2,
          ) c.says_list.ensures.status,
    ))

pub returns-clause-says : goal.returns-clause-says
returns-clause-says g c clean =
    let asks = IsLookedUp (IsAnswered (g.V.Server.opens c.args.desk.now.server.now) g.V.Reader.Read.remaining g.V.Writer.Write.contents)
    c.args.desk.now.settings.now.token in
    let book = state g.S.Store c.args.conn.now in
    let sheet = c.args.desk.now.sheet.now in
    let lates : List (List Text) = map seen_late c.in-Some.lates.items in
    let table = c.in_ok-table.table in
    let all : All (IsOutOf asks) c.as_slice-4.result.now =
    subst (λ (outs : List Out). All (IsOutOf asks) outs) (sym c.as_slice-4.ensures.value) c.outs_of-outs.ensures in
    let rows : TablesLate asks book sheet lates table =
    subst (λ (them : List Late). TablesLate asks book sheet (map seen_late them) table) c.as_slice-3.ensures.value (c.in_ok-table.ensures.rows clean all) in
    let listed = subst (λ (b : Text). lates_in b ≡ Some lates) c.as_slice-body.ensures.value c.in-Some.ensures in
    ok_then c.says_table.result c.says_table.ensures.said
    (λ same. (
      c.in_ok-now.field-0,
      c.in_ok-now.ensures,
      adds_shown (asks (Overdue c.in_ok-now.field-0)) c.args.desk.now.is_json (ShowsLate asks book sheet) (seen_answer c.in_ok-answer.answer)
          c.in_ok-says_all.field-0
          (string_bytes c.args.said.now.text) (string_bytes c.says_all.new.said.text) (string_bytes c.says_table.new.said.text)
          c.args.said.now.status c.says_all.new.said.status c.says_table.new.said.status c.if-branch.false c.in_ok-answer.ensures
          c.in_ok-says_all.ensures.said c.in_ok-says_all.ensures.status (_, inr (lates, listed, (table, rows, refl)), same) c.says_table.ensures.status,
    ))
