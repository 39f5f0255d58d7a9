use Rattle.std.proofs.Common.{◌≡◌, ◌∙◌, List, ℕ, ap, sym, subst, string_bytes, arith, length, take}
use Rattle.std.proofs.lemmas.List.{take_all}
use Rattle.sqlite.specs.Held.{state}
use Rattle.till_requests.specs.Zones.{offset_of}
use Rattle.till_cashier.specs.Listing.{TablesEntries}
use Rattle.till_cashier.proofs.Listing.{read_shows}
use Rattle.till_cashier.proofs.Printing.{if_ok_so}
use Rattle.till_cashier.proofs.lists_of_entries.entries_after.Goals as goal

pub returns-clause-says : goal.returns-clause-says
returns-clause-says g c clean =
    let rows = c.in_ok-entries.entries.rows in
    let all : take c.len.result rows.entries ≡ rows.entries = take_all c.len.result rows.entries (omega (arith, c.len.ensures)) in
    if_ok_so c.shown.result _ _ c.shown.ensures.says
    (λ said shown.
    read_shows c.args.desk.now.wall (offset_of c.args.desk.now.settings.now.zone) c.args.desk.now.settings.now.staff
    c.args.number c.in_ok-entries.entries.number c.args.none.now (string_bytes said.text) rows (state g.S.Store c.args.conn.now)
    (state g.S.Store c.read.new.conn) (c.in_ok-entries.ensures.found clean) c.in_ok-entries.ensures.first (
      shown.0,
      subst (λ (requests : List (List ℕ)). TablesEntries c.args.desk.now.wall (offset_of c.args.desk.now.settings.now.zone)
          c.args.desk.now.settings.now.staff c.in_ok-entries.entries.number rows.replies rows.settled requests shown.0) all shown.1,
      shown.2,
    ))
