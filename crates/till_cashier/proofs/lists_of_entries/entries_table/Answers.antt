use Rattle.std.proofs.Common.{◌<◌, [], ℕ, List, length, get_or, arith}
use Rattle.std.proofs.lemmas.Option.{slice_get-get_or}
use Rattle.till_requests.specs.Zones.{offset_of}
use Rattle.till_cashier.proofs.Listing.{one_more}
use Rattle.till_cashier.proofs.lists_of_entries.entries_table.Goals as goal

pub loop-at-preserved : goal.loop-at-preserved
loop-at-preserved g c =
    let entries : List (List ℕ) = c.args.entries.now.rows.entries in
    let low : c.loop-at.at < length entries = omega (arith, c.loop-at-test.true, c.min-at-end.ensures, c.len.ensures) in
    let request : List ℕ = get_or entries c.loop-at.at [] in
    let there = slice_get-get_or entries c.loop-at.at [] low in
    let added = c.in_ok-add_entry.ensures request there in
    one_more c.args.desk.now.wall (offset_of c.args.desk.now.settings.now.zone) c.args.desk.now.settings.now.staff
    c.args.entries.now.number c.args.entries.now.rows.replies c.args.entries.now.rows.settled entries c.loop-at.at request added.0
    c.loop-at.table c.add_entry.new.table there c.loop-at.invariant added.1 added.2
