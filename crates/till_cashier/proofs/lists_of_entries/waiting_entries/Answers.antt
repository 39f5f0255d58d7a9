use Rattle.std.proofs.Common.{subst, string_bytes, ℕ}
use Rattle.std.specs.Prelude.{codes}
use Rattle.sqlite.specs.Held.{state}
use Rattle.till_requests.specs.Zones.{offset_of}
use Rattle.till_cashier.specs.Listing.{ShowsEntries}
use Rattle.till_cashier.proofs.Printing.{if_ok_so}
use Rattle.till_cashier.proofs.lists_of_entries.waiting_entries.Goals as goal

pub returns-clause-says : goal.returns-clause-says
returns-clause-says g c clean =
    if_ok_so c.entries_after.result _ _ (c.entries_after.ensures.says clean)
    (λ said shows journal has.
    subst (λ (n : ℕ). ShowsEntries c.args.desk.now.wall (offset_of c.args.desk.now.settings.now.zone) c.args.desk.now.settings.now.staff
    (codes "nothing waits") n journal (string_bytes said.text)) has.replies (shows journal has.rests))
