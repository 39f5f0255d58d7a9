use Rattle.std.proofs.Common.{string_bytes}
use Rattle.shop_types.specs.Seen.{seen_command}
use Rattle.till_requests.specs.Zones.{offset_of}
use Rattle.till_cashier.proofs.Listing.{asked_as, ok_any}
use Rattle.till_cashier.proofs.Printing.{if_ok_so}
use Rattle.till_cashier.proofs.lists_of_entries.asked_at.Goals as goal

pub returns-in-Ok : goal.returns-in-Ok
returns-in-Ok g c =
    if_ok_so c.command_line.result _ _ c.command_line.ensures
    (λ what shows. asked_as c.args.desk.now.wall (offset_of c.args.desk.now.settings.now.zone) c.args.entries.now.rows.entries c.args.at
    (seen_command c.in-Ok.command) (string_bytes what) c.in-Ok.ensures.says shows)

pub returns-in-Err-OtherBook : goal.returns-in-Err-OtherBook
returns-in-Err-OtherBook g c =
    ok_any c.words_line.result _
    (λ what request there command says. absurd (c.in-Err-OtherBook.ensures.other c.in-Err-OtherBook.field-0-is command (request, there, says)))
