use Rattle.shop_schema.proofs.Common.{does_such}
use Rattle.branch_finds.proofs.Singles.{singles_agree}
use Rattle.branch_finds.proofs.commands.find_rows.Goals as goal

pub returns-in-Rent : goal.returns-in-Rent
returns-in-Rent g c = rw c.in-Rent.is c.find_for_rental.ensures

pub returns-in-Import : goal.returns-in-Import
returns-in-Import g c = rw c.in-Import.is (does_such c.find_for_import.ensures (λ found old new reads. reads c.args.command.now.at))

pub returns-in-Dispatch : goal.returns-in-Dispatch
returns-in-Dispatch g c =
    rw c.in-Dispatch.is
    (does_such c.find_for_dispatch.ensures
    (λ found old new reads books holds held. let it = reads c.args.command.now.at books holds held in (it.0, λ known. (it.1, known))))

pub returns-in-Receive : goal.returns-in-Receive
returns-in-Receive g c =
    rw c.in-Receive.is
    (does_such c.find_for_receipt.ensures
    (λ found old new reads books holds held. let it = reads c.args.command.now.at c.in-Receive.missing books holds held in (it.0, λ known. (it.1, known))))

pub returns-in_default : goal.returns-in_default
returns-in_default g c = does_such c.find_named.ensures (λ found old new reads books holds held.
    let it = reads books holds held in (
      it.0,
      λ known.
          let rows = it.1 known in (
            singles_agree c.args.command.now.act c.in_default.not-Rent c.in_default.not-Import c.in_default.not-Dispatch
                c.in_default.not-Receive c.args.branch c.args.command.now.at found books (rw c.named_rows.ensures at rows.0),
            rows.1,
          ),
    ))
