use Rattle.shop_schema.proofs.Common.{and_then, done, some_calls}
use Rattle.sql_rows.proofs.Chaining.{one_call}
use Rattle.branch_finds.proofs.commands.find_for_command.Goals as goal

pub returns : goal.returns
returns g c = done (and_then (one_call c.in_ok-staff.ensures.does) (some_calls c.in_ok-rows.ensures)) (λ said books holds held.
    let staff = said.0 books holds held in
    let rows = said.1 books staff.0 held in (
      rows.0,
      λ known.
          let it = rows.1 known in (
            ((λ rules reads kept stands. record { kept = kept; keys = stands.keys; last = stands.last; staff = staff.1; act = it.0.0 rules reads }), it.0.1),
            it.1,
          ),
    ))
