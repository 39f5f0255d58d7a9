use Rattle.shop_schema.proofs.Common.{◌≤◌, arith, refl, sym, and_last, and_then, seen_command, counts_of, raise}
use Rattle.sql_rows.proofs.Chaining.{one_call}
use Rattle.shop_ledger.proofs.CountsOf.{beside}
use Rattle.branch_work.proofs.Counting.{kept_added}
use Rattle.branch_work.proofs.adding.keep.Goals as goal
use Rattle.shop_schema.specs.Counts.{kept_kind}

pub returns : goal.returns
returns g c =
    and_last (and_then (one_call c.in_ok-take_numbers.ensures.does) (one_call c.in_ok-put_kept.ensures)) c.set_last.ensures.inside c.set_last.ensures.says
    (λ said y last books holds once.
    let b = c.args.branch in
    let low : 1 ≤ b = omega arith in
    let command = seen_command c.args.command.now in
    let counts = raise b kept_kind 1 (counts_of books) in
    let counted = said.0 (counts_of books) books (beside _ books holds) once in
    let kept = said.1 command refl (sym c.requires) counts books counted.0 tt in
    kept_added _ b command c.args.reply.now books low holds.stands.more.termed (last counts _ kept tt))
