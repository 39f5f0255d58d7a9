use Rattle.std.proofs.Common.{◌∙◌, ◌+◌, ap, arith}
use Rattle.sqlite.specs.Held.{state}
use Rattle.sqlite.specs.State.{HasCleanDisk}
use Rattle.till_cashier.specs.Office.{key_after}
use Rattle.till_cashier.proofs.Keys.{open_after}
use Rattle.till_cashier.proofs.office_keys.read_tail.Goals as goal

pub returns-clause-key : goal.returns-clause-key
returns-clause-key g c clean =
    let before : HasCleanDisk (state g.S.Store c.last_number.new.conn) = omega (arith, clean, c.read_after.ensures.crash.clean) in
    open_after c.in_ok-last.last c.in_ok-keys.keys.open c.in-Ok.rows (state g.S.Store c.args.conn.now) (state g.S.Store c.last_number.new.conn)
    (state g.S.Store c.read_after.new.conn) (c.in_ok-last.ensures.last before) (c.in-Ok.ensures.found clean)
    (c.in_ok-keys.ensures ∙ ap (key_after (c.in_ok-last.last + 1) (c.in_ok-last.last + 1)) c.as_slice.ensures)
