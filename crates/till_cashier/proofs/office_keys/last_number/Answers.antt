use Rattle.std.proofs.Common.{None, Some}
use Rattle.sqlite.specs.Held.{state}
use Rattle.till_cashier.proofs.Keys.{last_of}
use Rattle.till_cashier.proofs.office_keys.last_number.Goals as goal

pub returns-in-Ok-Some-clause-last : goal.returns-in-Ok-Some-clause-last
returns-in-Ok-Some-clause-last g c clean =
    last_of (Some c.in-Ok-Some.last) (state g.S.Store c.args.conn.now) (state g.S.Store c.last_accepted.new.conn)
    (rw c.in-Ok-Some.field-0-is at (c.in-Ok-Some.ensures.found clean))

pub returns-in-Ok-None-clause-last : goal.returns-in-Ok-None-clause-last
returns-in-Ok-None-clause-last g c clean =
    last_of None (state g.S.Store c.args.conn.now) (state g.S.Store c.last_accepted.new.conn)
    (rw c.in-Ok-None.field-0-is at (c.in-Ok-None.ensures.found clean))
