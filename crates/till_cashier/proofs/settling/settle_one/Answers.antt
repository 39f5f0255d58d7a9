use Rattle.sqlite.specs.Held.{state}
use Rattle.till_cashier.proofs.GoingOn.{settling_same}
use Rattle.std.proofs.Common.{◌-◌, arith}
use Rattle.till_work.proofs.Stops.{settling_leaves}
use Rattle.till_cashier.proofs.settling.settle_one.Goals as goal

pub returns-clause-same : goal.returns-clause-same
returns-clause-same g c clean kept =
    settling_same (g.V.Server.opens c.args.desk.now.server.now) g.V.Reader.Read.remaining
    g.V.Writer.Write.contents c.args.number c.settle-settled.result (state g.S.Store c.args.conn.now)
    (state g.S.Store c.settle-settled.new.conn) c.in-Ok.reader c.settle-settled.new.reader
    c.in-Ok.writer c.settle-settled.new.writer c.requires.numbered c.in-Ok.ensures.opened
    (c.settle-settled.ensures.settles clean) (c.settle-settled.ensures.fault clean) (c.say_settled.ensures kept)

pub returns-clause-crash : goal.returns-clause-crash
returns-clause-crash g c clean =
    settling_leaves (g.V.Server.opens c.args.desk.now.server.now) g.V.Reader.Read.remaining g.V.Writer.Write.contents c.args.number
    (state g.S.Store c.args.conn.now) (state g.S.Store c.settle-settled.new.conn) c.in-Ok.reader c.settle-settled.new.reader
    c.in-Ok.writer c.settle-settled.new.writer (c.args.number - 1) (omega (arith, c.requires.numbered)) c.in-Ok.ensures.opened
    clean c.settle-settled.ensures.crash
