use Rattle.std.proofs.Common.{Bor, arith}
use Rattle.sqlite.specs.Held.{state}
use Rattle.till_cashier.specs.declared.outs.Out.{Out}
use Rattle.till_cashier.specs.Asking.{IsAnswered, IsLookedUp}
use Rattle.till_cashier.specs.Late.{IsOutOf, MayBeOf, seen_late}
use Rattle.till_cashier.proofs.GoingOn.{stays_both}
use Rattle.till_cashier.proofs.Late.{all_found, both_found, late_pushed, row_before}
use Rattle.till_cashier.proofs.overdue.table_of.Goals as goal

pub lates-preserved : goal.lates-preserved
lates-preserved g c =
    let asks = IsLookedUp (IsAnswered (g.V.Server.opens c.args.desk.now.server.now) g.V.Reader.Read.remaining g.V.Writer.Write.contents)
    c.args.desk.now.settings.now.token in
    let first = state g.S.Store c.args.conn.now in
    let old = state g.S.Store c.lates.conn in
    let new = state g.S.Store c.add_late.new.conn in
    let sheet = c.args.desk.now.sheet.now in
    let late = c.index-lates-at.result in (
      c.add_late.ensures.ended,
      (λ clean. c.lates.invariant.1 (c.add_late.ensures.clean clean)),
      (λ clean. stays_both first old new (c.lates.invariant.2 (c.add_late.ensures.clean clean)) (c.add_late.ensures.stays clean)),
      (λ clean all.
          let before = c.add_late.ensures.clean clean in
          let one = c.in-Ok.ensures.added clean
          (both_found c.out_at-out.result (λ (out : Bor Out). IsOutOf asks out.now) (λ (out : Bor Out). MayBeOf (seen_late late) out.now)
          (all_found (IsOutOf asks) (λ (out : Bor Out). out.now) c.out_at-out.result c.args.outs.now all c.out_at-out.ensures.found)
          c.out_at-out.ensures.like) in
          late_pushed asks first sheet c.args.lates.now c.lates.at late one.0 c.lates.table c.add_late.new.table (omega (arith, c.lates-test.true))
          c.index-lates-at.is (c.lates.invariant.3 before all)
          (row_before asks first old (c.lates.invariant.2 before) sheet (seen_late late) one.0 one.1) one.2),
    )
