use Rattle.std.proofs.Common.{◌≡◌, ◌-◌, ◌^◌}
use Rattle.sql_rows.proofs.EachLemmas.{Going}
use Rattle.sql_rows.proofs.each.take_all.Given as goal

-- the rows so far were taken, and nothing else was done
abbrev pub invariant-rows : goal.invariant-rows
invariant-rows g l =
    (l.rows.conn.ghost_name ≡ l.fn.rows.conn.ghost_name)
    × Going g.S.Store (g.T.TakesRows.took l.fn.taker) l.fn.rows.conn.now l.rows.conn.now l.fn.taker l.taker l.count

abbrev pub decreases-rows : goal.decreases-rows
decreases-rows g l = 2 ^ 128 - 1 - l.count
