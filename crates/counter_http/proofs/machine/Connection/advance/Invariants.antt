use Rattle.std.proofs.Common.{◌+◌, ◌-◌, ◌*◌, ◌≤◌, length}
use Rattle.counter_http.specs.Exchanges.{RunsOver}
use Rattle.counter_http.specs.Phases.{IsTurn}
use Rattle.counter_http.proofs.Turns.{live}
use Rattle.counter_http.proofs.machine.Connection.advance.Given as goal

abbrev pub invariant-turn : goal.invariant-turn
invariant-turn g l = record {
  turns : IsTurn l.fn.self l.self (RunsOver g.S.Store (g.O.OfficeWords.meaning l.words) l.fn.chain l.chain)
      (g.R.Read.remaining l.fn.reader) (g.R.Read.remaining l.reader) (g.W.Write.contents l.fn.writer) (g.W.Write.contents l.writer);
  few : l.self.replies ≤ l.fn.self.replies + l.most;
}

-- how many more requests the turn may answer, how much room is left to read, and whether the connection goes on
abbrev pub decreases-turn : goal.decreases-turn
decreases-turn g l = (l.fn.self.replies + l.most - l.self.replies) * 73729 + live l.self.ending - length l.self.inbox
