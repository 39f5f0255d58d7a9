use Rattle.sakila_office.proofs.program.perform_alone.Goals as goal

pub returns-in-Replay-clause-performs : goal.returns-in-Replay-clause-performs
returns-in-Replay-clause-performs g c = rw c.in-Replay.is c.replay.ensures.replays
