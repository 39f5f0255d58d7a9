use Rattle.std.proofs.Common.{inl}
use Rattle.till_program.proofs.ServingLaws.{served_then, served_alone, alone_closed}
use Rattle.till_program.proofs.serving.Desk.serve.Goals as goal

pub rounds-init : goal.rounds-init
rounds-init c = record {
  ended = c.first_line-line.ensures.ended;
  served = served_alone _ _ _ _ (inl c.first_line-line.ensures.looked);
}

pub rounds-preserved : goal.rounds-preserved
rounds-preserved c = record {
  ended = c.close_if_asked.ensures.ended;
  served = served_then _ _ _ _ _ (served_then _ _ _ _ _ (served_then _ _ _ _ _ c.rounds.invariant.served c.turns.ensures.served)
      (served_alone _ _ _ _ c.try_line.ensures.alone)) (served_alone _ _ _ _ (alone_closed _ _ _ c.close_if_asked.ensures.closed));
}
