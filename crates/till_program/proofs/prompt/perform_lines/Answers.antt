use Rattle.std.proofs.Common.{refl, inl, inr}
use Rattle.till_program.proofs.OutputLaws.{grows_then, output_more, whole_grows}
use Rattle.till_program.proofs.PromptLaws.{not_begun_same, none_done, one_more, done_then, last_done, err_not_ok}
use Rattle.till_program.proofs.prompt.perform_lines.Goals as goal

pub returns-in_err-greet-clause-performed : goal.returns-in_err-greet-clause-performed
returns-in_err-greet-clause-performed g c = record {
  last = c.args.lines.now;
  next = _;
  done = none_done _ _ _ _ _ _ _ _ (output_more _ _ _ c.greet.ensures.grows) (not_begun_same _);
  ends = inr (inr (err_not_ok _ c.from_residual.ensures.0, inl refl));
}

pub returns-in_err-invite-clause-performed : goal.returns-in_err-invite-clause-performed
returns-in_err-invite-clause-performed g c = record {
  last = c.args.lines.now;
  next = _;
  done = none_done _ _ _ _ _ _ _ _ (output_more _ _ _ (grows_then _ _ _ c.greet.ensures.grows c.invite.ensures.grows)) c.invite.ensures.waited;
  ends = inr (inr (err_not_ok _ c.from_residual-in_err-invite.ensures.0, inl refl));
}

pub lines-init : goal.lines-init
lines-init g c = record {
  ended = c.invite.ensures.ended;
  first = c.requires.first;
  finite = c.requires.ends;
  done = rw c.new-known.ensures (none_done _ _ _ _ _ _ _ _
      (output_more _ _ _ (grows_then _ _ _ c.greet.ensures.grows c.invite.ensures.grows)) c.invite.ensures.waited);
}

pub returns-then-not-branch-clause-performed : goal.returns-then-not-branch-clause-performed
returns-then-not-branch-clause-performed g c =
    last_done _ _ _ _ _ _ _ c.in-Some.line _ _ _ _ _ _ _ _ c.lines.invariant.done c.in-Some.ensures.steps c.in_ok-perform_read.ensures.done
    c.perform_read.ensures.grows (c.in_ok-perform_read.ensures.last c.if-not-branch.true)

pub lines-preserved : goal.lines-preserved
lines-preserved g c =
    let goes = c.in-Some.ensures.goes.on c.lines.invariant.finite in
    record {
      ended = c.invite-in-Some.ensures.ended;
      first = goes.0;
      finite = goes.1;
      done = one_more _ _ _ _ _ _ c.in-Some.line _ _ _ _ _ _ _ _ _ _ c.lines.invariant.done c.in-Some.ensures.steps c.in_ok-perform_read.ensures.done
          c.perform_read.ensures.grows (output_more _ _ _ c.invite-in-Some.ensures.grows) c.invite-in-Some.ensures.waited;
    }

pub returns-in_err-invite-2-clause-performed : goal.returns-in_err-invite-2-clause-performed
returns-in_err-invite-2-clause-performed g c = record {
  last = c.next.new.self;
  next = c.perform_read.new.known.standing.staff;
  done = one_more _ _ _ _ _ _ c.in-Some.line _ _ _ _ _ _ _ _ _ _ c.lines.invariant.done c.in-Some.ensures.steps c.in_ok-perform_read.ensures.done
      c.perform_read.ensures.grows (output_more _ _ _ c.invite-in-Some.ensures.grows) c.invite-in-Some.ensures.waited;
  ends = inr (inr (err_not_ok _ c.from_residual-in_err-invite-2.ensures.0, inl refl));
}

pub returns-in_err-perform_read-clause-performed : goal.returns-in_err-perform_read-clause-performed
returns-in_err-perform_read-clause-performed g c = record {
  last = c.lines.lines;
  next = c.lines.known.standing.staff;
  done = rw c.in_err-perform_read.ensures.stopped (done_then _ _ _ _ _ _ _ _ _ _ _ c.lines.invariant.done c.perform_read.ensures.grows);
  ends = inr (inr (err_not_ok _ c.from_residual-in_err-perform_read.ensures.0, inr (_, c.in-Some.ensures.steps)));
}

pub returns-in_err-write_whole-clause-performed : goal.returns-in_err-write_whole-clause-performed
returns-in_err-write_whole-clause-performed g c = record {
  last = c.lines.lines;
  next = c.lines.known.standing.staff;
  done = done_then _ _ _ _ _ _ _ _ _ _ _ c.lines.invariant.done (output_more _ _ _ (whole_grows _ _ _ _ c.write_whole.ensures.ok c.write_whole.ensures.err));
  ends = inl c.in_default.ensures.steps;
}

pub returns-clause-performed : goal.returns-clause-performed
returns-clause-performed g c = record {
  last = c.lines.lines;
  next = c.lines.known.standing.staff;
  done = done_then _ _ _ _ _ _ _ _ _ _ _ c.lines.invariant.done (output_more _ _ _ (whole_grows _ _ _ _ c.write_whole.ensures.ok c.write_whole.ensures.err));
  ends = inl c.in_default.ensures.steps;
}
