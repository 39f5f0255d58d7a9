use Rattle.till_program.proofs.OutputLaws.{grows_none, grows_then, whole_grows}
use Rattle.till_program.proofs.prompt.greet.Goals as goal
use Rattle.till_program.proofs.prompt.greet.Goals.{in-Ok-greeting+in_ok-write_whole+in_ok-write_whole-2, in_default-greeting}

pub returns-in_err-write_whole-2 : goal.returns-in_err-write_whole-2
returns-in_err-write_whole-2 g c = record {
  grows = (grows_then _ _ _ (whole_grows _ _ _ _ c.write_whole.ensures.ok c.write_whole.ensures.err)
      (whole_grows _ _ _ _ c.write_whole-in-Ok-greeting.ensures.ok c.write_whole-in-Ok-greeting.ensures.err));
}

pub returns : goal.returns
returns g c = record {
  grows = elim c.match-greeting.branch [
    | in-Ok-greeting+in_ok-write_whole+in_ok-write_whole-2 w ↦
        rw w.out-is (grows_then _ _ _ (whole_grows _ _ _ _ w.write_whole.ensures.ok w.write_whole.ensures.err)
        (whole_grows _ _ _ _ w.write_whole-in-Ok-greeting.ensures.ok w.write_whole-in-Ok-greeting.ensures.err))
    | in_default-greeting w ↦ rw w.out-is (grows_none _)
  ];
}
