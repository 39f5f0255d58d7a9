use Rattle.std.proofs.Common.{inl}
use Rattle.sqlite.specs.Held.{state}
use Rattle.till_program.proofs.DoneLaws.{accepted_zero, enters_none, ok_done, ok_kept, quiet_zero, refuses_word, repeats_zero, says_zero, word_fault}
use Rattle.till_program.proofs.OutputLaws.{more_then, output_more, said_more}
use Rattle.till_program.proofs.program.word_at.Goals as goal

pub returns-then-status-ne0-clause-performed : goal.returns-then-status-ne0-clause-performed
returns-then-status-ne0-clause-performed g c clean =
    let said = c.do_word-said.ensures in
    record {
      between = c.do_word-said.new.conn;
      does = λ zero. absurd (c.if-status-ne0.true zero);
      says = λ zero. absurd (c.if-status-ne0.true zero);
      quiet = λ zero. absurd (c.if-status-ne0.true zero);
      refuses = λ other. refuses_word _ _ _ _ _ _ _ _ _ _ _ _ _ _ c.do_word-said.result _ _ _ c.print-status.ensures.shown said.own (said.says clean)
          (said.shows clean) (word_fault c.do_word-said.result _ _ _ _ said.others (said.foreign clean));
      repeats = λ zero. absurd (c.if-status-ne0.true zero);
      kind = λ zero. absurd (c.if-status-ne0.true zero);
      others = said.stays clean;
      untouched = said.untouched clean;
      keeps = λ kept. said.keeps clean (c.has_failed-is_failed.ensures kept);
      office = λ kept. said.office clean (c.has_failed-is_failed.ensures kept);
      enters = λ kept. said.enters clean (c.has_failed-is_failed.ensures kept);
      sure = λ kept. inl (enters_none _ (state g.S.Store c.do_word-said.new.conn));
    }

pub returns-clause-performed : goal.returns-clause-performed
returns-clause-performed g c clean =
    let said = c.do_word-said.ensures in
    let before = c.sure_after.ensures.clean clean in
    let done = c.print-status.ensures.done c.if-status-ne0.false in
    let shown = c.print-status.ensures.shown in
    record {
      between = c.do_word-said.new.conn;
      does = λ zero. ok_done _ done (said.done before);
      says = λ zero. says_zero _ _ _ _ _ _ _ _ _ _ _ _ _ _ c.do_word-said.result _ _ _ _ zero done shown (said.says before) (said.shows before)
          c.sure_after.ensures.grows;
      quiet = λ zero. quiet_zero c.do_word-said.result _ _ _ zero done shown;
      refuses = λ other. absurd (other c.if-status-ne0.false);
      repeats = λ zero. repeats_zero _ done (accepted_zero c.do_word-said.result _ _ _ zero done shown) (said.again before);
      kind = λ zero. ok_done _ done said.own;
      others = said.stays before;
      untouched = said.untouched before;
      keeps = λ kept. said.keeps before (ok_kept _ done);
      office = λ kept. said.office before (ok_kept _ done);
      enters = λ kept. said.enters before (ok_kept _ done);
      sure = c.sure_after.ensures.same clean;
    }

pub returns-then-status-ne0-clause-grows : goal.returns-then-status-ne0-clause-grows
returns-then-status-ne0-clause-grows g c = said_more c.do_word-said.result _ _ _ c.print-status.ensures.shown

pub returns-clause-grows : goal.returns-clause-grows
returns-clause-grows g c =
    more_then _ _ _ (said_more c.do_word-said.result _ _ _ c.print-status.ensures.shown) (output_more _ _ _ c.sure_after.ensures.grows)
