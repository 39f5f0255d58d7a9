use Rattle.std.proofs.Common.{inl}
use Rattle.till_program.proofs.FrameWords.{frame_handled, frame_replied, refusal_replied}
use Rattle.till_program.proofs.handling.handle.Goals as goal
use Rattle.till_program.proofs.handling.handle.Goals.{in-Ok+in-Ok-performed, in-Ok+in-Err-performed+in_ok-unread-in-Err-performed}
use Rattle.till_program.proofs.handling.handle.Goals.{in-Err-Short, in-Err+in_ok-refused-in-Err}

pub returns-in_err-unread-in-Err-performed-clause-kept : goal.returns-in_err-unread-in-Err-performed-clause-kept
returns-in_err-unread-in-Err-performed-clause-kept c none = absurd (none c.in-Ok.words.now c.in-Ok.file.now c.in-Ok.ensures.found)

pub returns-clause-kept : goal.returns-clause-kept
returns-clause-kept c none = elim c.match-read_frame.branch [
  | in-Ok+in-Ok-performed w ↦ absurd (none w.in-Ok.words.now w.in-Ok.file.now w.in-Ok.ensures.found)
  | in-Ok+in-Err-performed+in_ok-unread-in-Err-performed w ↦ absurd (none w.in-Ok.words.now w.in-Ok.file.now w.in-Ok.ensures.found)
  | in-Err-Short w ↦ w.held-is
  | in-Err+in_ok-refused-in-Err w ↦ w.held-is
]

pub returns-in_err-unread-in-Err-performed-clause-handles : goal.returns-in_err-unread-in-Err-performed-clause-handles
returns-in_err-unread-in-Err-performed-clause-handles c =
    frame_handled _ _ _ _ _ c.in-Ok.words.now c.in-Ok.file.now c.in-Ok.ensures.found c.performed.ensures.done

pub returns-clause-handles : goal.returns-clause-handles
returns-clause-handles c = elim c.match-read_frame.branch [
  | in-Ok+in-Ok-performed w ↦ rw w.held-is (frame_handled _ _ _ _ _ w.in-Ok.words.now w.in-Ok.file.now w.in-Ok.ensures.found w.performed.ensures.done)
  | in-Ok+in-Err-performed+in_ok-unread-in-Err-performed w ↦
      rw w.held-is (frame_handled _ _ _ _ _ w.in-Ok.words.now w.in-Ok.file.now w.in-Ok.ensures.found w.performed.ensures.done)
  | in-Err-Short w ↦ inl w.held-is
  | in-Err+in_ok-refused-in-Err w ↦ inl w.held-is
]

pub returns-clause-replies : goal.returns-clause-replies
returns-clause-replies c = elim c.match-read_frame.branch [
  | in-Ok+in-Ok-performed w ↦
      rw (w.reply-is, w.held-is) (frame_replied _ _ _ _ _ w.in-Ok.words.now w.in-Ok.file.now _ w.in-Ok.ensures.found w.in-Ok-performed.ensures.replied)
  | in-Ok+in-Err-performed+in_ok-unread-in-Err-performed w ↦ rw w.reply-is (refusal_replied _ _ _ _ _ _ w.in_ok-unread-in-Err-performed.ensures)
  | in-Err-Short w ↦ rw w.reply-is tt
  | in-Err+in_ok-refused-in-Err w ↦ rw w.reply-is (refusal_replied _ _ _ _ _ _ w.in_ok-refused-in-Err.ensures)
]
