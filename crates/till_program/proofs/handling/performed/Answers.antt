use Rattle.std.proofs.Common.{map, string_bytes}
use Rattle.till_program.proofs.FrameLaws.{ok_so}
use Rattle.till_program.proofs.handling.performed.Goals as goal

pub returns-clause-replied : goal.returns-clause-replied
returns-clause-replied c =
    let done = rw (
      c.as_slice-3.ensures.value,
      c.in_ok-words.ensures,
      c.as_str.ensures.value,
      c.as_slice-2.ensures.value,
      c.new-out.ensures.items,
      c.new-err.ensures.items,
    ) at c.perform_words-done.ensures.done in
    ok_so c.reply_text.result _ _ c.reply_text.ensures.written
    (λ text is. (
      c.perform_words-done.result.status,
      c.perform_words-done.new.out.items,
      c.perform_words-done.new.err.items,
      rw (c.as_slice-4.ensures.value, c.as_slice-5.ensures.value) at is,
      (map string_bytes c.in_ok-line.line.items, c.in_ok-line.ensures.read, done),
    ))
