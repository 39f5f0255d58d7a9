use Rattle.std.proofs.Common.{[], refl}
use Rattle.till_program.proofs.FrameWords.{reply_of}
use Rattle.till_program.proofs.handling.refused.Goals as goal

pub returns : goal.returns
returns c = reply_of _ _ [] c.as_bytes.result.now _ c.reply_text.ensures.written (c.refusal-status.ensures, refl)
