use Rattle.std.proofs.Common.{[], refl}
use Rattle.std.specs.Prelude.{codes}
use Rattle.till_program.proofs.FrameWords.{reply_of}
use Rattle.till_program.proofs.handling.unread.Goals as goal

pub returns-in-NotText : goal.returns-in-NotText
returns-in-NotText c = reply_of _ _ [] (codes "error: a word isn't UTF-8\n") _ c.reply_text.ensures.written ((λ zero. cc), refl)
