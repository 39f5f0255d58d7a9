-- What one row of the book says, as it was read.
use Rattle.std.specs.Prelude.{ℕ}
use Rattle.shop_model.specs.Answers.{Answer}
use Rattle.till_book.specs.declared.rows.BookReply.{BookReply}
use Rattle.till_book.specs.declared.rows.Settlement.{Settlement}

abbrev pub seen_reply : BookReply → Answer
seen_reply reply = record { status = reply.status; body = reply.body }

abbrev pub seen_settlement : Settlement → ℕ × Answer
seen_settlement it = (it.number, seen_reply it.reply)
