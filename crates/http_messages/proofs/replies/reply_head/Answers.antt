use Rattle.std.proofs.Common.{codes, decimal}
use Rattle.http_messages.specs.Text.{head_text, crlf, phrase}
use Rattle.http_messages.proofs.HeadText.{parts}
use Rattle.http_messages.proofs.replies.reply_head.Goals as goal

pub returns : goal.returns
unfolding head_text
returns c =
    rw (
      c.push_str-7.ensures.bytes,
      c.push_str-6.ensures.bytes,
      c.push_str-5.ensures.bytes,
      c.push_str-4.ensures.bytes,
      c.push_str-3.ensures.bytes,
      c.push_str-2.ensures.bytes,
      c.push_str.ensures.bytes,
      c.new-head.ensures,
      c.format.ensures.text,
      c.phrase_of.ensures.value,
      c.format-2.ensures.text,
    )
    (parts (codes "HTTP/1.1 ") (codes " ") (decimal c.args.status) (phrase c.args.status) (decimal c.args.body_len) crlf
    (codes "content-type: application/json") (codes "content-length: "))
