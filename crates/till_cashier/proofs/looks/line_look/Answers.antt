use Rattle.std.proofs.Common.{string_bytes}
use Rattle.shop_types.specs.Seen.{seen_ask}
use Rattle.till_client.specs.Replies.{seen_answer}
use Rattle.till_cashier.proofs.Doing.{ok_then}
use Rattle.till_cashier.proofs.Looking.{adds_shown, lines_shown}
use Rattle.till_cashier.proofs.looks.line_look.Goals as goal

pub returns : goal.returns
returns g c =
    ok_then c.says_lines.result c.says_lines.ensures.said
    (λ adds. adds_shown _ _ _ (seen_answer c.in_ok-answer.answer) c.in_ok-says_all.field-0
    (string_bytes c.args.said.now.text) (string_bytes c.says_all.new.said.text) (string_bytes c.says_lines.new.said.text)
    c.args.said.now.status c.says_all.new.said.status c.says_lines.new.said.status c.if-branch.false c.in_ok-answer.ensures
    c.in_ok-says_all.ensures.said c.in_ok-says_all.ensures.status
    (lines_shown (seen_ask c.args.ask.now) _ _ _ _ _ _ c.as_str.ensures.value c.as_slice.ensures.value c.in_ok-name.ensures adds)
    c.says_lines.ensures.status)
