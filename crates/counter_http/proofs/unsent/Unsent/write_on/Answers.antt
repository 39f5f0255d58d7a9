use Rattle.shop_types.proofs.Common.{rules, ◌≡◌, [], drop, length, body_bytes}
use Rattle.http_messages.specs.Text.{head_text}
use Rattle.http_messages.proofs.WriteLemmas.{written_two}
use Rattle.counter_http.proofs.unsent.Unsent.write_on.Goals as goal

pub returns-then-branch-clause-sent : goal.returns-then-branch-clause-sent
returns-then-branch-clause-sent g c =
    let head : c.as_bytes.result.now ≡ head_text c.in-Some.reply.status (length (body_bytes c.in-Some.reply.body)) = search rules in
    let body : c.body_bytes-body.result.now ≡ body_bytes c.in-Some.reply.body = search rules in
    let none : drop c.write_part.new.at c.as_bytes.result.now ≡ [] = c.in_ok-write_part.ensures.all c.if-branch.true in
    rw (← c.self.view_is, c.in-Some.is, ← head, ← body) (written_two _ _ _ _ _ _ _ c.in_ok-write_part.ensures.sent none c.write_part-then-branch.ensures.sent)
