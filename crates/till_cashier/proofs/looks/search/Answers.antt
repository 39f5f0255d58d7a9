use Rattle.std.proofs.Common.{◌≡◌, Some, refl, string_bytes}
use Rattle.till_client.specs.Replies.{seen_answer}
use Rattle.till_cashier.specs.Looking.{found_in}
use Rattle.till_cashier.proofs.Doing.{ok_then}
use Rattle.till_cashier.proofs.Looking.{adds_shown, adds_whole, some_is}
use Rattle.till_cashier.proofs.looks.search.Goals as goal

pub returns : goal.returns
returns g c =
    let it = c.in_ok-answer.field-0 in
    let found = some_is (λ table. found_in c.args.list c.args.part.now it.answer.body.items ≡ Some table) it.table c.in-Some.table c.in-Some.is
    c.in_ok-answer.ensures.rows in
    ok_then c.says_rows.result c.says_rows.ensures.said
    (λ same. adds_shown _ _ _ (seen_answer it.answer) c.in_ok-says_all.field-0
    (string_bytes c.args.said.now.text) (string_bytes c.says_all.new.said.text) (string_bytes c.says_rows.new.said.text)
    c.args.said.now.status c.says_all.new.said.status c.says_rows.new.said.status c.if-branch.false c.in_ok-answer.ensures.listed
    c.in_ok-says_all.ensures.said c.in_ok-says_all.ensures.status (_, (c.in-Some.table, found, (it.minutes, refl)), same) c.says_rows.ensures.status)

pub returns-then-branch : goal.returns-then-branch
returns-then-branch g c =
    adds_whole _ _ _ (seen_answer c.in_ok-answer.field-0.answer) c.in_ok-says_all.field-0
    (string_bytes c.args.said.now.text) (string_bytes c.says_all.new.said.text) c.args.said.now.status c.says_all.new.said.status c.if-branch.true
    c.in_ok-answer.ensures.listed c.in_ok-says_all.ensures.said c.in_ok-says_all.ensures.status
