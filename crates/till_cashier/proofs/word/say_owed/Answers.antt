use Rattle.std.proofs.Common.{◌∙◌, ◌++◌, ap, string_bytes}
use Rattle.shop_model.specs.Values.{Text}
use Rattle.till_cashier.specs.Saying.{ended}
use Rattle.till_cashier.proofs.Saying.{balance_added}
use Rattle.till_cashier.proofs.word.say_owed.Goals as goal

pub returns-in_ok-line-clause-said : goal.returns-in_ok-line-clause-said
returns-in_ok-line-clause-said g c =
    let it = c.in-TakeBack-Some-Some in
    let old = string_bytes c.args.said.now.text in
    balance_added c.args.desk.now.is_json c.args.act.now _ c.args.customer.now it.customer c.args.balance.now it.balance (string_bytes c.in-Ok.line)
    old (string_bytes c.line.new.self.text) (cc) it.is-0 it.is-1 it.is-2 c.in-Ok.ensures
    (c.in_ok-line.ensures.added ∙ ap (λ (line : Text). old ++ ended line) c.as_str.ensures.value)
