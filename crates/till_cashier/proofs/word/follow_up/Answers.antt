use Rattle.std.proofs.Common.{◌≡◌, ◌∙◌, ℕ, Some, sym, string_bytes}
use Rattle.std.specs.Prelude.{option_map}
use Rattle.std.proofs.lemmas.Bool.{eqb-true}
use Rattle.shop_model.specs.Answers.{Answer}
use Rattle.shop_types.specs.Seen.{seen_act}
use Rattle.till_client.specs.Replies.{seen_answer}
use Rattle.till_cashier.specs.Asking.{IsAnswered, IsOwing}
use Rattle.till_cashier.specs.Following.{debtor_of}
use Rattle.till_cashier.proofs.Saying.{debt_of, seen_so}
use Rattle.till_cashier.proofs.word.follow_up.Goals as goal

pub returns-in-Some-clause-said : goal.returns-in-Some-clause-said
returns-in-Some-clause-said g c =
    let owes = IsOwing (IsAnswered (g.V.Server.opens c.args.desk.now.server.now) g.V.Reader.Read.remaining g.V.Writer.Write.contents)
    c.args.desk.now.settings.now.token in
    debt_of owes c.args.desk.now.is_json (seen_act c.args.act.now) c.args.customer.now (option_map seen_answer c.balance_after-balance.result)
    (seen_answer c.args.told.now.answer) (string_bytes c.args.said.now.text) (string_bytes c.say_owed.new.said.text)
    (eqb-true _ _ (sym c.is_accepted.ensures ∙ c.if-not-is_accepted.false))
    (seen_so (λ (it : Answer). (debtor : ℕ) × (debtor_of (seen_act c.args.act.now) c.args.customer.now ≡ Some debtor) × owes debtor it)
    c.balance_after-balance.result c.balance_after-balance.ensures)
    c.in_ok-say_owed.ensures.said

pub returns-clause-said : goal.returns-clause-said
returns-clause-said g c =
    let owes = IsOwing (IsAnswered (g.V.Server.opens c.args.desk.now.server.now) g.V.Reader.Read.remaining g.V.Writer.Write.contents)
    c.args.desk.now.settings.now.token in
    debt_of owes c.args.desk.now.is_json (seen_act c.args.act.now) c.args.customer.now (option_map seen_answer c.balance_after-balance.result)
    (seen_answer c.args.told.now.answer) (string_bytes c.args.said.now.text) (string_bytes c.say_owed.new.said.text)
    (eqb-true _ _ (sym c.is_accepted.ensures ∙ c.if-not-is_accepted.false))
    (seen_so (λ (it : Answer). (debtor : ℕ) × (debtor_of (seen_act c.args.act.now) c.args.customer.now ≡ Some debtor) × owes debtor it)
    c.balance_after-balance.result c.balance_after-balance.ensures)
    c.in_ok-say_owed.ensures.said
