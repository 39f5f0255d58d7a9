use Rattle.std.proofs.Common.{◌∙◌, string_bytes}
use Rattle.std.specs.Prelude.{option_map}
use Rattle.till_cashier.proofs.word.told.Goals as goal

pub returns : goal.returns
returns g c = record {
  title = option_map string_bytes c.about_accepted-rented.result.title;
  due = c.about_accepted-rented.result.due;
  known = c.about_accepted-rented.ensures;
  outcome = string_bytes c.in_ok-said.said.text;
  says = c.in_ok-said.ensures.said;
  owing = string_bytes c.follow_up.new.said.text;
  owes = c.in_ok-is_written.ensures.said;
  rest = c.in_ok-say_rest.ensures.said;
  done = c.say_rest.ensures.status ∙ c.follow_up.ensures.status ∙ c.in_ok-said.ensures.status;
}
