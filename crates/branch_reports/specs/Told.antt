-- Defines what every answer is, whatever the disk did. If the disk wasn't honest, the answer may not agree with any books.
use Rattle.std.specs.Prelude.{◌≡◌, ◌⊎◌, true}
use Rattle.shop_model.specs.Refusals.{Problem}
use Rattle.shop_model.specs.Answers.{Answer, problem_answer}
use Rattle.shop_model.specs.Histories.{is_decided}

-- the answer to what was done or read, or a refusal from the table of refusals
abbrev pub IsTold : Answer → Type 0
IsTold answer = (answer.status ≡ 200) ⊎ ((problem : Problem) × (answer ≡ problem_answer problem))

-- and it isn't a refusal of the store, since only faults of the store cause such refusals
pub record IsDecision (answer : Answer) : Type 0 where
  pub told : IsTold answer
  pub decided : is_decided answer ≡ true
