-- Whether a chain has failed, whatever its disk does.
use Rattle.std.specs.Prelude.{Bool, false, Result, Ok, Err}
use Rattle.shop_model.specs.Answers.{problem_answer}
use Rattle.shop_model.specs.Histories.{is_store_failure}
use Rattle.shop_types.specs.declared.refusal.Refusal.{Refusal}
use Rattle.shop_types.specs.Seen.{seen_refusal}

-- the result is a refusal, and the reply for that refusal is the store's failure
abbrev pub is_failure : {A : Type 0} → Result A Refusal → Bool
is_failure (Ok found) = false
is_failure (Err refusal) = is_store_failure (problem_answer (seen_refusal refusal))
