use Rattle.shop_types.proofs.Common.{◌≡◌, ◌<◌, true, problem_number, has_fixed_body, seen_refusal}
use Rattle.shop_types.specs.declared.refusal.Refusal.{Refusal}
use Rattle.till_shows.specs.Refused.{HasRefusal}
use Rattle.till_shows.proofs.refused.named.Given as goal

-- the reply has no refusal with a lower number
abbrev pub invariant-loop-number : goal.invariant-loop-number
invariant-loop-number l = (it : Refusal) → has_fixed_body it ≡ true → problem_number (seen_refusal it) < l.number → ¬ HasRefusal l.status l.body it
