-- What decisions on commands have in common: what was found of a key and of staff, and what a refusal says of the verdict.
use Rattle.std.specs.Prelude.{ℕ, Bool, Option, option_map, Some, None}
use Rattle.shop_model.specs.Values.{Text, Staff}
use Rattle.shop_model.specs.Refusals as named
use Rattle.shop_model.specs.Verdict.{Verdict, Refused, Accepted}
use Rattle.shop_types.specs.declared.found.KeptFound.{KeptFound}
use Rattle.shop_types.specs.declared.found.StaffFound.{StaffFound}
use Rattle.shop_types.specs.declared.refusal.Refusal.{Refusal}
use Rattle.shop_types.specs.Seen.{seen_refusal}

-- whether the kept command is the same, and its reply
abbrev pub seen_kept : KeptFound → Bool × Text
seen_kept kept = (kept.is_same, kept.reply.now)

-- the branch, and whether the member of staff left
abbrev pub seen_post : StaffFound → ℕ × Bool
seen_post staff = (staff.branch, staff.gone)

abbrev pub post_of : Staff → ℕ × Bool
post_of staff = (staff.branch, staff.gone)

-- what a decision refuses for, where the problem is one of a decision
abbrev pub decided : named.Problem → Option named.Refusal
decided (named.Decision refusal) = Some refusal
decided problem = None

-- the verdict on a command whose key isn't kept, by its first refusal
abbrev pub verdict_by : Option Refusal → Option Verdict
verdict_by None = Some Accepted
verdict_by (Some refusal) = option_map Refused (decided (seen_refusal refusal))
