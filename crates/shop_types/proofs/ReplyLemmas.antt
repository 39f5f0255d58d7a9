-- The bodies of replies that name a refusal and nothing else.
use Rattle.shop_types.proofs.Common.{◌≡◌, refl, sym, true, true≢false, ◌++◌, codes, problem_name, problem_text, Refusal, BadCsv, seen_refusal, has_fixed_body}
use Rattle.shop_model.specs.Json.{escape_byte}

-- no byte of a name is escaped
pub fixed_text : (refusal : Refusal) → has_fixed_body refusal ≡ true →
    problem_text (seen_refusal refusal) ≡ codes "{\"refused\":\"" ++ problem_name (seen_refusal refusal) ++ codes "\"}"
unfolding escape_byte
fixed_text (BadCsv fault) fixed = absurd (true≢false (sym fixed))
fixed_text refusal fixed = refl
