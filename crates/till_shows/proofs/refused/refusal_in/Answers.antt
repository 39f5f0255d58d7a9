use Rattle.shop_types.proofs.Common.{◌≡◌, ◌∙◌, ◌<◌, ◌^◌, suc, ap, sym, true, refl, List, ℕ, leb-true, Answer, problem_text, has_fixed_body}
use Rattle.shop_types.specs.declared.refusal.Refusal.{Refusal}
use Rattle.shop_types.specs.declared.refusal.Refusal.TheVariants.{BadCsv}
use Rattle.shop_model.specs.Json.{escape_byte}
use Rattle.shop_model.specs.Refusals as named
use Rattle.till_shows.specs.Refused.{HasRefusal, line_body, has_short_line}
use Rattle.till_shows.proofs.refused.refusal_in.Goals as goal

same_body : (line : ℕ) → line_body line ≡ problem_text (named.Decision (named.BadCsv line))
unfolding escape_byte
same_body line = refl

neither : (status : ℕ) (body : List ℕ) → ((it : Refusal) → has_fixed_body it ≡ true → ¬ HasRefusal status body it)
    → ((line : ℕ) → line < 2 ^ 32 → ¬ (body ≡ line_body line))
    → (it : Refusal) → has_short_line it ≡ true → ¬ HasRefusal status body it
neither status body fixed lines (BadCsv fault) short tells =
    lines fault.line (leb-true (suc fault.line) (2 ^ 32) short) (ap (λ (a : Answer). a.body) tells ∙ sym (same_body fault.line))
neither status body fixed lines it short tells = fixed it refl tells

pub returns-in-Some-line_in-clause-some : goal.returns-in-Some-line_in-clause-some
returns-in-Some-line_in-clause-some c =
    λ i. record { status = c.if-status-eq409.true i; body = (c.in-Some-line_in.ensures.some ∙ same_body c.in-Some-line_in.line) i }

pub returns-in_default-line_in-2-clause-none : goal.returns-in_default-line_in-2-clause-none
returns-in_default-line_in-2-clause-none c = neither c.args.status c.args.body.now c.in_default.ensures.none c.in_default-line_in.ensures.none
