-- An answer to what was done or read, and a refusal, are decisions on any disk.
use Rattle.shop_schema.proofs.Common.{◌≡◌, ◌≢◌, ◌∙◌, ℕ, Bool, inl, inr, refl, ap, true, false, not, eqb-true, Text, Problem, problem_status, Answer}
use Rattle.shop_schema.proofs.Common.{accepted_answer, problem_answer, is_decided}
use Rattle.std.specs.Prelude.{◌==◌}
use Rattle.branch_reports.specs.Told.{IsDecision}

pub accepted_told : (answer : Answer) (text : Text) → answer ≡ accepted_answer text → IsDecision answer
accepted_told answer text is = record {
  told = inl (ap (λ (a : Answer). a.status) is);
  decided = ap is_decided is;
}

pub refused_told : (answer : Answer) (problem : Problem) → answer ≡ problem_answer problem → is_decided (problem_answer problem) ≡ true → IsDecision answer
refused_told answer problem is decided = record {
  told = inr (problem, is);
  decided = ap is_decided is ∙ decided;
}

-- any refusal is a decision, except with the store's status
pub refused_by : (answer : Answer) (problem : Problem) (status : ℕ) → answer ≡ problem_answer problem
    → status ≡ problem_status problem → status ≢ 503 → IsDecision answer
refused_by answer problem status is told other = refused_told answer problem is (by_test (problem_status problem == 503) refl)
  where
    by_test : (is_stores : Bool) → (problem_status problem == 503) ≡ is_stores → not is_stores ≡ true
    by_test true e = absurd (other (told ∙ eqb-true (problem_status problem) 503 e))
    by_test false e = refl
