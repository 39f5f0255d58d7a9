-- Which answers say that the store failed.
use Rattle.shop_schema.proofs.Common.{◌≡◌, ℕ, Bool, true, false, not, refl, bytes_eq, StoreFailed, Reply, Answer, answer_of, problem_text, is_decided}
use Rattle.shop_schema.proofs.Common.{is_store_failure, decided_is}
use Rattle.std.specs.Prelude.{◌==◌, ◌&&◌}

-- no decision says so
pub decision_fine : (answer : Answer) → is_decided answer ≡ true → is_store_failure answer ≡ false
decision_fine answer decided = fine answer.status (bytes_eq answer.body (problem_text StoreFailed)) decided
  where
    fine : (status : ℕ) (named : Bool) → not (status == 503) ≡ true → (status == 503 && named) ≡ false
    fine status named is = go (status == 503) is
      where
        go : (b : Bool) → not b ≡ true → (b && named) ≡ false
        go true e = absurd (apart e)
          where
            apart : false ≡ true → ⊥
            apart e = cc
        go false e = refl

pub decided_fine : (reply : Reply) → is_store_failure (answer_of reply) ≡ false
decided_fine reply = decision_fine (answer_of reply) (decided_is reply)
