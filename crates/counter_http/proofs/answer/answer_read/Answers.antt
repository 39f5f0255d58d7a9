use Rattle.shop_types.proofs.Common.{◌∙◌, inr, sym, ap, Problem, Sorry, problem_answer, is_store_failure, memory_failure, seen_refusal}
use Rattle.shop_model.specs.Refusals.{Memory}
use Rattle.chain_requests.proofs.Failures.{decided_fine}
use Rattle.counter_http.proofs.answer.answer_read.Goals as goal

pub returns-in-Ok-Asked-clause-taken : goal.returns-in-Ok-Asked-clause-taken
returns-in-Ok-Asked-clause-taken g c =
    let asked = rw c.in-Ok-Asked.is at c.in-Ok-Asked.field-0-is in
    rw (c.in-Ok-Asked.is, asked) c.answer.ensures.taken

pub returns-in-Ok-Refused-clause-told : goal.returns-in-Ok-Refused-clause-told
returns-in-Ok-Refused-clause-told g c = inr (seen_refusal c.in-Ok-Refused.refusal, c.refused.ensures)

pub returns-in-Ok-Refused-clause-fails : goal.returns-in-Ok-Refused-clause-fails
returns-in-Ok-Refused-clause-fails g c =
    let refused = rw c.in-Ok-Refused.is at c.in-Ok-Refused.field-0-is in
    let decided = rw (c.in-Ok-Refused.is, refused) at c.requires.decided in
    c.requires.fine
    ∙ sym (ap is_store_failure c.refused.ensures ∙ ap (λ (p : Problem). is_store_failure (problem_answer p)) decided.1 ∙ decided_fine (Sorry decided.0))

pub returns-in-Err-clause-told : goal.returns-in-Err-clause-told
returns-in-Err-clause-told g c = inr (Memory, c.refused-in-Err.ensures)

pub returns-in-Err-clause-fails : goal.returns-in-Err-clause-fails
returns-in-Err-clause-fails g c = c.requires.fine ∙ sym (ap is_store_failure c.refused-in-Err.ensures ∙ memory_failure)
