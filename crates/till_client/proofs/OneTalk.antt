-- One request and its answer, over a connection of their own.
use Rattle.shop_types.proofs.Common.{◌≡◌, ◌∙◌, inl, inr, ℕ, List, [], ◌∷◌, ◌++◌, length, sym, ap, arith, AllByRecursion, flat_map, Answer}
use Rattle.std.specs.Prelude.{codes, decimal}
use Rattle.till_client.specs.Replies.{answer_bytes}
use Rattle.till_client.specs.Laws.{IsShort, OneExchange}
use Rattle.till_client.proofs.OneReply.{shape, tail_of, one_answer}
use Rattle.till_client.proofs.OneRequest.{one_message}

-- an answer has bytes
some_bytes : (a : Answer) (x : List ℕ) → [] ≡ answer_bytes a ++ x → ⊥
some_bytes a x e = clash (decimal a.status ++ (codes " " ++ tail_of a a.status x)) (e ∙ shape a x)
  where
    clash : (l : List ℕ) → [] ≡ codes "HTTP/1.1 " ++ l → ⊥
    clash l e = let n : 0 ≡ length (codes "HTTP/1.1 " ++ l) = ap length e in omega (arith, n)

one_of : (answers : List Answer) (answer : Answer) (x : List ℕ) → length answers ≡ 1
    → AllByRecursion IsShort answers → IsShort answer → flat_map answer_bytes answers ≡ answer_bytes answer ++ x
    → (answers ≡ answer ∷ []) × (x ≡ [])
one_of [] answer x one short fits e = absurd (omega arith)
one_of (a ∷ []) answer x one short fits e =
    let same = one_answer a answer [] x short.0.0 fits.0 short.0.1 fits.1 e in
    (ap (λ (it : Answer). it ∷ []) same.0, sym same.1)
one_of (a ∷ (b ∷ answers)) answer x one short fits e = absurd (omega arith)

none_of : (answers : List Answer) (answer : Answer) (x : List ℕ) → length answers ≡ 0 → flat_map answer_bytes answers ≡ answer_bytes answer ++ x → ⊥
none_of [] answer x none e = some_bytes answer x e
none_of (a ∷ answers) answer x none e = absurd (omega arith)

pub one_exchange : OneExchange
one_exchange request front more rest x m ms answers answer some has parts reads each short fits e =
    elim (one_message request front more rest m ms some has parts reads) [
      | inl none ↦ absurd (none_of answers answer x (each ∙ ap length none) e)
      | inr (is, whole) ↦
          let it = one_of answers answer x (each ∙ ap length is) short fits e in
          (is, it.0, whole, it.1)
    ]
