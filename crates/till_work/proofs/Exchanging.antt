-- Lists of the replies of entries.
use Rattle.std.proofs.Common.{◌≡◌, ◌≢◌, ◌∙◌, ℕ, zero, suc, ◌+◌, List, [], ◌∷◌, ◌++◌, length, Some, inl, inr, sym, ap, subst, arith, add-zero}
use Rattle.std.specs.Prelude.{slice_get}
use Rattle.std.specs.List.{AllByRecursion}
use Rattle.shop_model.specs.Refusals.{NoCounter}
use Rattle.shop_model.specs.Machine.{Sorry}
use Rattle.shop_model.specs.Answers.{Answer, answer_of}
use Rattle.shop_model.proofs.Resends.{same_none}
use Rattle.till_work.specs.Exchanged.{IsExchangedAt, AreExchanged, IsDecided, IsSettledAt, AreSettled}

-- what stands there stands there still
still_at : {A : Type 0} (xs ys : List A) (i : ℕ) (x : A) → slice_get xs i ≡ Some x → slice_get (xs ++ ys) i ≡ Some x
still_at [] ys i x there = absurd (same_none x there)
still_at (y ∷ xs) ys zero x there = there
still_at (y ∷ xs) ys (suc i) x there = still_at xs ys i x there

-- what decides an entry says that the server knows who asks
pub decided_known : (answer : Answer) → IsDecided answer → answer ≢ answer_of (Sorry NoCounter)
decided_known answer (inl accepted) e = absurd (let same : 200 ≡ 403 = sym accepted ∙ ap (λ (it : Answer). it.status) e in omega (arith, same))
decided_known answer (inr back) e = absurd (let same : 409 ≡ 403 = ap (λ (it : Answer). it.status) (sym back ∙ e) in omega (arith, same))

both : {A : Type 0} (P : A → Type 0) (xs ys : List A) → AllByRecursion P xs → AllByRecursion P ys → AllByRecursion P (xs ++ ys)
both P [] ys one two = two
both P (x ∷ xs) ys one two = (one.0, both P xs ys one.1 two)

module _ (Exchanged : List ℕ → Answer → Type 0) where
  pub told_more : (entries more : List (List ℕ)) (i : ℕ) (answer : Answer) → IsExchangedAt Exchanged entries i answer
      → IsExchangedAt Exchanged (entries ++ more) i answer
  told_more entries more i answer told = (told.0, still_at entries more i told.0 told.1, told.2)

  pub all_told_more : (entries more : List (List ℕ)) (i : ℕ) (answers : List Answer)
      → AreExchanged Exchanged entries i answers → AreExchanged Exchanged (entries ++ more) i answers
  all_told_more entries more i [] told = tt
  all_told_more entries more i (answer ∷ answers) told = (told_more entries more i answer told.0, all_told_more entries more (i + 1) answers told.1)

  -- the one after the other
  pub told_then : (entries : List (List ℕ)) (i : ℕ) (xs ys : List Answer) → AreExchanged Exchanged entries i xs
      → AreExchanged Exchanged entries (i + length xs) ys → AreExchanged Exchanged entries i (xs ++ ys)
  told_then entries i [] ys one two = subst (λ (k : ℕ). AreExchanged Exchanged entries k ys) (add-zero i) two
  told_then entries i (x ∷ xs) ys one two =
      let place : i + length (x ∷ xs) ≡ i + 1 + length xs = omega arith in
      (one.0, told_then entries (i + 1) xs ys one.1 (subst (λ (k : ℕ). AreExchanged Exchanged entries k ys) place two))

  settled_more : (entries more : List (List ℕ)) (it : ℕ × Answer) → IsSettledAt Exchanged entries it → IsSettledAt Exchanged (entries ++ more) it
  settled_more entries more it told = (told.0, told.1, told_more entries more told.0 it.1 told.2, told.3)

  pub all_settled_more : (entries more : List (List ℕ)) (settled : List (ℕ × Answer))
      → AreSettled Exchanged entries settled → AreSettled Exchanged (entries ++ more) settled
  all_settled_more entries more [] told = tt
  all_settled_more entries more (it ∷ settled) told = (settled_more entries more it told.0, all_settled_more entries more settled told.1)

  pub settled_then : (entries : List (List ℕ)) (xs ys : List (ℕ × Answer))
      → AreSettled Exchanged entries xs → AreSettled Exchanged entries ys → AreSettled Exchanged entries (xs ++ ys)
  settled_then entries xs ys one two = both (IsSettledAt Exchanged entries) xs ys one two
