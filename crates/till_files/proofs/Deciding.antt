-- Whether tables hold a journal can be decided. So tables that hold a journal up to truncation hold it.
use Rattle.std.specs.Prelude.{nat_le}
use Rattle.shop_schema.proofs.Common.{◌≡◌, ◌≢◌, ◌∙◌, ◌≤◌, ℕ, Bool, true, false, true≢false, cases_Bool, arith, nat_tests, sym, List, [], ◌∷◌, inl, inr, ∥∥₁_map}
use Rattle.shop_schema.proofs.Common.{cases_eq, AllByRecursion, Trees, Differ, Decided, decided, in_any, Answer}
use Rattle.till_book.specs.Journal.{Journal, StandsFor, IsWritten}

-- decides whether no number comes twice
not_among : (n : ℕ) (xs : List (ℕ × Answer)) → Decided (AllByRecursion (λ (y : ℕ × Answer). n ≢ y.0) xs)
not_among n [] = inl tt
not_among n (y ∷ ys) = both (cases_eq n y.0) (not_among n ys)
  where
    both : Decided (n ≡ y.0) → Decided (AllByRecursion (λ (z : ℕ × Answer). n ≢ z.0) ys) → Decided (AllByRecursion (λ (z : ℕ × Answer). n ≢ z.0) (y ∷ ys))
    both (inl is) rest = inr (λ all. all.0 is)
    both (inr apart) (inl rest) = inl (apart, rest)
    both (inr apart) (inr some) = inr (λ all. some all.1)

none_twice : (xs : List (ℕ × Answer)) → Decided (Differ (λ (it : ℕ × Answer). it.0) xs)
none_twice [] = inl tt
none_twice (x ∷ xs) = both (not_among x.0 xs) (none_twice xs)
  where
    both : Decided (AllByRecursion (λ (y : ℕ × Answer). x.0 ≢ y.0) xs)
        → Decided (Differ (λ (it : ℕ × Answer). it.0) xs) → Decided (Differ (λ (it : ℕ × Answer). it.0) (x ∷ xs))
    both (inl first) (inl rest) = inl (first, rest)
    both (inl first) (inr some) = inr (λ all. some all.1)
    both (inr twice) rest = inr (λ all. twice all.0)

is_true : (b : Bool) → Decided (b ≡ true)
is_true b = elim (cases_Bool b) [ inl is ↦ inl is | inr isnt ↦ inr (λ is. true≢false (sym is ∙ isnt)) ]

at_most : (m n : ℕ) → Decided (m ≤ n)
at_most m n = elim (cases_Bool (nat_le m n)) [ inl is ↦ inl (less is) | inr isnt ↦ inr (more isnt) ]
  where
    less : nat_le m n ≡ true → m ≤ n
    less is = grind (arith, nat_tests)

    more : nat_le m n ≡ false → ¬ (m ≤ n)
    more isnt low = true≢false (sym (grind (arith, nat_tests)) ∙ isnt)

pub stands_in_any : (trees : Trees) (journal : Journal) → ∥ StandsFor trees journal ∥₁ → StandsFor trees journal
stands_in_any trees journal some = record {
  entries = in_any _ _ (λ s. s.entries) some;
  replies = in_any _ _ (λ s. s.replies) some;
  settled = in_any _ _ (λ s. s.settled) some;
  is = record {
    once = decided (none_twice journal.settled) (∥∥₁_map some (λ s. s.is.once));
    refused = decided (is_true _) (∥∥₁_map some (λ s. s.is.refused));
    answered = decided (at_most _ _) (∥∥₁_map some (λ s. s.is.answered));
  };
  unsure = in_any _ _ (λ s. s.unsure) some;
  rented = λ commands say. in_any _ _ (λ s. s.rented commands say) some;
  returned = λ commands say. in_any _ _ (λ s. s.returned commands say) some;
}

pub written_in_any : (trees : Trees) (journal : Journal) → ∥ IsWritten trees journal ∥₁ → IsWritten trees journal
written_in_any trees journal some = record {
  entries = in_any _ _ (λ s. s.entries) some;
  replies = in_any _ _ (λ s. s.replies) some;
  settled = in_any _ _ (λ s. s.settled) some;
  once = decided (none_twice journal.settled) (∥∥₁_map some (λ s. s.once));
}
