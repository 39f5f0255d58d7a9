-- What is kept of rows, one after another.
use Rattle.shop_schema.proofs.Common.{◌≡◌, ◌<◌, ◌≤◌, ℕ, zero, suc, List, [], ◌∷◌, ◌++◌, length, get_or, drop, drop-cons, arith, refl, subst, sym}
use Rattle.shop_schema.proofs.Common.{AllByRecursion}
use Rattle.std.proofs.lemmas.List.{append-nil}
use Rattle.sqlite_value.specs.Order.{Row}
use Rattle.books_audit.specs.Listed.{AreRows}

module _ {X : Type 0} (Is : X → Row → Type 0) where
  pub again : (kept : List X) (x : X) (xs : List X) → (kept ++ x ∷ []) ++ xs ≡ kept ++ x ∷ xs
  again [] x xs = λ i. x ∷ xs
  again (k ∷ kept) x xs = λ i. k ∷ again kept x xs i

  -- what was kept so far, followed by what is kept of the rest, is kept of all rows
  abbrev pub Continues : List X → List Row → List Row → Type 0
  Continues kept rest rows = (xs : List X) → AreRows Is xs rest → AreRows Is (kept ++ xs) rows

  pub one_more : (kept : List X) (rows : List Row) (i : ℕ) (d : Row) (x : X) → i < length rows → Is x (get_or rows i d)
      → Continues kept (drop i rows) rows → Continues (kept ++ x ∷ []) (drop (suc i) rows) rows
  one_more kept rows i d x low is so xs h =
      subst (λ l. AreRows Is l rows) (sym (again kept x xs)) (so (x ∷ xs) (rw (drop-cons rows i d) (is, h)))

  dropped : (rows : List Row) (i : ℕ) → length rows ≤ i → drop i rows ≡ []
  dropped [] zero h = refl
  dropped [] (suc i) h = refl
  dropped (r ∷ rows) zero h = absurd (omega (arith, h))
  dropped (r ∷ rows) (suc i) h = dropped rows i (omega (arith, h))

  pub all_kept : (kept : List X) (rows : List Row) (i : ℕ) → length rows ≤ i → Continues kept (drop i rows) rows → AreRows Is kept rows
  all_kept kept rows i end so = subst (λ l. AreRows Is l rows) (append-nil kept) (so [] (subst (AreRows Is []) (sym (dropped rows i end)) tt))

pub one_at : (One : Row → Type 0) (rows : List Row) (i : ℕ) (d : Row) → i < length rows → AllByRecursion One rows → One (get_or rows i d)
one_at One [] i d low h = absurd (omega (arith, low))
one_at One (r ∷ rows) zero d low h = h.0
one_at One (r ∷ rows) (suc i) d low h = one_at One rows i d (omega (arith, low)) h.1
