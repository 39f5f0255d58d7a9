-- Numbered rows in the byte order of a text. Rows with the same text stay in the order of their numbers.
use Rattle.shop_schema.proofs.Common.{◌≡◌, ◌==◌, ◌<◌, ℕ, Bool, true, false, cond, true≢false, List, [], ◌∷◌, refl, sym, ap, ◌∙◌, arith, Less, Equal, Greater}
use Rattle.shop_schema.proofs.Common.{Ordering, IsPermutation, is_le, nat_cmp, ordering_then, ordering_reverse, IsTotalOrder, slice_cmp, AllByRecursion}
use Rattle.shop_schema.proofs.Common.{nat_tests, on_total, then_total, nat_cmp_total, nat_list_cmp_total, IsPermutation-refl, IsPermutation-trans}
use Rattle.shop_schema.proofs.Common.{IsPermutation-cons, IsPermutation-middle, IsAscending, all_both, Text, is_before_text, insert_by, sorted_by}
use Rattle.view_texts.proofs.Orders.{less}

-- ---- any order

module _ {X : Type 0} (first : X → X → Bool) where
  all-insert : (P : X → Type 0) (x : X) (ys : List X) → P x → AllByRecursion P ys → AllByRecursion P (insert_by first x ys)
  all-insert P x [] h all = (h, tt)
  all-insert P x (y ∷ ys) h all =
      elim (first x y) as (λ b. AllByRecursion P (cond b (x ∷ y ∷ ys) (y ∷ insert_by first x ys))) [
        | true ↦ (h, all)
        | false ↦ (all.0, all-insert P x ys h all.1)
      ]

  all-sorted : (P : X → Type 0) (xs : List X) → AllByRecursion P xs → AllByRecursion P (sorted_by first xs)
  all-sorted P [] all = tt
  all-sorted P (x ∷ xs) all = all-insert P x (sorted_by first xs) all.0 (all-sorted P xs all.1)

  insert_bag : (x : X) (ys : List X) → IsPermutation (insert_by first x ys) (x ∷ ys)
  insert_bag x [] = IsPermutation-refl _
  insert_bag x (y ∷ ys) =
      elim (first x y) as (λ b. IsPermutation (cond b (x ∷ y ∷ ys) (y ∷ insert_by first x ys)) (x ∷ y ∷ ys))
      [ true ↦ IsPermutation-refl _ | false ↦ IsPermutation-trans _ _ _ (IsPermutation-cons y _ _ (insert_bag x ys)) (IsPermutation-middle (y ∷ []) x ys) ]

  pub sorted_bag : (xs : List X) → IsPermutation (sorted_by first xs) xs
  sorted_bag [] = IsPermutation-refl []
  sorted_bag (x ∷ xs) = IsPermutation-trans _ _ _ (insert_bag x (sorted_by first xs)) (IsPermutation-cons x _ _ (sorted_bag xs))

-- ---- the order of a text

module _ {A : Type 0} (text : ℕ × A → Text) where
  -- by the text, and then by the number
  abbrev pub by_text : ℕ × A → ℕ × A → Ordering
  by_text a b = ordering_then (slice_cmp nat_cmp (text a) (text b)) (nat_cmp a.0 b.0)

  abbrev pub before : ℕ × A → ℕ × A → Bool
  before a b = is_before_text (text a) (text b)

  by_text_total : IsTotalOrder by_text
  by_text_total = then_total (on_total text nat_list_cmp_total) (on_total (λ (it : ℕ × A). it.0) nat_cmp_total)

  -- an earlier row and a later one, which has another number
  abbrev pub Rises : ℕ × A → ℕ × A → Type 0
  Rises a b = (by_text a b ≡ Less) × ((b.0 == a.0) ≡ false)

  other_up : (m n : ℕ) → m < n → (n == m) ≡ false
  other_up m n h = grind (arith, nat_tests)

  other_down : (m n : ℕ) → m < n → (m == n) ≡ false
  other_down m n h = grind (arith, nat_tests)

  comes_first : (x y : ℕ × A) → x.0 < y.0 → before x y ≡ true → by_text x y ≡ Less
  comes_first x y low is = ap (ordering_then (slice_cmp nat_cmp (text x) (text y))) (less x.0 y.0 low) ∙ go (slice_cmp nat_cmp (text x) (text y)) is
    where
      go : (o : Ordering) → is_le o ≡ true → ordering_then o Less ≡ Less
      go Less h = refl
      go Equal h = refl
      go Greater h = absurd (true≢false (sym h))

  comes_later : (x y : ℕ × A) → x.0 < y.0 → before x y ≡ false → by_text y x ≡ Less
  comes_later x y low is =
      by_text_total.antisymm y x
      ∙ ap ordering_reverse (ap (ordering_then (slice_cmp nat_cmp (text x) (text y))) (less x.0 y.0 low) ∙ go (slice_cmp nat_cmp (text x) (text y)) is)
    where
      go : (o : Ordering) → is_le o ≡ false → ordering_then o Less ≡ Greater
      go Less h = absurd (true≢false h)
      go Equal h = absurd (true≢false h)
      go Greater h = refl

  insert_up : (x : ℕ × A) (ys : List (ℕ × A)) → AllByRecursion (λ (y : ℕ × A). x.0 < y.0) ys → IsAscending Rises ys → IsAscending Rises (insert_by before x ys)
  insert_up x [] low up = (tt, tt)
  insert_up x (y ∷ ys) low up = go (before x y) refl (insert_up x ys low.1 up.1)
    where
      go : (b : Bool) → before x y ≡ b → IsAscending Rises (insert_by before x ys) → IsAscending Rises (cond b (x ∷ y ∷ ys) (y ∷ insert_by before x ys))
      go true is more =
          let here = comes_first x y low.0 is in (
            (
              (here, other_up x.0 y.0 low.0),
              all_both (λ (z : ℕ × A). x.0 < z.0) (Rises y) (Rises x) (λ z h r. (by_text_total.trans x y z here r.0, other_up x.0 z.0 h)) ys low.1 up.0,
            ),
            up,
          )
      go false is more = (all-insert before (Rises y) x ys (comes_later x y low.0 is, other_down x.0 y.0 low.0) up.0, more)

  pub sorted_up : (xs : List (ℕ × A)) → IsAscending (λ (a b : ℕ × A). a.0 < b.0) xs → IsAscending Rises (sorted_by before xs)
  sorted_up [] up = tt
  sorted_up (x ∷ xs) up = insert_up x (sorted_by before xs) (all-sorted before (λ (y : ℕ × A). x.0 < y.0) xs up.0) (sorted_up xs up.1)
