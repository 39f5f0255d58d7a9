-- What a binary search finds among rows that are in the order of their keys.
use Rattle.std.proofs.Common.{Result}
use Rattle.shop_types.proofs.Common.{◌≡◌, ◌<◌, ℕ, List, [], ◌∷◌, map, length, Bool, true, false, refl, sym, ap, ◌∙◌, arith, Ok, Err, Less, Equal, Greater}
use Rattle.shop_types.proofs.Common.{get_or, is_lt, nat_lt, is_ok, nat_cmp, ordering_reverse, nat_tests, bytes_eq-Decides, slice_cmp, bytes_eq, list_any}
use Rattle.shop_types.proofs.Common.{IsSortedByKey, IsBinarySearchResult, IsSearchInRange, IsPartitionPoint, searchable_from_sorted, exact_bytes}
use Rattle.std.proofs.lemmas.List.Recursion.{or_at, or_from_places}
use Rattle.audit_rows.specs.Lists.{Key}
use Rattle.audit_rows.proofs.Keys.{key_total, any-map, below_apart, bytes_eq_symm}

tied : (a b : Key) → slice_cmp nat_cmp a b ≡ Equal → bytes_eq b a ≡ true
tied a b e = (bytes_eq-Decides b a).1 (sym (exact_bytes a b e))

less : (a b : Key) → slice_cmp nat_cmp a b ≡ Less → bytes_eq b a ≡ false
less a b e = bytes_eq_symm b a ∙ below_apart a b (ap is_lt e)

greater : (a b : Key) → slice_cmp nat_cmp a b ≡ Greater → bytes_eq b a ≡ false
greater a b e = below_apart b a (ap is_lt (key_total.antisymm b a ∙ ap ordering_reverse e))

module _ {X : Type 0} (key : X → Key) (k : Key) where
  abbrev any_has : List X → Bool
  any_has = list_any (λ x. bytes_eq k (key x))

  searched : (xs : List X) (r : Result ℕ ℕ) → IsSearchInRange r (length xs) → IsBinarySearchResult (λ y. slice_cmp nat_cmp (key y) k) xs r
      → IsSortedByKey key (slice_cmp nat_cmp) xs → is_ok r ≡ any_has xs
  searched [] (Ok i) range found up = absurd (omega (arith, range))
  searched [] (Err i) range found up = refl
  searched (x ∷ xs) (Ok i) range found up = sym (or_at any_has (λ y. bytes_eq k (key y)) refl (λ _ _. refl) (x ∷ xs) i x range (tied _ k (found x)))
  searched (x ∷ xs) (Err i) range found up =
      let parts = found (searchable_from_sorted key_total key (x ∷ xs) k up) in
      sym (or_from_places any_has (λ y. bytes_eq k (key y)) refl (λ _ _. refl) (x ∷ xs) x (λ j in'. apart j in' (nat_lt j i) refl parts))
    where
      apart : (j : ℕ) → j < length (x ∷ xs) → (b : Bool) → nat_lt j i ≡ b
          → IsPartitionPoint (λ y. slice_cmp nat_cmp (key y) k ≡ Less) (λ y. slice_cmp nat_cmp (key y) k ≡ Greater) (x ∷ xs) i
          → bytes_eq k (key (get_or (x ∷ xs) j x)) ≡ false
      apart j in' true t parts = less _ k (parts.0 j x (omega arith) (grind (arith, nat_tests)))
      apart j in' false t parts = greater _ k (parts.1 j x (grind (arith, nat_tests)) in')

  pub searched_key : (xs : List X) (r : Result ℕ ℕ) → IsSearchInRange r (length xs) → IsBinarySearchResult (λ y. slice_cmp nat_cmp (key y) k) xs r
      → IsSortedByKey key (slice_cmp nat_cmp) xs → is_ok r ≡ list_any (bytes_eq k) (map key xs)
  searched_key xs r range found up = searched xs r range found up ∙ sym (any-map (bytes_eq k) key xs)
