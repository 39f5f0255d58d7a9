-- Rows that are divided by a number that each of them names.
use Rattle.shop_schema.proofs.Common.{◌≡◌, ◌==◌, ◌&&◌, ℕ, Bool, true, false, cond, List, [], ◌∷◌, ◌++◌, map, filter, refl, sym, ap, subst, ◌∙◌, append_assoc}
use Rattle.shop_schema.proofs.Common.{IsPermutation, flat_map, AllByRecursion, IsPermutation-refl, IsPermutation-trans, IsPermutation-append_left}
use Rattle.shop_schema.proofs.Common.{IsPermutation-append_right, IsPermutation-append_comm, map-map, filter_same, flat_map_none, flat_map_same_on}
use Rattle.shop_schema.proofs.Common.{IsPermutation-same, at, numbered, kept_as_map}
use Rattle.shop_schema.proofs.Numbers.{numbered_at}
use Rattle.view_texts.proofs.Casts.{turned}

-- what each value brings of two kinds
beside_bag : {A B : Type 0} (f g : A → List B) (xs : List A) → IsPermutation (flat_map f xs ++ flat_map g xs) (flat_map (λ x. f x ++ g x) xs)
beside_bag f g [] = IsPermutation-refl []
beside_bag f g (x ∷ xs) =
    let fs = flat_map f xs in
    let gs = flat_map g xs in
    let swapped : IsPermutation (fs ++ (g x ++ gs)) (g x ++ (fs ++ gs)) =
    rw (← append_assoc fs (g x) gs, ← append_assoc (g x) fs gs) (IsPermutation-append_left gs _ _ (IsPermutation-append_comm fs (g x))) in
    rw (append_assoc (f x) fs (g x ++ gs), append_assoc (f x) (g x) (flat_map (λ y. f y ++ g y) xs))
    (IsPermutation-append_right (f x) _ _ (IsPermutation-trans _ _ _ swapped (IsPermutation-append_right (g x) _ _ (beside_bag f g xs))))

-- `behind` puts the named row before a value, `passes` says which values count
module _ {A X : Type 0} (rows : List A) (key : X → ℕ) (behind : X → (ℕ × A) × X) (passes : X → Bool) where
  abbrev chosen : List X → ℕ × A → List X
  chosen xs row = filter (λ x. key x == row.0 && passes x) xs

  abbrev pub part : List X → ℕ × A → List ((ℕ × A) × X)
  part xs row = map (λ x. (row, x)) (chosen xs row)

  abbrev Names : X → Type 0
  Names x = map (λ y. ((key x, y), x)) (at (key x) rows) ≡ behind x ∷ []

  named_once : (x : X) → Names x → flat_map (λ (row : ℕ × A). cond (key x == row.0) ((row, x) ∷ []) []) (numbered rows) ≡ behind x ∷ []
  named_once x names =
      kept_as_map (λ (row : ℕ × A). key x == row.0) (λ row. (row, x)) (numbered rows)
      ∙ ap (map (λ (row : ℕ × A). (row, x)))
      (filter_same (λ (row : ℕ × A). key x == row.0) (λ row. row.0 == key x) (λ row. turned (key x) row.0) (numbered rows) ∙ numbered_at (key x) rows)
      ∙ map-map (λ (row : ℕ × A). (row, x)) (λ y. (key x, y)) (at (key x) rows) ∙ names

  pub parted : (xs : List X) → AllByRecursion Names xs → IsPermutation (map behind (filter passes xs)) (flat_map (part xs) (numbered rows))
  parted [] all = IsPermutation-same _ _ (sym (flat_map_none (part []) (λ row. refl) (numbered rows)))
  parted (x ∷ xs) all = go (passes x) (parted xs all.1)
    where
      left_out : (t : Bool) (row : ℕ × A)
          → map {B = (ℕ × A) × X} (λ z. (row, z)) (chosen xs row)
          ≡ map {B = (ℕ × A) × X} (λ z. (row, z)) (cond (t && false) (x ∷ chosen xs row) (chosen xs row))
      left_out true row = refl
      left_out false row = refl

      put_in : (t : Bool) (row : ℕ × A)
          → cond t ((row, x) ∷ []) [] ++ part xs row ≡ map {B = (ℕ × A) × X} (λ z. (row, z)) (cond (t && true) (x ∷ chosen xs row) (chosen xs row))
      put_in true row = refl
      put_in false row = refl

      go : (b : Bool) → IsPermutation (map behind (filter passes xs)) (flat_map (part xs) (numbered rows))
          → IsPermutation (map behind (cond b (x ∷ filter passes xs) (filter passes xs)))
          (flat_map (λ (row : ℕ × A). map {B = (ℕ × A) × X} (λ z. (row, z)) (cond (key x == row.0 && b) (x ∷ chosen xs row) (chosen xs row)))
          (numbered rows))
      go false more =
          subst (IsPermutation (map behind (filter passes xs)))
          (flat_map_same_on (part xs)
          (λ (row : ℕ × A). map {B = (ℕ × A) × X} (λ z. (row, z)) (cond (key x == row.0 && false) (x ∷ chosen xs row) (chosen xs row)))
          (λ row. left_out (key x == row.0) row) (numbered rows))
          more
      go true more =
          let one : ℕ × A → List ((ℕ × A) × X) = λ row. cond (key x == row.0) ((row, x) ∷ []) [] in
          let first : IsPermutation (behind x ∷ map behind (filter passes xs)) (flat_map one (numbered rows) ++ flat_map (part xs) (numbered rows)) =
          subst (λ l. IsPermutation (behind x ∷ map behind (filter passes xs)) (l ++ flat_map (part xs) (numbered rows)))
          (sym (named_once x all.0)) (IsPermutation-append_right (behind x ∷ []) _ _ more) in
          IsPermutation-trans _ _ _ first
          (subst (IsPermutation (flat_map one (numbered rows) ++ flat_map (part xs) (numbered rows)))
          (flat_map_same_on (λ row. one row ++ part xs row)
          (λ (row : ℕ × A). map {B = (ℕ × A) × X} (λ z. (row, z)) (cond (key x == row.0 && true) (x ∷ chosen xs row) (chosen xs row)))
          (λ row. put_in (key x == row.0) row) (numbered rows))
          (beside_bag one (part xs) (numbered rows)))
