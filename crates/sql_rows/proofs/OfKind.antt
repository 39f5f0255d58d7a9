-- Columns that are one to one only for values of some kind, for example the columns of moments.
use Rattle.sql_rows.proofs.Common.{◌≡◌, List, [], ◌∷◌, map, refl, sym, subst, AllByRecursion, IsPermutation, all-permutation}
use Rattle.sqlite_trees.proofs.ListLemmas.{pull_back}

module _ {X Y : Type 0} (f : X → Y) (P : X → Type 0) (one : (a b : X) → P a → P b → f a ≡ f b → a ≡ b) where
  pub unmapped_kind : (xs ys : List X) → AllByRecursion P xs → AllByRecursion P ys → map f xs ≡ map f ys → xs ≡ ys
  unmapped_kind [] [] p q h = refl
  unmapped_kind [] (y ∷ ys) p q h = cc
  unmapped_kind (x ∷ xs) [] p q h = cc
  unmapped_kind (x ∷ xs) (y ∷ ys) p q h =
      let head : f x ≡ f y = cc in let tail : map f xs ≡ map f ys = cc in (λ i. one x y p.0 q.0 head i ∷ unmapped_kind xs ys p.1 q.1 tail i)

  -- two lists whose images are one bag are one bag
  pub same_bag : (xs ys : List X) → AllByRecursion P xs → AllByRecursion P ys → IsPermutation (map f xs) (map f ys) → IsPermutation xs ys
  same_bag xs ys p q h =
      let it = pull_back f _ _ h xs refl in subst (IsPermutation xs) (unmapped_kind it.0 ys (all-permutation P xs it.0 it.1 p) q (sym it.2)) it.1
