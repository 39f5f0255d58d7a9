-- Lists of what was kept of a table's rows. In any order of the rows, each element is kept of a value, and the values' columns are the table's rows.
use Rattle.shop_schema.proofs.Common.{◌≡◌, ◌≤◌, ◌+◌, ℕ, List, [], ◌∷◌, map, length, refl, sym, ap, subst, ◌∙◌, arith, IsPermutation, AllByRecursion, all_map}
use Rattle.shop_schema.proofs.Common.{all_weaker, IsPermutation-map, IsPermutation-refl, IsPermutation-trans, IsPermutation-sym, IsCounted}
use Rattle.shop_schema.proofs.Common.{numbered_from, numbered, IsShared, AreShared}
use Rattle.sqlite_value.specs.Order as sql
use Rattle.audit_rows.proofs.JoinLemmas.{unmapped_bag}
use Rattle.audit_rows.proofs.Maps.{map-undone}
use Rattle.audit_rows.proofs.Standing.{all_moved}
use Rattle.books_audit.specs.Listed.{AreRows, IsListed, FullOf}
use Rattle.books_audit.proofs.Ranges.{ranged}
use Rattle.books_audit.specs.ReadLists.{RowsRead}

-- values whose columns are the table's rows; `xs` is what is kept of the values
pub record Fulls {X F : Type 0} (columns : F → sql.Row) (Fits : F → Type 0) (small : F → X) (xs : List X) (rows : List sql.Row) : Type 0 where
  pub its : List F
  pub has : IsPermutation rows (map columns its)
  pub fit : AllByRecursion Fits its
  pub keeps : map small its ≡ xs

module _ {X F : Type 0} (columns : F → sql.Row) (Fits : F → Type 0) (small : F → X) where
  in_rows : (xs : List X) (rows : List sql.Row) → AreRows (FullOf columns Fits small) xs rows
      → (its : List F) × (map columns its ≡ rows) × AllByRecursion Fits its × (map small its ≡ xs)
  in_rows [] [] h = ([], refl, tt, refl)
  in_rows [] (r ∷ rows) h = absurd h
  in_rows (x ∷ xs) [] h = absurd h
  in_rows (x ∷ xs) (r ∷ rows) h =
      let first = h.0 in
      let more = in_rows xs rows h.1 in
      (first.it ∷ more.0, (λ i. first.has i ∷ more.1 i), (first.fits, more.2), (λ i. first.keeps i ∷ more.3 i))

  pub fulls : (xs ys : List X) (rows : List sql.Row) → AreRows (FullOf columns Fits small) xs rows → IsPermutation xs ys → Fulls columns Fits small ys rows
  fulls xs ys rows h p =
      let found = in_rows xs rows h in
      let moved = unmapped_bag small xs ys p found.0 found.3 in record {
        its = moved.0;
        has =
            IsPermutation-trans _ _ _ (subst (λ l. IsPermutation l (map columns found.0)) found.1 (IsPermutation-refl (map columns found.0)))
            (IsPermutation-map columns found.0 moved.0 moved.1);
        fit = all_moved Fits found.0 moved.0 moved.1 found.2;
        keeps = moved.2;
      }

  pub full_rows : {rows : List sql.Row} {kept : List X} → RowsRead (FullOf columns Fits small) rows kept → Fulls columns Fits small kept rows
  full_rows {rows} {kept} r = fulls r.found kept rows r.are_rows r.same

-- if what is kept determines the value, the values can be recovered from it
pub seen_all : {X F : Type 0} (seen : X → F) (small : F → X) → ((it : F) → seen (small it) ≡ it)
    → (its : List F) {xs : List X} → map small its ≡ xs → its ≡ map seen xs
seen_all seen small again its keeps = sym (map-undone seen small again its) ∙ ap (map seen) keeps

-- the rows of values are all of the table
module _ {X F : Type 0} (columns : F → sql.Row) (Fits : F → Type 0) (small : F → X) where
  pub ones : (its : List F) (rows : List sql.Row) → AllByRecursion Fits its
      → IsPermutation rows (map columns its) → AllByRecursion (IsListed (FullOf columns Fits small)) rows
  ones its rows h p =
      let One = IsListed (FullOf columns Fits small) in
      all_moved One (map columns its) rows (IsPermutation-sym _ _ p)
      (all_map One columns its
      (all_weaker Fits (λ it. One (columns it)) (λ it fits. (small it, record { it = it; has = refl; fits = fits; keeps = refl })) its h))

-- ---- shared rows

module _ {A : Type 0} where
  pub counted_from : (k : ℕ) (its : List (ℕ × A)) → IsCounted k (map (λ (it : ℕ × A). it.0) its) → numbered_from k (map (λ (it : ℕ × A). it.1) its) ≡ its
  counted_from k [] h = refl
  counted_from k (it ∷ its) h = λ i. (sym h.0 i, it.1) ∷ counted_from (k + 1) its h.1 i

  pub shared_fit : (P : A → Type 0) (its : List (ℕ × A)) → AllByRecursion (IsShared P) its → AllByRecursion P (map (λ (it : ℕ × A). it.1) its)
  shared_fit P its h = all_map P (λ it. it.1) its (all_weaker (IsShared P) (λ it. P it.1) (λ it fits. fits.1) its h)

  -- if the numbers count from 1, each number is its row's place
  pub shared_rows : (columns : ℕ × A → sql.Row) (rows : List sql.Row) (its : List (ℕ × A))
      → IsCounted 1 (map (λ (it : ℕ × A). it.0) its) → IsPermutation rows (map columns its)
      → IsPermutation rows (map columns (numbered (map (λ (it : ℕ × A). it.1) its)))
  shared_rows columns rows its c p = subst (λ l. IsPermutation rows (map columns l)) (sym (counted_from 1 its c)) p

  -- places are numbers of rows
  numbered_fit : (P : A → Type 0) (k : ℕ) (xs : List A) → 1 ≤ k → k + length xs ≤ 4_294_967_296
      → AllByRecursion P xs → AllByRecursion (IsShared P) (numbered_from k xs)
  numbered_fit P k [] low few all = tt
  numbered_fit P k (x ∷ xs) low few all =
      ((ranged k (low, omega (arith, few)), all.0), numbered_fit P (k + 1) xs (omega (arith, low)) (omega (arith, few)) all.1)

  pub each_shared : (P : A → Type 0) (xs : List A) → AreShared P xs → AllByRecursion (IsShared P) (numbered xs)
  each_shared P xs fit = numbered_fit P 1 xs (omega arith) (let few = fit.0 in omega (arith, few)) fit.1
