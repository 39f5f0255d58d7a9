-- The greatest number of a table whose rows are counted is how many rows it has.
use Rattle.shop_schema.proofs.Common.{◌≡◌, ◌<◌, ◌+◌, ℕ, suc, List, [], ◌∷◌, map, filter, length, true, refl, sym, ap, subst, ◌∙◌, arith, AllByRecursion, column}
use Rattle.shop_schema.proofs.Common.{IsAscending, col, Query, output, State, columns_of, number_value, still_holds, Selects, plain_query, same_number}
use Rattle.shop_schema.proofs.Common.{numbered, numbered_from, Books, shop_schema, counts_of, StandsFor, Reads, TellsFirst, Trees, HasRows, IsCounted, IsHeld}
use Rattle.shop_schema.proofs.Common.{length-map}
use Rattle.std.specs.Prelude.{Option, Some, None}
use Rattle.std.specs.Option.{unwrap_or}
use Rattle.sqlite_value.specs.Order as sql
use Rattle.sqlite_tied.specs.Compute.{everything}
use Rattle.sqlite.specs.Listing.{understood}
use Rattle.sqlite.specs.State.{Shown}
use Rattle.shop_schema.proofs.Lasts.{numbered_counted}
use Rattle.shop_schema.proofs.Stands.{with_own}
use Rattle.shop_schema.proofs.Listed.{own_rows}
use Rattle.shop_store.specs.declared.lasts.SharedTable.{SharedTable}
use Rattle.shop_store.specs.declared.lasts.SharedTable.TheVariants as shared
use Rattle.shop_store.specs.SharedSeen.{IsFirstNumber, last_text, how_many}
use Rattle.shop_ledger.proofs.Rising.{counted_above, counted_rise, numbered_items}
use Rattle.shop_store.proofs.ByNumber.{ByNumber, countries, languages, categories, cities, actors, films, branches, staff}
use Rattle.sql_rows.proofs.LastRow.{ending, first_query, descending, projects_last}

pub above_from : {A : Type 0} (k : ℕ) (xs : List A) (n : ℕ) → n < k → AllByRecursion (λ (it : ℕ × A). n < it.0) (numbered_from k xs)
above_from {A} k xs n low = counted_above (λ (it : ℕ × A). it.0) k (numbered_from k xs) n low (numbered_counted k xs)

pub numbered_rise : {A : Type 0} (k : ℕ) (xs : List A) → IsAscending (λ (a b : ℕ × A). a.0 < b.0) (numbered_from k xs)
numbered_rise {A} k xs = counted_rise (λ (it : ℕ × A). it.0) k (numbered_from k xs) (numbered_counted k xs)

module _ {X : Type 0} (number : X → ℕ) where
  -- the number of the last of rows that are counted from k
  last_number : (k : ℕ) (x : X) (xs : List X) → IsCounted k (map number (x ∷ xs))
      → map (λ (it : X). number_value (number it) ∷ []) (ending (x ∷ xs)) ≡ (number_value (k + length xs) ∷ []) ∷ []
  last_number k x [] counted = let same : number x ≡ k + 0 = omega (arith, counted.0) in ap (λ (n : ℕ). (number_value n ∷ []) ∷ []) same
  last_number k x (y ∷ xs) counted =
      let same : k + 1 + length xs ≡ k + length (y ∷ xs) = omega arith in last_number (k + 1) y xs counted.1 ∙ ap (λ (n : ℕ). (number_value n ∷ []) ∷ []) same

  -- so the first row's number is how many there are
  counts_all : (xs : List X) → IsCounted 1 (map number xs) → (rows : List sql.Row) (n : ℕ)
      → rows ≡ map (λ (it : X). number_value (number it) ∷ []) (ending xs) → IsFirstNumber rows n → n ≡ length xs
  counts_all [] counted rows n are first = subst (λ (l : List sql.Row). IsFirstNumber l n) are first
  counts_all (x ∷ xs) counted rows n are first =
      let told : number_value (1 + length xs) ≡ number_value n = subst (λ (l : List sql.Row). IsFirstNumber l n) (are ∙ last_number 1 x xs counted) first in
      let same : n ≡ 1 + length xs = sym (same_number (1 + length xs) n told) in
      omega (arith, same)

-- the number of the first row, or 0
pub first_number : {Fits : sql.Row → ℕ → Type 0} → ((row : sql.Row) (n : ℕ) → Fits row n → column row 0 ≡ number_value n)
    → (rows : List sql.Row) (found : Option ℕ) → TellsFirst Fits rows found
    → IsFirstNumber rows (unwrap_or found 0)
first_number fits [] None told = refl
first_number fits [] (Some n) told = let none : ⊥ = cc (told.1) in absurd none
first_number fits (row ∷ rows) None told = let none : ⊥ = cc in absurd none
first_number fits (row ∷ rows) (Some n) told = let same : told.0 ≡ row = cc (told.1) in rw same at (fits told.0 n told.2)

-- ---- a table whose rows are counted in one of their columns

all_pass : {X : Type 0} (xs : List X) → filter (λ _. true) xs ≡ xs
all_pass [] = refl
all_pass (x ∷ xs) = ap (λ l. x ∷ l) (all_pass xs)

abbrev pub last_query : ℕ → ℕ → Query
last_query tree place = first_query tree [] (col 1 (suc place) ∷ []) ((col 1 (suc place), descending) ∷ [])

abbrev pub falling : ℕ → ℕ → Query
falling tree place = plain_query tree [] (col 1 (suc place) ∷ []) ((col 1 (suc place), descending) ∷ [])

module _ {X : Type 0} (text : List ℕ) (tree width place : ℕ) where
  -- `means` and `only` are `refl` if the text and the table are known
  pub reads_greatest : Selects shop_schema text (last_query tree place)
      → ((r : sql.Row) → output (falling tree place) ([] ∷ r ∷ []) ∷ [] ≡ (column (columns_of width r) place ∷ [], column (columns_of width r) place ∷ []) ∷ [])
      → (columns : Books → X → sql.Row) (items : Books → List X)
      → ((books : Books) (trees : Trees) → StandsFor trees books → HasRows width (trees tree) (map (columns books) (items books)))
      → (number : X → ℕ) → ((books : Books) (x : X) → column (columns books x) place ≡ number_value (number x))
      → ((books : Books) → IsHeld books → IsCounted 1 (map number (items books)))
      → (old new : State) (n : ℕ) (rows : List sql.Row) → Shown text [] old new rows → IsFirstNumber rows n → Reads old new (λ books. n ≡ length (items books))
  reads_greatest means only columns items stood number numbers counted old new n rows h first = λ books holds held.
      let its = items books in
      let up = counted_rise number 1 its (counted books held) in
      let shown : rows ≡ map (λ x. column (columns books x) place ∷ []) (ending (filter (λ _. true) its)) =
      projects_last shop_schema text tree width [] (col 1 (suc place) ∷ []) place means [] old new rows holds.schema_is h
      (columns books) its (stood books old.now.trees holds.stands) (own_rows old.now.trees tree)
      (λ vs. true) (λ vs. column vs place ∷ []) (λ x. true) (λ x. refl) only number (numbers books)
      (subst (IsAscending (λ (a b : X). number a < number b)) (sym (all_pass its)) up) in (
        still_holds shop_schema StandsFor text [] old new means.plain rows h books holds,
        counts_all number its (counted books held) rows n (shown ∙ (λ i. map (λ x. numbers books x i ∷ []) (ending (all_pass its i)))) first,
      )

-- ---- shared rows

module _ {A : Type 0} (t : ByNumber A) (text : List ℕ) where
  abbrev wide : ℕ
  wide = length t.table.columns

  pub reads_last : Selects shop_schema text (last_query t.table.tree 0)
      → ((r : sql.Row) → output (falling t.table.tree 0) ([] ∷ r ∷ []) ∷ [] ≡ (column (columns_of wide r) 0 ∷ [], column (columns_of wide r) 0 ∷ []) ∷ [])
      → (old new : State) (n : ℕ) → (rows : List sql.Row) × Shown text [] old new rows × IsFirstNumber rows n
      → Reads old new (λ books. n ≡ length (t.part.items books))
  reads_last means only old new n told books holds held =
      let found =
      reads_greatest text t.table.tree wide 0 means only t.columns (λ them. numbered (t.part.items them))
      (λ them trees s. t.stood (counts_of them) them trees (with_own trees them s))
      (λ it. it.0) t.numbers (λ them held. numbered_counted 1 (t.part.items them)) old new n told.0 told.1 told.2 books holds held in
      (found.0, found.1 ∙ sym (length-map (λ (it : ℕ × A). it.1) (numbered (t.part.items books))) ∙ ap length (numbered_items 1 (t.part.items books)))

-- the table's statement returns how many rows the table has
pub last_of : (table : SharedTable) (old new : State) (n : ℕ) → (rows : List sql.Row) × Shown (last_text table) [] old new rows × IsFirstNumber rows n
    → Reads old new (λ books. n ≡ how_many table books.catalogue)
unfolding understood everything
last_of shared.Country = reads_last countries _ (record { names = _; is = refl; plain = (refl, refl); unlisted = refl }) (λ r. refl)
last_of shared.Language = reads_last languages _ (record { names = _; is = refl; plain = (refl, refl); unlisted = refl }) (λ r. refl)
last_of shared.Category = reads_last categories _ (record { names = _; is = refl; plain = (refl, refl); unlisted = refl }) (λ r. refl)
last_of shared.City = reads_last cities _ (record { names = _; is = refl; plain = (refl, refl); unlisted = refl }) (λ r. refl)
last_of shared.Actor = reads_last actors _ (record { names = _; is = refl; plain = (refl, refl); unlisted = refl }) (λ r. refl)
last_of shared.Film = reads_last films _ (record { names = _; is = refl; plain = (refl, refl); unlisted = refl }) (λ r. refl)
last_of shared.Branch = reads_last branches _ (record { names = _; is = refl; plain = (refl, refl); unlisted = refl }) (λ r. refl)
last_of shared.Staff = reads_last staff _ (record { names = _; is = refl; plain = (refl, refl); unlisted = refl }) (λ r. refl)
