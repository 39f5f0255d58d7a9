-- What is read of a shared row by its number, and of a table's only row.
use Rattle.shop_schema.proofs.Common.{◌≡◌, ◌≤◌, suc, Trees, HasRows, TellsFirst, ◌==◌, ◌&&◌, ℕ, List, [], ◌∷◌, map, length, cond, not, true, Some, None, refl}
use Rattle.shop_schema.proofs.Common.{sym, ap, subst, ◌∙◌, arith, slice_get, list_all, nat_tests, Null, column, Binary, Term, col, op2, holds, Query, output}
use Rattle.shop_schema.proofs.Common.{Compare, Eq, State, map-map, columns_of, number_value, length-map, Selects, plain_query, number_test, one_tested, test_of}
use Rattle.shop_schema.proofs.Common.{projects_one, still_holds, at, is_empty, lacks, numbered, Books, head, shop_schema, StandsFor, Holds, Reads, counts_of}
use Rattle.std.specs.Prelude.{Option}
use Rattle.sqlite_value.specs.Order as sql
use Rattle.sqlite.specs.State.{Shown}
use Rattle.shop_schema.proofs.FirstRows.{first_none, first_some}
use Rattle.shop_schema.proofs.Lasts.{numbered_once}
use Rattle.shop_schema.proofs.Stands.{with_own}
use Rattle.shop_schema.proofs.Listed.{own_rows}
use Rattle.shop_schema.proofs.Numbered.{picked}
use Rattle.shop_store.proofs.ByNumber.{ByNumber}

abbrev pub of_number : List Term
of_number = op2 (Compare Eq Binary) (col 1 1) (col 0 0) ∷ []

-- `shown` are the columns that the text asks for, and `show` the same of a row's columns
module _ {A : Type 0} (t : ByNumber A) (text : List ℕ) (shown : List Term) where
  abbrev pub width : ℕ
  width = length t.table.columns

  abbrev pub asked : Query
  asked = plain_query t.table.tree of_number shown []

  abbrev pub Shows : (sql.Row → sql.Row) → Type 0
  Shows show =
      (n : ℕ) (r : sql.Row) → cond (list_all (holds ((number_value n ∷ []) ∷ r ∷ [])) of_number) (output asked ((number_value n ∷ []) ∷ r ∷ []) ∷ []) []
      ≡ cond (number_test 0 n (columns_of width r) && true) (([], show (columns_of width r)) ∷ []) []

  module _ (means : Selects shop_schema text asked) (show : sql.Row → sql.Row) (only : Shows show)
      (old new : State) (n : ℕ) (rows : List sql.Row) (h : Shown text (number_value n ∷ []) old new rows) (low : 1 ≤ n) where
    pub still : (books : Books) → Holds old books → Holds new books
    still = still_holds shop_schema StandsFor text (number_value n ∷ []) old new means.plain rows h

    pub shows_shared : (books : Books) → Holds old books → rows ≡ map (λ x. show (t.columns books (n, x))) (at n (t.part.items books))
    shows_shared books holds =
        projects_one shop_schema text t.table.tree width of_number shown means
        (number_value n ∷ []) old new rows holds.schema_is h (t.columns books) (numbered (t.part.items books))
        (t.stood (counts_of books) books old.now.trees (with_own old.now.trees books holds.stands))
        (own_rows old.now.trees t.table.tree) (λ vs. number_test 0 n vs && true) show (λ it. it.0 == n)
        (λ it. one_tested _ (test_of (t.columns books it) 0 it.0 n (t.numbers books it))) (only n) (numbered_once 1 (t.part.items books) n)
        ∙ ap (map (λ it. show (t.columns books it))) (picked n low (t.part.items books))
        ∙ map-map (λ (it : ℕ × A). show (t.columns books it)) (λ x. (n, x)) (at n (t.part.items books))

    -- whether there is a row
    pub reads_whether : Reads old new (λ books. not (length rows == 0) ≡ not (lacks (t.part.items books) n))
    reads_whether books holds held = (
      still books holds,
      ap (λ (k : ℕ). not (k == 0)) (ap length (shows_shared books holds) ∙ length-map (λ x. show (t.columns books (n, x))) (at n (t.part.items books)))
          ∙ ap not (none_there (at n (t.part.items books))),
    )
      where
        none_there : (xs : List A) → (length xs == 0) ≡ is_empty xs
        none_there [] = refl
        none_there (x ∷ xs) = grind (arith, nat_tests)

    -- what the first row says of the books: `means_it` says that a value that fits the row's columns is the value of the shared row
    pub reads_first : {V : Type 0} (told : A → V) (Fits : sql.Row → V → Type 0)
        → ((books : Books) (x : A) (v : V) → Fits (show (t.columns books (n, x))) v → v ≡ told x) → (slice : List sql.Row) → slice ≡ rows
        → (None ≡ slice_get slice 0 → Reads old new (λ books. None ≡ head (map told (at n (t.part.items books)))))
        × ((row : sql.Row) (v : V) → Some row ≡ slice_get slice 0 → Fits row v → Reads old new (λ books. Some v ≡ head (map told (at n (t.part.items books)))))
    reads_first told Fits means_it slice same = (
      λ none books holds held.
          (still books holds, first_none (λ x. show (t.columns books (n, x))) told (at n (t.part.items books)) rows slice (shows_shared books holds) same none),
      λ row v some fits books holds held. (
        still books holds,
        first_some (λ x. show (t.columns books (n, x))) told (at n (t.part.items books)) rows slice
            (shows_shared books holds) same row v some (λ x is. means_it books x v (subst (λ r. Fits r v) (sym is) fits)),
      ),
    )

-- what the statement's first row says of the shared row of the number
abbrev pub ReadsFirst : {A V : Type 0} → ByNumber A → List ℕ → (A → V) → (sql.Row → V → Type 0) → Type 1
ReadsFirst {A} {V} t text told Fits =
    (old new : State) (n : ℕ) (rows slice : List sql.Row) → Shown text (number_value n ∷ []) old new rows → 1 ≤ n → slice ≡ rows
    → (None ≡ slice_get slice 0 → Reads old new (λ books. None ≡ head (map told (at n (t.part.items books)))))
    × ((row : sql.Row) (v : V) → Some row ≡ slice_get slice 0 → Fits row v → Reads old new (λ books. Some v ≡ head (map told (at n (t.part.items books)))))

-- ---- whether there is a row of the number

abbrev pub ReadsWhether : {A : Type 0} → ByNumber A → List ℕ → Type 1
ReadsWhether t text =
    (old new : State) (n : ℕ) (rows : List sql.Row) → Shown text (number_value n ∷ []) old new rows
    → 1 ≤ n → Reads old new (λ books. not (length rows == 0) ≡ not (lacks (t.part.items books) n))

pub number_is_some : (n : ℕ) → number_value n ≡ Null → ⊥
number_is_some n h = cc

-- ---- a column of a table's only row: `one` says that its values are one to one

module _ {X : Type 0} (text : List ℕ) (tree width place : ℕ) (means : Selects shop_schema text (plain_query tree [] (col 1 (suc place) ∷ []) []))
    (only : (r : sql.Row) → output (plain_query tree [] (col 1 (suc place) ∷ []) []) ([] ∷ r ∷ []) ∷ [] ≡ ([], column (columns_of width r) place ∷ []) ∷ [])
    (columns : X → sql.Row) (item : Books → X)
    (stood : (books : Books) (trees : Trees) → StandsFor trees books → HasRows width (trees tree) (columns (item books) ∷ [])) where
  pub only_shown : (old new : State) (rows : List sql.Row) → Shown text [] old new rows → (books : Books) → Holds old books
      → rows ≡ (column (columns (item books)) place ∷ []) ∷ []
  only_shown old new rows h books holds =
      projects_one shop_schema text tree width [] (col 1 (suc place) ∷ []) means [] old new rows holds.schema_is h columns
      (item books ∷ []) (stood books old.now.trees holds.stands) (own_rows old.now.trees tree)
      (λ vs. true) (λ vs. column vs place ∷ []) (λ x. true) (λ x. refl) only (omega arith)

  pub reads_only : {V : Type 0} {Fits : sql.Row → V → Type 0} → ((x y : X) → column (columns x) place ≡ column (columns y) place → x ≡ y) → (told : V → X)
      → ((row : sql.Row) (v : V) → Fits row v → column row 0 ≡ column (columns (told v)) place)
      → (old new : State) (rows : List sql.Row) (found : Option V) (v : V) → Shown text [] old new rows
      → TellsFirst Fits rows found → found ≡ Some v → Reads old new (λ books. told v ≡ item books)
  reads_only {Fits = Fits} one told fits old new rows found v h first is books holds held =
      let it = subst (TellsFirst Fits rows) is first in
      let both : Some it.0 ≡ Some (column (columns (item books)) place ∷ []) =
      it.1 ∙ ap (λ (rs : List sql.Row). slice_get rs 0) (only_shown old new rows h books holds) in
      let row : it.0 ≡ column (columns (item books)) place ∷ [] = cc in (
        still_holds shop_schema StandsFor text [] old new means.plain rows h books holds,
        one (told v) (item books) (sym (fits it.0 v it.2) ∙ ap (λ (r : sql.Row). column r 0) row),
      )
