-- Calls that return whether a SELECT shows a row.
use Rattle.shop_schema.proofs.Common.{◌≡◌, ◌==◌, ◌+◌, ◌&&◌, ◌||◌, ℕ, suc, List, [], ◌∷◌, map, filter, length, cond, not, Bool, true, false, Result, refl, ap}
use Rattle.shop_schema.proofs.Common.{◌∙◌, arith, MutBor, list_all, list_any, bytes_eq, nat_tests, column, Binary, Trees, Term, col, op2, holds, Query, output}
use Rattle.shop_schema.proofs.Common.{Compare, Eq, is_true, Ghosts, Held, state, State, HasRows, columns_of, StoreFault, Selects, plain_query, text_test}
use Rattle.shop_schema.proofs.Common.{text_tested, one_tested, projects_count, still_holds, numbered, numbered_from, Books, shop_schema, counts_of, StandsFor}
use Rattle.shop_schema.proofs.Common.{Reads}
use Rattle.sqlite.specs.declared.types.Value.TheVariants.{Text}
use Rattle.sqlite_value.specs.Order as sql
use Rattle.sqlite_sql.specs.Ops.{binary}
use Rattle.sqlite.specs.State.{Shown}
use Rattle.shop_model.specs.Values as model
use Rattle.sql_rows.specs.Calls.{DoesInside}
use Rattle.shop_schema.proofs.Different.{bytes_eq_turned}
use Rattle.shop_schema.proofs.Stands.{with_own}
use Rattle.shop_schema.proofs.Listed.{own_rows}
use Rattle.shop_ledger.specs.Calls.{Finds}
use Rattle.shop_ledger.proofs.Doing.{does_so}
use Rattle.shop_store.proofs.ByNumber.{ByNumber}

-- the call returns whether the SELECT shows a row
pub tells : {S : Type 0} {g : Ghosts S} {a b : MutBor (Held S)} {r : Result Bool StoreFault} {P : Books → Bool} (text : List ℕ) (params : sql.Row)
    → DoesInside g a b r (λ shows old new. (rows : List sql.Row) × Shown text params old new rows × (shows ≡ not (length rows == 0)))
    → ((rows : List sql.Row) → Shown text params (state g a.now) (state g b.now) rows
    → Reads (state g a.now) (state g b.now) (λ books. not (length rows == 0) ≡ P books))
    → DoesInside g a b r (λ shows. Finds (λ books. shows ≡ P books))
tells text params one read = does_so one.inside one.says (λ shows seen books holds held.
    let found = read seen.0 seen.1 books holds held in
    (found.0, seen.2 ∙ found.1))

any_there : {X : Type 0} (p : X → Bool) (xs : List X) → not (length (filter p xs) == 0) ≡ list_any p xs
any_there p [] = refl
any_there {X} p (x ∷ xs) =
    elim (p x) as (λ b. not (length (cond b (x ∷ filter p xs) (filter p xs)) == 0) ≡ (b || list_any p xs))
    [ true ↦ more_than_none (length (filter p xs)) | false ↦ any_there p xs ]
  where
    more_than_none : (n : ℕ) → not (suc n == 0) ≡ true
    more_than_none n = grind (arith, nat_tests)

-- some value that is `own` has an item that passes `q` exactly if some item of the `own` values passes it
pub any_own : {X A : Type 0} (own : X → Bool) (item : X → A) (q : A → Bool) (xs : List X)
    → list_any (λ x. own x && q (item x)) xs ≡ list_any q (map item (filter own xs))
any_own own item q [] = refl
any_own own item q (x ∷ xs) =
    elim (own x) as (λ b. ((b && q (item x)) || list_any (λ x. own x && q (item x)) xs) ≡ list_any q (map item (cond b (x ∷ filter own xs) (filter own xs))))
    [ true ↦ ap (λ t. q (item x) || t) (any_own own item q xs) | false ↦ any_own own item q xs ]

any_numbered : {A : Type 0} (q : A → Bool) (k : ℕ) (xs : List A) → list_any (λ (it : ℕ × A). q it.1) (numbered_from k xs) ≡ list_any q xs
any_numbered q k [] = refl
any_numbered q k (x ∷ xs) = ap (λ b. q x || b) (any_numbered q (k + 1) xs)

-- `seen` is the filter, written over a row's columns; of a value's it is `p`
module _ {X : Type 0} (text : List ℕ) (tree width : ℕ) (tests shown : List Term) (means : Selects shop_schema text (plain_query tree tests shown []))
    (columns : Books → X → sql.Row) (items : Books → List X)
    (stood : (books : Books) (trees : Trees) → StandsFor trees books → HasRows width (trees tree) (map (columns books) (items books)))
    (params : sql.Row) (seen : sql.Row → Bool) (show : sql.Row → sql.Row) (p : X → Bool)
    (tests_are : (books : Books) (x : X) → seen (columns books x) ≡ p x) where
  abbrev asked : Query
  asked = plain_query tree tests shown []

  pub reads_any :
      ((r : sql.Row)
      → cond (list_all (holds (params ∷ r ∷ [])) tests) (output asked (params ∷ r ∷ []) ∷ []) []
      ≡ cond (seen (columns_of width r)) (([], show (columns_of width r)) ∷ []) [])
      → (old new : State) (rows : List sql.Row) → Shown text params old new rows → Reads old new (λ books. not (length rows == 0) ≡ list_any p (items books))
  reads_any only old new rows h books holds held = (
    still_holds shop_schema StandsFor text params old new means.plain rows h books holds,
    ap (λ (n : ℕ). not (n == 0))
        (projects_count shop_schema text tree width tests shown means params old new rows holds.schema_is h (columns books)
        (items books) (stood books old.now.trees holds.stands) (own_rows old.now.trees tree) seen show p (tests_are books) only)
        ∙ any_there p (items books),
  )

-- ---- by a text

module _ {A : Type 0} (t : ByNumber A) (text : List ℕ) (place : ℕ) where
  abbrev pub of_text : List Term
  of_text = op2 (Compare Eq Binary) (col 1 (suc place)) (col 0 0) ∷ []

  abbrev pub with_text : Query
  with_text = plain_query t.table.tree of_text (col 1 1 ∷ []) []

  -- the premises are `refl` if the text and the table are known
  pub reads_text : Selects shop_schema text with_text → (of : A → List ℕ) → ((books : Books) (it : ℕ × A) → column (t.columns books it) place ≡ Text (of it.1))
      → ((name : List ℕ) (r : sql.Row) → cond (list_all (holds ((Text name ∷ []) ∷ r ∷ [])) of_text) (output with_text ((Text name ∷ []) ∷ r ∷ []) ∷ []) []
      ≡ cond (text_test place name (columns_of (length t.table.columns) r) && true) (([], column (columns_of (length t.table.columns) r) 0 ∷ []) ∷ []) [])
      → (old new : State) (name : List ℕ) (rows : List sql.Row) → Shown text (Text name ∷ []) old new rows
      → Reads old new (λ books. not (length rows == 0) ≡ list_any (λ x. bytes_eq (of x) name) (t.part.items books))
  reads_text means of texts only old new name rows h books holds held =
      let found =
      reads_any text t.table.tree (length t.table.columns) of_text (col 1 1 ∷ []) means t.columns (λ them. numbered (t.part.items them))
      (λ them trees s. t.stood (counts_of them) them trees (with_own trees them s)) (Text name ∷ [])
      (λ vs. text_test place name vs && true) (λ vs. column vs 0 ∷ []) (λ it. bytes_eq (of it.1) name)
      (λ them it. one_tested _ (ap (λ v. is_true (binary (Compare Eq Binary) v (Text name))) (texts them it) ∙ text_tested (of it.1) name))
      (only name) old new rows h books holds held in
      (found.0, found.1 ∙ any_numbered (λ x. bytes_eq (of x) name) 1 (t.part.items books))

any_turned : (name : List ℕ) (names : List model.Text) → list_any (λ x. bytes_eq x name) names ≡ list_any (bytes_eq name) names
any_turned name [] = refl
any_turned name (x ∷ names) = λ i. bytes_eq_turned x name i || any_turned name names i

-- the names of a table
abbrev pub ReadsName : ByNumber model.Text → List ℕ → Type 1
ReadsName t text =
    (old new : State) (name : List ℕ) (rows : List sql.Row) → Shown text (Text name ∷ []) old new rows
    → Reads old new (λ books. not (length rows == 0) ≡ list_any (bytes_eq name) (t.part.items books))

pub reads_name : (t : ByNumber model.Text) (text : List ℕ) → Selects shop_schema text (with_text t text 1)
    → ((books : Books) (it : ℕ × model.Text) → column (t.columns books it) 1 ≡ Text it.1)
    → ((name : List ℕ) (r : sql.Row)
    → cond (list_all (holds ((Text name ∷ []) ∷ r ∷ [])) (of_text t text 1)) (output (with_text t text 1) ((Text name ∷ []) ∷ r ∷ []) ∷ []) []
    ≡ cond (text_test 1 name (columns_of (length t.table.columns) r) && true) (([], column (columns_of (length t.table.columns) r) 0 ∷ []) ∷ []) [])
    → ReadsName t text
reads_name t text means texts only old new name rows h books holds held =
    let found = reads_text t text 1 means (λ it. it) texts only old new name rows h books holds held in
    (found.0, found.1 ∙ any_turned name (t.part.items books))
