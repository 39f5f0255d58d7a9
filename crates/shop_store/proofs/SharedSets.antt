-- An UPDATE of some columns of the shared row of a number.
use Rattle.shop_schema.proofs.Common.{◌≡◌, ◌≤◌, ◌<◌, ◌+◌, ◌-◌, ◌==◌, ◌&&◌, ℕ, List, [], ◌∷◌, map, drop, length, Bool, true, false, cond, Ok, refl, sym, subst}
use Rattle.shop_schema.proofs.Common.{arith, ⊤, list_all, nat_tests, Value, Int, rowid, Term, eval_all, holds, cast, cast_all, cast_row, Update, State}
use Rattle.shop_schema.proofs.Common.{ExecutesInside, update_where, Means, HasRows, SameBut, PicksOne, columns_from, columns_of, number_value, are_kept, id_of}
use Rattle.shop_schema.proofs.Common.{number_test, one_tested, test_of, writes_by, plain_query, sets_row, numbered, numbered_from, set_at, Books, shop_schema}
use Rattle.shop_schema.proofs.Common.{StandsWith, Writes}
use Rattle.sqlite_value.specs.Order as sql
use Rattle.sqlite_schema.specs.declared.schema.Kind.TheVariants as kind
use Rattle.shop_schema.proofs.Lasts.{numbered_once}
use Rattle.shop_schema.proofs.Listed.{own_rows}
use Rattle.shop_store.proofs.BranchRows.{written, set_terms}
use Rattle.shop_store.proofs.ByNumber.{ByNumber}
use Rattle.shop_store.proofs.SharedReads.{of_number}

-- ---- the row of a number

module _ {A : Type 0} (f : A → A) where
  abbrev pub set_item : ℕ × A → ℕ × A
  set_item it = (it.0, f it.1)

  abbrev set_numbered : ℕ → ℕ → List A → List (ℕ × A)
  set_numbered n k xs = update_where (λ (it : ℕ × A). it.0 == n) set_item (numbered_from k xs)

  -- no later row has the number
  none_after : (k n : ℕ) → n < k → (xs : List A) → set_numbered n k xs ≡ numbered_from k xs
  none_after k n low [] = refl
  none_after k n low (x ∷ xs) =
      let apart : (k == n) ≡ false = grind (arith, nat_tests) in λ i. cond (apart i) (k, f x) (k, x) ∷ none_after (k + 1) n (omega arith) xs i

  set_from : (k m : ℕ) → 1 ≤ m → (xs : List A) (n : ℕ) → n + 1 ≡ k + m → set_numbered n k xs ≡ numbered_from k (set_at m f xs)
  set_from k m low [] n is = refl
  set_from k m low (x ∷ xs) n is = go (m == 1) refl (λ later. set_from (k + 1) (m - 1) (omega arith) xs n (omega arith))
    where
      go : (b : Bool) → (m == 1) ≡ b → (2 ≤ m → set_numbered n (k + 1) xs ≡ numbered_from (k + 1) (set_at (m - 1) f xs))
          → cond (k == n) (k, f x) (k, x) ∷ set_numbered n (k + 1) xs ≡ numbered_from k (cond b (f x ∷ xs) (x ∷ set_at (m - 1) f xs))
      go true one more =
          let first : m ≡ 1 = grind (arith, nat_tests) in
          let tested : (k == n) ≡ true = grind (arith, nat_tests) in
          λ i. cond (tested i) (k, f x) (k, x) ∷ none_after (k + 1) n (omega arith) xs i
      go false other more =
          let later : 2 ≤ m = grind (arith, nat_tests) in
          let tested : (k == n) ≡ false = grind (arith, nat_tests) in
          λ i. cond (tested i) (k, f x) (k, x) ∷ more later i

  pub numbered_set : (n : ℕ) → 1 ≤ n → (xs : List A) → set_numbered n 1 xs ≡ numbered (set_at n f xs)
  numbered_set n low xs = set_from 1 n low xs n (omega arith)

-- ---- the text

-- `places` are the columns', from 0
module _ {A : Type 0} (t : ByNumber A) (text : List ℕ) (places : List ℕ) (vs : List Value) (f : A → A) (n : ℕ) where
  abbrev wide : ℕ
  wide = length t.table.columns

  abbrev terms : List Term
  terms = set_terms 1 wide places

  abbrev set_columns : sql.Row → sql.Row
  set_columns row = written places vs (columns_from 0 wide row)

  abbrev params : sql.Row
  params = number_value n ∷ vs

  abbrev change : Books → Books
  change books = t.part.filled (set_at n f (t.part.items books)) books

  abbrev pub SetsByNumber : Type 1
  SetsByNumber = (old new : State) (count : ℕ) → 1 ≤ n → ExecutesInside 0 text params old new (Ok count) → Writes old new (λ _. ⊤) change

  -- the premises are `refl` if the text is known, except `kept` if a column may be NULL
  pub sets_by_number : Means shop_schema text (Update t.place (record { lets = []; body = plain_query t.table.tree of_number terms [] }))
      → ((books : Books) (it : ℕ × A) → set_columns (t.columns books it) ≡ t.columns books (set_item f it))
      → ((books : Books) (it : ℕ × A) → are_kept t.table.columns (set_columns (t.columns books it)) ≡ true)
      → ((r : sql.Row) → list_all (holds (params ∷ r ∷ [])) of_number ≡ (number_test 0 n (columns_of wide r) && true))
      → ((r : sql.Row) → drop 1 (eval_all terms (params ∷ r ∷ [])) ≡ rowid r ∷ set_columns (columns_of wide r))
      → ((r : sql.Row) → id_of (eval_all terms (params ∷ r ∷ [])) ≡ id_of r)
      → ((r : sql.Row) → columns_of wide (Int (id_of r) ∷ set_columns (columns_of wide r)) ≡ set_columns (columns_of wide r))
      → ((w : Value) (row : sql.Row) → cast_row t.table (w ∷ row) ≡ cast kind.Integer w ∷ cast_all t.table.columns row) → SetsByNumber
  sets_by_number means sets_are kept sees shown ids whole casts old new count low h counts books holds given =
      writes_by shop_schema (StandsWith counts) old new (λ them. them ≡ books) change (λ has.
      sets_row shop_schema (StandsWith counts) text t.place t.table wide of_number terms params
      (t.columns books) (λ vs. number_test 0 n vs && true) (λ it. it.0 == n) set_columns (set_item f)
      (λ it. one_tested _ (test_of (t.columns books it) 0 it.0 n (t.numbers books it))) (sets_are books) (kept books) old new has
      means t.plain.place refl count h (own_rows old.now.trees t.table.tree) sees shown ids whole casts (λ them. them ≡ books) change
      (λ them same s is sets.
      subst (λ (b : Books). StandsWith counts old.now.trees b → StandsWith counts new.now.trees (change b)) (sym is)
      (λ stood. put same stood (sets (numbered (t.part.items books)) (t.stood counts books old.now.trees stood) few)) s))
      books holds refl
    where
      few : PicksOne (λ (it : ℕ × A). it.0 == n) (numbered (t.part.items books))
      few = numbered_once 1 (t.part.items books) n

      put : SameBut shop_schema t.table.tree old.now.trees new.now.trees → StandsWith counts old.now.trees books
          → HasRows wide (new.now.trees t.table.tree)
          (map (t.columns books) (update_where (λ (it : ℕ × A). it.0 == n) (set_item f) (numbered (t.part.items books))))
          → StandsWith counts new.now.trees (change books)
      put same stood rows =
          t.changed counts books (set_at n f (t.part.items books)) old.now.trees new.now.trees same stood
          (subst (λ (its : List (ℕ × A)). HasRows wide (new.now.trees t.table.tree) (map (t.columns books) its))
          (numbered_set f n low (t.part.items books)) rows)
