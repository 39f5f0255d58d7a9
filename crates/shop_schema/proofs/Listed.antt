-- A table whose rows stand for one list of the books, and how an INSERT and an UPDATE change the table.
use Rattle.shop_schema.proofs.Common.{◌≡◌, ◌/◌, ◌+◌, ℕ, suc, List, [], ◌∷◌, ◌++◌, map, length, Bool, true, false, cond, None, Ok, refl, sym, ap, subst, ◌∙◌}
use Rattle.shop_schema.proofs.Common.{arith, ⊤, unwrap_or, map_push, Value, Null, Trees, Term, eval_all, values, overlay, Table, Values, Insert, value_rows}
use Rattle.shop_schema.proofs.Common.{State, ExecutesInside, Means, HasRows, SameBut, columns_of, are_kept, IsPlainTable, has_put, numbered, Books, shop_schema}
use Rattle.shop_schema.proofs.Common.{Counts, StandsWith, Writes, Tallies, numbered_push}
use Rattle.sqlite_value.specs.Order as sql
use Rattle.shop_schema.proofs.Stands.{rows_of, rows_at, with_rows, one_has, stands_but, stands_at}

-- a list of the books, and the books with another in its place; the laws are `refl` where the list is known
pub record Part (A : Type 0) : Type 0 where
  pub items : Books → List A
  pub filled : List A → Books → Books
  pub got : (xs : List A) (books : Books) → items (filled xs books) ≡ xs
  pub again : (xs ys : List A) (books : Books) → filled ys (filled xs books) ≡ filled ys books

-- the books with one more item
abbrev pub push : {A : Type 0} → Part A → A → Books → Books
push part x books = part.filled (part.items books ++ x ∷ []) books

-- the next item has the number
abbrev pub IsNext : {A : Type 0} → Part A → ℕ → Books → Type 0
IsNext part n books = n ≡ length (part.items books) + 1

-- A table at its place in the schema. `all` says which rows an item of the list makes: itself, or itself with its number. Each law is `refl` where the table
-- is known.
pub record Listed {A X : Type 0} (all : List A → List X) : Type 0 where
  pub place : ℕ
  pub table : Table
  pub part : Part A
  pub columns : X → sql.Row
  pub plain : IsPlainTable shop_schema place table
  pub alone : one_has place table.tree shop_schema.tables ≡ true
  pub had : (counts : Counts) (books : Books) → rows_at place (rows_of counts books) ≡ map columns (all (part.items books))
  pub fills : (counts : Counts) (xs : List A) (books : Books)
      → rows_of counts (part.filled xs books) ≡ with_rows place (map columns (all xs)) (rows_of counts books)

-- makes a `Listed` from its parts; the two arguments on the last line are `refl`
abbrev pub listed :
    {A X : Type 0} {all : List A → List X} (place : ℕ) (table : Table) (columns : X → sql.Row) (items : Books → List A) (filled : List A → Books → Books)
    → IsPlainTable shop_schema place table → one_has place table.tree shop_schema.tables ≡ true
    → ((counts : Counts) (books : Books) → rows_at place (rows_of counts books) ≡ map columns (all (items books)))
    → ((counts : Counts) (xs : List A) (books : Books) → rows_of counts (filled xs books) ≡ with_rows place (map columns (all xs)) (rows_of counts books))
    → ((xs : List A) (books : Books) → items (filled xs books) ≡ xs)
    → ((xs ys : List A) (books : Books) → filled ys (filled xs books) ≡ filled ys books) → Listed all
listed place table columns items filled plain alone had fills got again =
    record {
      place = place;
      table = table;
      part = record { items = items; filled = filled; got = got; again = again };
      columns = columns;
      plain = plain;
      alone = alone;
      had = had;
      fills = fills;
    }

-- each row with its number, which is its place
abbrev pub Shared : Type 0 → Type 0
Shared A = Listed {A = A} {X = ℕ × A} numbered

-- the items are the rows
abbrev pub Plain : Type 0 → Type 0
Plain A = Listed {A = A} {X = A} (λ xs. xs)

-- a query with no WITH sees the table's own rows
pub own_rows : (trees : Trees) (tree : ℕ) → overlay trees [] tree ≡ trees tree
own_rows trees tree = either _ (trees tree)
  where
    either : (b : Bool) (rows : List sql.Row) → unwrap_or (cond b None None) rows ≡ rows
    either true rows = refl
    either false rows = refl

module _ {A X : Type 0} {all : List A → List X} (t : Listed all) where
  abbrev pub width : ℕ
  width = length t.table.columns

  pub stood : (counts : Counts) (books : Books) (trees : Trees) → StandsWith counts trees books
      → HasRows width (trees t.table.tree) (map t.columns (all (t.part.items books)))
  stood counts books trees s = subst (HasRows width (trees t.table.tree)) (t.had counts books) (stands_at t.place t.table t.plain.place counts books trees s)

  pub changed : (counts : Counts) (books : Books) (xs : List A) (old new : Trees) → SameBut shop_schema t.table.tree old new → StandsWith counts old books
      → HasRows width (new t.table.tree) (map t.columns (all xs)) → StandsWith counts new (t.part.filled xs books)
  changed counts books xs old new same s has =
      stands_but t.place t.table t.plain.place t.alone counts counts books (t.part.filled xs books)
      (map t.columns (all xs)) (t.fills counts xs books) old new same s has

  -- An INSERT of the item. `one`, `is`, `kept` and `whole` are `refl` where the text is known.
  pub puts : (text : List ℕ) (terms : List Term) → Means shop_schema text (Insert t.place (Values terms (suc width))) → (params : sql.Row) (x : A) (row : X)
      → value_rows params (suc width) (length terms / suc width) terms ≡ eval_all terms (params ∷ []) ∷ [] → eval_all terms (params ∷ []) ≡ Null ∷ t.columns row
      → are_kept t.table.columns (t.columns row) ≡ true → ((id : Value) → columns_of width (id ∷ t.columns row) ≡ t.columns row)
      → (Given : Books → Type 0) → ((books : Books) → Given books → all (t.part.items books ++ x ∷ []) ≡ all (t.part.items books) ++ row ∷ [])
      → (old new : State) (count : ℕ) → ExecutesInside 0 text params old new (Ok count) → Writes old new Given (push t.part x)
  puts text terms means params x row one is kept whole Given next old new count h counts books holds given =
      let tree = t.table.tree in
      let done = has_put shop_schema text t.place t.table terms width means t.plain params (t.columns row) old new count h one is kept whole holds.schema_is in
      let rows : map t.columns (all (t.part.items books)) ++ t.columns row ∷ [] ≡ map t.columns (all (t.part.items books ++ x ∷ [])) =
      sym (ap (map t.columns) (next books given) ∙ map_push t.columns (all (t.part.items books)) row) in
      let put : HasRows width (new.now.trees tree) (map t.columns (all (t.part.items books ++ x ∷ []))) =
      subst (HasRows width (new.now.trees tree)) rows (done.rows (map t.columns (all (t.part.items books))) (stood counts books old.now.trees holds.stands)) in
      record {
        schema_is = done.schema_is;
        keyed = done.keyed holds.keyed;
        stands = changed counts books (t.part.items books ++ x ∷ []) old.now.trees new.now.trees done.others holds.stands put;
      }

-- the row of the next item
pub next_row : {A : Type 0} (xs : List A) (x : A) (n : ℕ) → n ≡ length xs + 1 → numbered (xs ++ x ∷ []) ≡ numbered xs ++ (n, x) ∷ []
next_row xs x n next = let last : 1 + length xs ≡ n = omega (arith, next) in numbered_push 1 xs x ∙ ap (λ (k : ℕ). numbered xs ++ (k, x) ∷ []) last

-- an INSERT of an item with its number, by the values of its columns
module _ {A : Type 0} (t : Shared A) where
  abbrev pub PutsNext : List ℕ → Type 1
  PutsNext text =
      (old new : State) (n : ℕ) (x : A) (count : ℕ) → ExecutesInside 0 text (t.columns (n, x)) old new (Ok count)
      → Writes old new (IsNext t.part n) (push t.part x)

  pub puts_next : (text : List ℕ) → Means shop_schema text (Insert t.place (Values (values (width t)) (suc (width t))))
      → ((n : ℕ) (x : A)
      → value_rows (t.columns (n, x)) (suc (width t)) (length (values (width t)) / suc (width t)) (values (width t))
      ≡ eval_all (values (width t)) (t.columns (n, x) ∷ []) ∷ [])
      → ((n : ℕ) (x : A) → eval_all (values (width t)) (t.columns (n, x) ∷ []) ≡ Null ∷ t.columns (n, x))
      → ((n : ℕ) (x : A) → are_kept t.table.columns (t.columns (n, x)) ≡ true)
      → ((n : ℕ) (x : A) (id : Value) → columns_of (width t) (id ∷ t.columns (n, x)) ≡ t.columns (n, x)) → PutsNext text
  puts_next text means one is kept whole old new n x count h =
      puts t text (values (width t)) means (t.columns (n, x)) x (n, x) (one n x) (is n x) (kept n x)
      (whole n x) (IsNext t.part n) (λ books next. next_row (t.part.items books) x n next) old new count h

-- an INSERT of an item by the values of its columns, and an UPDATE
module _ {A : Type 0} (t : Plain A) where
  abbrev pub PutsLast : List ℕ → Type 1
  PutsLast text = (old new : State) (x : A) (count : ℕ) → ExecutesInside 0 text (t.columns x) old new (Ok count) → Writes old new (λ _. ⊤) (push t.part x)

  pub puts_last : (text : List ℕ) → Means shop_schema text (Insert t.place (Values (values (width t)) (suc (width t))))
      → ((x : A)
      → value_rows (t.columns x) (suc (width t)) (length (values (width t)) / suc (width t)) (values (width t))
      ≡ eval_all (values (width t)) (t.columns x ∷ []) ∷ [])
      → ((x : A) → eval_all (values (width t)) (t.columns x ∷ []) ≡ Null ∷ t.columns x)
      → ((x : A) → are_kept t.table.columns (t.columns x) ≡ true)
      → ((x : A) (id : Value) → columns_of (width t) (id ∷ t.columns x) ≡ t.columns x) → PutsLast text
  puts_last text means one is kept whole old new x count h =
      puts t text (values (width t)) means (t.columns x) x x (one x) (is x) (kept x) (whole x) (λ _. ⊤) (λ books given. refl) old new count h

-- an INSERT of a row of counts
pub tallies_put : (place : ℕ) (table : Table) → IsPlainTable shop_schema place table → one_has place table.tree shop_schema.tables ≡ true
    → (text : List ℕ) → Means shop_schema text (Insert place (Values (values (length table.columns)) (suc (length table.columns)))) → (row : sql.Row)
    → value_rows row (suc (length table.columns)) (length (values (length table.columns)) / suc (length table.columns)) (values (length table.columns))
    ≡ eval_all (values (length table.columns)) (row ∷ []) ∷ []
    → eval_all (values (length table.columns)) (row ∷ []) ≡ Null ∷ row → are_kept table.columns row ≡ true
    → ((id : Value) → columns_of (length table.columns) (id ∷ row) ≡ row) → (change : Counts → Counts)
    → ((counts : Counts) (books : Books)
    → rows_of (change counts) books ≡ with_rows place (rows_at place (rows_of counts books) ++ row ∷ []) (rows_of counts books))
    → (old new : State) (count : ℕ) → ExecutesInside 0 text row old new (Ok count) → Tallies old new (λ _. ⊤) change (λ _. ⊤)
tallies_put place table plain alone text means row one is kept whole change changes old new count h counts books holds given =
    let width = length table.columns in
    let done = has_put shop_schema text place table (values width) width means plain row row old new count h one is kept whole holds.schema_is in
    let rows = done.rows _ (stands_at place table plain.place counts books old.now.trees holds.stands) in
    let stands =
    stands_but place table plain.place alone counts (change counts) books books _
    (changes counts books) old.now.trees new.now.trees done.others holds.stands rows in
    (record { schema_is = done.schema_is; keyed = done.keyed holds.keyed; stands = stands }, tt)
