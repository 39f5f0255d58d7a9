-- The objects in sqlite_schema decide the schema, where it has no view.
use Rattle.sql_rows.proofs.Common.{true, ◌≡◌, ℕ, ◌+◌, pos, List, [], ◌∷◌, filter, false, codes, slice_get, Some, Ok, Result, refl, sym, ap, subst, ◌∙◌, arith}
use Rattle.sql_rows.proofs.Common.{AllZip, Row, column, Value, Null, Int, Text, Real, Blob, Trees, rowid, IsAscending, catalog_tree, Index, IsSound, IsTableRow}
use Rattle.sql_rows.proofs.Common.{IsIndexRow, IsViewRow, is_index_row, is_view_row, IsDefined, automatic}
use Rattle.std.specs.Fmt.{decimal}
use Rattle.std.proofs.lemmas.Fmt.{decimal_injective}
use Rattle.std.proofs.lemmas.List.{append_cancel_left}
use Rattle.sqlite_schema.specs.Names.{same_name}
use Rattle.sqlite_schema.specs.declared.schema.Table.{Table}
use Rattle.sqlite_schema.specs.declared.schema.View.{View}
use Rattle.sqlite_schema.specs.declared.schema.Schema.{Schema}
use Rattle.sqlite_catalog.proofs.StepLemmas.{same_itself, named_once}

same_ok : {B E : Type 0} {a b : B} (r : Result B E) → r ≡ Ok a → r ≡ Ok b → a ≡ b
same_ok r x y = cc

same_tree : (row : Row) (m n : ℕ) → rowid row ≡ Int (pos (m + 1)) → rowid row ≡ Int (pos (n + 1)) → m ≡ n
same_tree row m n x y =
    let both : Int (pos (m + 1)) ≡ Int (pos (n + 1)) = sym x ∙ y in let p : pos (m + 1) ≡ pos (n + 1) = cc in let q : m + 1 ≡ n + 1 = cc in omega (arith, q)

same_text : (v : Value) (a b : List ℕ) → v ≡ Text a → v ≡ Text b → a ≡ b
same_text v a b x y = let both : Text a ≡ Text b = sym x ∙ y in cc

one_table : (row : Row) (s t : Table) → IsTableRow row s → IsTableRow row t → s ≡ t
one_table row s t a b =
    let sql = same_text _ a.sql b.sql a.sql_is b.sql_is in
    let tree = same_tree row s.tree t.tree a.described.id b.described.id in
    let made : a.defined.0 ≡ b.defined.0 = same_ok _ a.defined.1 (rw sql b.defined.1) in
    a.defined.2 ∙ (λ i. record (made i) { tree = tree i }) ∙ sym b.defined.2

zip_same : {X Y : Type 0} (R : X → Y → Type 0) → ((x : X) (a b : Y) → R x a → R x b → a ≡ b)
    → (xs : List X) (s t : List Y) → AllZip R xs s → AllZip R xs t → s ≡ t
zip_same R one [] [] [] a b = refl
zip_same R one [] [] (y ∷ t) a b = elim b [ ]
zip_same R one [] (x ∷ s) t a b = elim a [ ]
zip_same R one (row ∷ rows) [] t a b = elim a [ ]
zip_same R one (row ∷ rows) (x ∷ s) [] a b = elim b [ ]
zip_same R one (row ∷ rows) (x ∷ s) (y ∷ t) a b = λ i. one row x y a.0 b.0 i ∷ zip_same R one rows s t a.1 b.1 i

-- ---- indexes

one_defined : (table : Table) (v : Value) (i j : Index) → i.tree ≡ j.tree → i.name ≡ j.name → IsDefined table i v → IsDefined table j v → i ≡ j
one_defined table Null i j tree name a b =
    let names : (automatic table a.0 a.1 i.tree).name ≡ (automatic table b.0 b.1 j.tree).name =
    sym (ap (λ (x : Index). x.name) a.3) ∙ name ∙ ap (λ (x : Index). x.name) b.3 in
    let digits : decimal (a.0 + 1) ≡ decimal (b.0 + 1) =
    append_cancel_left (codes "_") _ _ (append_cancel_left table.name _ _ (append_cancel_left (codes "sqlite_autoindex_") _ _ names)) in
    let next : a.0 + 1 ≡ b.0 + 1 = decimal_injective (a.0 + 1) (b.0 + 1) (omega (arith, a.4)) (omega (arith, b.4)) digits in
    let at : a.0 ≡ b.0 = omega (arith, next) in
    let key : a.1 ≡ b.1 = let both : Some a.1 ≡ Some b.1 = sym a.2 ∙ ap (slice_get table.uniques) at ∙ b.2 in cc in
    a.3 ∙ (λ k. automatic table (at k) (key k) (tree k)) ∙ sym b.3
one_defined table (Int n) i j tree name a b = elim a [ ]
one_defined table (Real x) i j tree name a b = elim a [ ]
one_defined table (Blob x) i j tree name a b = elim a [ ]
one_defined table (Text sql) i j tree name a b =
    let made : a.0 ≡ b.0 = same_ok _ a.1 b.1 in
    a.2 ∙ (λ k. record (made k) { tree = tree k; table = table.tree }) ∙ sym b.2

one_index : (tables : List Table) (row : Row) (i j : Index) → IsAscending (λ a b. same_name a.name b.name ≡ false) tables
    → IsIndexRow tables row i → IsIndexRow tables row j → i ≡ j
one_index tables row i j up a b =
    let owner : a.table.name ≡ b.table.name = same_text _ _ _ a.described.owner_is b.described.owner_is in
    let table =
    named_once tables a.table b.table up a.listed b.listed
    (subst (λ (name : List ℕ). same_name a.table.name name ≡ true) owner (same_itself a.table.name)) in
    one_defined b.table (column row 4) i j (same_tree row i.tree j.tree a.described.id b.described.id) (same_text _ _ _ a.described.name_is b.described.name_is)
    (subst (λ t. IsDefined t i (column row 4)) table a.defined) b.defined

no_more : (rows : List Row) (s : List View) → AllZip IsViewRow rows s → AllZip IsViewRow rows [] → s ≡ []
no_more [] [] a b = refl
no_more [] (x ∷ s) a b = elim a [ ]
no_more (row ∷ rows) s a b = elim b [ ]

-- two schemas of one database are one, if either has no view
pub one_schema : (s t : Schema) (db : Trees) → IsSound s db → IsSound t db → t.views ≡ [] → s ≡ t
one_schema s t db a b none =
    let tables : s.tables ≡ t.tables = zip_same IsTableRow one_table _ s.tables t.tables a.lists.listed.tables b.lists.listed.tables in
    let first = subst (λ (ts : List Table). AllZip (IsIndexRow ts) (filter is_index_row (db catalog_tree)) s.indexes) tables a.lists.listed.indexes in
    let indexes : s.indexes ≡ t.indexes =
    zip_same (IsIndexRow t.tables) (λ row i j. one_index t.tables row i j b.lists.listed.named) _ s.indexes t.indexes first b.lists.listed.indexes in
    let views : s.views ≡ t.views =
    no_more _ s.views a.lists.listed.views
    (subst (λ (vs : List View). AllZip IsViewRow (filter is_view_row (db catalog_tree)) vs) none b.lists.listed.views)
    ∙ sym none in
    λ i. record { tables = tables i; indexes = indexes i; views = views i }
