-- What the statements do that turn the tables of version 1 into the tables of version 2.
use Rattle.std.proofs.Common.{map-id}
use Rattle.shop_schema.proofs.Common.{◌≡◌, ◌≢◌, ℕ, pos, List, [], ◌∷◌, ◌++◌, map, filter, length, drop, take, codes, true, Ok, refl, sym, ap, ap₂, subst}
use Rattle.shop_schema.proofs.Common.{subst₂, ◌∙◌, arith, append-nil, inl, inr, IsPermutation, ⊤, ◌⊎◌, flat_map, AllByRecursion, IsPermutation-refl}
use Rattle.shop_schema.proofs.Common.{IsPermutation-sym, IsPermutation-trans, IsPermutation-map, Null, Int, column, Binary, Trees, IsShaped, Term, lit, col}
use Rattle.shop_schema.proofs.Common.{Join, left, inner, end, IsAnswer, Output, overlay, Values, Insert, Update, State, ExecutesInside, Table, Schema}
use Rattle.shop_schema.proofs.Common.{map-append, map-map, flat_map-map, all-append, Changes, Means, HasRows, SameBut, number_value, all_typed, joined_query}
use Rattle.shop_schema.proofs.Common.{are_equal, or_blank, shown_of, few_list, left_pair, joined_bag, plain_query, HasPut, has_put, sets_row, Row, at, is_row}
use Rattle.shop_schema.proofs.Common.{Text, Film, Copy, Rental, Terms, ByCode, Rules, film_of, film_terms, terms_now, HasNumbers, Books, BookCopy, shop_of}
use Rattle.shop_schema.proofs.Common.{unmarked, IsSoundWithoutTerms, row_terms, migrated, row_at, length_map, at_one, all_rows_have_one, shop_schema}
use Rattle.shop_schema.proofs.Common.{version_1_schema, later_tables, this_version, first_version, versioned_columns, film_columns, copy_columns}
use Rattle.shop_schema.proofs.Common.{rental_columns, terms_columns, rule_columns, counts_of, IsShop, IsFirstShop, StandsAs, AreTermed, HoldsVersion1, Holds}
use Rattle.shop_schema.proofs.Common.{term_rows, later_rows, HaveRows, IsKeyed, IsFirstKeyed, CopyRows}
use Rattle.sqlite_value.specs.Order as sql
use Rattle.sqlite_trees.specs.declared.store.Shape.TheVariants.{Table as TableShape}
use Rattle.sqlite_sql.specs.Query.{Query as Asked}
use Rattle.sqlite_schema.specs.declared.program.Program.{Program}
use Rattle.sqlite.specs.Source.TheVariants.{Query}
use Rattle.sqlite.specs.Change.{created, next_tree}
use Rattle.sqlite_tied.specs.Compute.{everything}
use Rattle.sqlite.specs.Listing.{understood}
use Rattle.sqlite_schema.specs.declared.schema.Keys.TheVariants.{Enforced}
use Rattle.sql_rows.proofs.Fills.{Kept, Fills, fills, fills_values, adds}
use Rattle.sql_rows.proofs.Keyed.{applies_keyed}
use Rattle.shop_model.specs.Values as model
use Rattle.shop_schema.specs.Shop as t
use Rattle.shop_migration.specs.Migrating.{AddsTables, IsUnderWay, PutsRule, SetsVersion, Tells}
use Rattle.shop_schema.proofs.CreateTexts.{rental_terms_text, chain_rule_text, makes_rental_terms, makes_chain_rule}
use Rattle.shop_schema.proofs.Stands.{first_rows, rows_as, first_listed, listed, named, for_own, have_append, have_moved, stands_as_but}
use Rattle.shop_schema.proofs.Listed.{own_rows}
use Rattle.shop_schema.proofs.Lists.{picks_row}
use Rattle.shop_schema.proofs.Numbers.{left_number}

-- ---- new tables

abbrev terms_placeless : Table
terms_placeless = record t.rental_terms_table { tree = 0 }

abbrev rule_placeless : Table
rule_placeless = record t.chain_rule_table { tree = 0 }

-- version 2 without the rule
abbrev half_schema : Schema
half_schema = record { tables = take 22 shop_schema.tables; indexes = take 37 shop_schema.indexes; views = [] }

with_terms : created version_1_schema terms_placeless ≡ half_schema
unfolding everything
with_terms = refl

with_rule : created half_schema rule_placeless ≡ shop_schema
unfolding everything
with_rule = refl

terms_tree : next_tree version_1_schema ≡ 57
unfolding everything
terms_tree = refl

rule_tree : next_tree half_schema ≡ 59
unfolding everything
rule_tree = refl

none_in : (width : ℕ) (tree : List sql.Row) → tree ≡ [] → HasRows width tree []
none_in width tree none = subst (λ (es : List sql.Row). HasRows width es []) (sym none) (IsPermutation-refl [])

none_shaped : {tree : List sql.Row} → tree ≡ [] → IsShaped TableShape tree
none_shaped none = subst (IsShaped TableShape) (sym none) (tt, tt)

keyed_moved : (ts : List Table) (old new : Trees) → AllByRecursion (λ t. new t.tree ≡ old t.tree) ts
    → AllByRecursion (λ t. IsShaped TableShape (old t.tree)) ts → AllByRecursion (λ t. IsShaped TableShape (new t.tree)) ts
keyed_moved [] old new same keyed = tt
keyed_moved (t ∷ ts) old new same keyed = (subst (IsShaped TableShape) (sym same.0) keyed.0, keyed_moved ts old new same.1 keyed.1)

both_same : (ts : List Table) (old mid new : Trees) → AllByRecursion (λ t. mid t.tree ≡ old t.tree) ts
    → AllByRecursion (λ t. new t.tree ≡ mid t.tree) ts → AllByRecursion (λ t. new t.tree ≡ old t.tree) ts
both_same [] old mid new first then = tt
both_same (t ∷ ts) old mid new first then = (then.0 ∙ first.0, both_same ts old mid new first.1 then.1)

pub first_part : (P : Table → Type 0) (ts us : List Table) → AllByRecursion P (ts ++ us) → AllByRecursion P ts
first_part P [] us all = tt
first_part P (t ∷ ts) us all = (all.0, first_part P ts us all.1)

pub last_part : (P : Table → Type 0) (ts us : List Table) → AllByRecursion P (ts ++ us) → AllByRecursion P us
last_part P [] us all = all
last_part P (t ∷ ts) us all = last_part P ts us all.1

-- how the two statements leave the tables of version 1, and the tables that they add
record Made (old new : State) : Type 0 where
  shop : IsShop new
  others : AllByRecursion (λ t. new.now.trees t.tree ≡ old.now.trees t.tree) version_1_schema.tables
  no_terms : new.now.trees 57 ≡ []
  no_rule : new.now.trees 59 ≡ []

made : (old mid new : State) (m n : ℕ) → ExecutesInside 0 rental_terms_text [] old mid (Ok m)
    → ExecutesInside 0 chain_rule_text [] mid new (Ok n) → IsFirstShop old → Made old new
made old mid new m n terms rule shop =
    let a = adds version_1_schema rental_terms_text old mid m terms_placeless shop makes_rental_terms terms.0 in
    let b = adds half_schema chain_rule_text mid new n rule_placeless (a.schema_is ∙ with_terms) makes_chain_rule rule.0 in
    let Same : Table → Type 0 = λ t. new.now.trees t.tree ≡ mid.now.trees t.tree in
    let first = version_1_schema.tables in
    let later = last_part Same first (t.rental_terms_table ∷ []) b.others in
    record {
      shop = b.schema_is ∙ with_rule;
      others = both_same first old.now.trees mid.now.trees new.now.trees a.others (first_part Same first (t.rental_terms_table ∷ []) b.others);
      no_terms = later.0 ∙ subst (λ (tree : ℕ). mid.now.trees tree ≡ []) terms_tree a.empty;
      no_rule = subst (λ (tree : ℕ). new.now.trees tree ≡ []) rule_tree b.empty;
    }

pub tables_made : (old mid new : State) (m n : ℕ) → ExecutesInside 0 rental_terms_text [] old mid (Ok m)
    → ExecutesInside 0 chain_rule_text [] mid new (Ok n) → IsFirstShop old → IsShop new
tables_made old mid new m n terms rule shop = (made old mid new m n terms rule shop).shop

pub tables_keyed : (old mid new : State) (m n : ℕ) → ExecutesInside 0 rental_terms_text [] old mid (Ok m)
    → ExecutesInside 0 chain_rule_text [] mid new (Ok n) → IsFirstShop old → IsFirstKeyed old → IsKeyed new
tables_keyed old mid new m n terms rule shop keyed =
    let it = made old mid new m n terms rule shop in
    all-append (λ t. IsShaped TableShape (new.now.trees t.tree)) version_1_schema.tables later_tables
    (keyed_moved version_1_schema.tables old.now.trees new.now.trees it.others keyed)
    (none_shaped it.no_terms, (none_shaped it.no_rule, tt))

pub tables_left : (old mid new : State) (m n : ℕ) → ExecutesInside 0 rental_terms_text [] old mid (Ok m)
    → ExecutesInside 0 chain_rule_text [] mid new (Ok n) → IsFirstShop old → AddsTables old.now.trees new.now.trees
tables_left old mid new m n terms rule shop = let it = made old mid new m n terms rule shop in record { others = it.others; no_rule = it.no_rule }

pub tables_added : (old mid new : State) (m n : ℕ) (books : Books)
    → ExecutesInside 0 rental_terms_text [] old mid (Ok m) → ExecutesInside 0 chain_rule_text [] mid new (Ok n)
    → HoldsVersion1 old books → IsUnderWay first_version [] [] new books
tables_added old mid new m n books terms rule holds =
    let it = made old mid new m n terms rule holds.schema_is in
    let first = version_1_schema.tables in
    let More : Trees → Books → Type 0 = λ _ its. (its.terms ≡ []) × (its.catalogue.rule ≡ ByCode) in
    let counts = counts_of books in
    let rows = first_rows first_version counts books in
    let had = have_moved first old.now.trees new.now.trees rows it.others (first_listed first_version More counts old.now.trees books holds.stands) in
    let none : HaveRows later_tables new.now.trees ([] ∷ [] ∷ []) = (none_in 5 (new.now.trees 57) it.no_terms, (none_in 1 (new.now.trees 59) it.no_rule, tt)) in
    record {
      schema_is = it.shop;
      keyed = tables_keyed old mid new m n terms rule holds.schema_is holds.keyed;
      stands =
          named first_version (λ _. [] ∷ [] ∷ []) counts new.now.trees books (have_append first later_tables new.now.trees rows ([] ∷ [] ∷ []) refl had none);
    }

-- ---- the terms

abbrev pub fill_text : List ℕ
fill_text =
    codes "INSERT INTO rental_terms (branch, rental, rate, period, replacement) SELECT r.branch, r.number, f.rate, f.period, f.replacement FROM rental AS r LEFT JOIN copy AS c ON c.branch = r.branch AND c.number = r.copy LEFT JOIN film AS f ON f.number = c.film"

-- what is joined to a copy, and to a rental
abbrev with_film : Join
with_film = left 14 (are_equal (col 3 1) (col 2 3) ∷ []) end

abbrev with_copy : Join
with_copy = left 25 (are_equal (col 2 1) (col 1 1) ∷ are_equal (col 2 2) (col 1 4) ∷ []) with_film

abbrev fill_shows : List Term
fill_shows = lit Null ∷ col 1 1 ∷ col 1 2 ∷ col 3 7 ∷ col 3 6 ∷ col 3 8 ∷ []

abbrev fill_query : Asked
fill_query = joined_query (inner 27 with_copy) [] fill_shows []

-- a query that is put into a table has a collation for each column; the collation is read only if the query shows one of each row
abbrev fill_program : Program
fill_program = record { lets = []; body = record fill_query { collations = Binary ∷ Binary ∷ Binary ∷ Binary ∷ Binary ∷ Binary ∷ [] } }

fill_means : Means shop_schema fill_text (Insert 21 (Query fill_program))
unfolding understood everything
fill_means = record { is = refl; plain = (refl, refl) }

-- a row of terms as the statement gives it, after a rowid that is to be chosen
abbrev source : Row Terms → sql.Row
source it = Null ∷ terms_columns it

module _ (db : Trees) (books : Books) (s : StandsAs first_version (λ _. [] ∷ [] ∷ []) (counts_of books) db books)
    (held : HasNumbers books) (x : Row Rental) where
  abbrev films : List Film
  films = books.catalogue.films

  abbrev its : sql.Row
  its = Null ∷ rental_columns x

  abbrev after_copy : sql.Row → List Output
  after_copy r = shown_of fill_query (overlay db []) with_film ([] ∷ its ∷ r ∷ [])

  abbrev gives : Film → List Output
  gives film = ([], source (record { branch = x.branch; number = x.number; it = film_terms film })) ∷ []

  copy_there : (copy : Row BookCopy) (film : Film) → at copy.it.film films ≡ film ∷ [] → after_copy (Null ∷ copy_columns copy) ≡ gives film
  copy_there copy film one =
      left_number 12 film_columns (db 14) films s.films (λ it. refl) (λ r. refl) ends (λ r. refl) copy.it.film ∙ subst P (sym one) (append-nil _)
    where
      ends : sql.Row → List Output
      ends r = shown_of fill_query (overlay db []) end ([] ∷ its ∷ (Null ∷ copy_columns copy) ∷ r ∷ [])

      P : List Film → Type 0
      P l = flat_map (λ c. ends (Null ∷ c)) (or_blank 12 (map (λ it. film_columns (copy.it.film, it)) l)) ≡ gives film

  abbrev copies_found : List (Row BookCopy)
  copies_found = filter (is_row x.branch x.it.copy) books.copies

  -- the films of a rental, by the rows of its copy
  films_found : film_of books.catalogue (shop_of x.branch books) x.it ≡ flat_map (λ (copy : Row BookCopy). at copy.it.film films) copies_found
  films_found =
      ap (flat_map (λ (copy : Copy). at copy.film films)) (sym (row_at unmarked x.branch x.it.copy books.copies (held.rows CopyRows x.branch)))
      ∙ flat_map-map (λ (copy : Copy). at copy.film films) (λ (row : Row BookCopy). unmarked row.it) copies_found

  abbrev after_rental : sql.Row → List Output
  after_rental r = shown_of fill_query (overlay db []) with_copy ([] ∷ r ∷ [])

  abbrev outputs : List Film → List Output
  outputs l = map (λ (it : Terms). ([], source (record { branch = x.branch; number = x.number; it = it }))) (map film_terms l)

  rental_brings : length (film_of books.catalogue (shop_of x.branch books) x.it) ≡ 1
      → after_rental its ≡ outputs (film_of books.catalogue (shop_of x.branch books) x.it)
  rental_brings one =
      let few = picks_row x.branch books.copies (held.rows CopyRows x.branch) x.it.copy in
      left_pair 6 copy_columns (db 25) books.copies s.copies after_copy (λ r. refl) (λ it. it.branch)
      (λ it. it.number) (λ it. refl) (λ it. refl) (λ r. refl) (λ r. refl) x.branch x.it.copy few
      ∙ by_copy copies_found (few_list copies_found few) films_found
    where
      Brings : List (Row BookCopy) → Type 0
      Brings l = flat_map (λ c. after_copy (Null ∷ c)) (or_blank 6 (map copy_columns l)) ≡ outputs (film_of books.catalogue (shop_of x.branch books) x.it)

      none : {A : Type 0} (l : List A) → l ≡ [] → length l ≡ 1 → ⊥
      none [] e h = cc
      none (y ∷ l) e h = cc

      by_film : (copy : Row BookCopy) (l : List Film) → at copy.it.film films ≡ l → (l ≡ []) ⊎ ((film : Film) × (l ≡ film ∷ []))
          → film_of books.catalogue (shop_of x.branch books) x.it ≡ l → Brings (copy ∷ [])
      by_film copy l is (inl e) found = absurd (none _ (found ∙ e) one)
      by_film copy l is (inr e) found =
          append-nil _ ∙ copy_there copy e.0 (is ∙ e.1) ∙ ap outputs (sym (found ∙ e.1))

      by_copy : (l : List (Row BookCopy)) → (l ≡ []) ⊎ ((copy : Row BookCopy) × (l ≡ copy ∷ []))
          → film_of books.catalogue (shop_of x.branch books) x.it ≡ flat_map (λ (copy : Row BookCopy). at copy.it.film films) l → Brings l
      by_copy l (inl e) found = absurd (none _ (found ∙ ap (flat_map (λ (copy : Row BookCopy). at copy.it.film films)) e) one)
      by_copy l (inr e) found =
          let copy = e.0 in
          subst Brings (sym e.1)
          (by_film copy (at copy.it.film films) refl (at_one copy.it.film films)
          (found ∙ ap (flat_map (λ (it : Row BookCopy). at it.it.film films)) e.1 ∙ append-nil (at copy.it.film films)))

-- ---- the rows that the statement puts

all_bring : (db : Trees) (books : Books) → StandsAs first_version (λ _. [] ∷ [] ∷ []) (counts_of books) db books
    → HasNumbers books → (rentals : List (Row Rental))
    → AllByRecursion (λ (row : Row Rental). length (film_of books.catalogue (shop_of row.branch books) row.it) ≡ 1) rentals
    → flat_map (λ (x : Row Rental). shown_of fill_query (overlay db []) with_copy ([] ∷ (Null ∷ rental_columns x) ∷ [])) rentals
    ≡ map (λ (it : Row Terms). ([], source it)) (flat_map (row_terms books) rentals)
all_bring db books s held [] one = refl
all_bring db books s held (x ∷ rentals) one =
    let own = rental_brings db books s held x one.0 in
    let shown : Row Terms → Output = λ it. ([], source it) in
    let made : map shown (row_terms books x) ≡ outputs db books s held x (film_of books.catalogue (shop_of x.branch books) x.it) =
    map-map shown (λ (it : Terms). record { branch = x.branch; number = x.number; it = it }) (terms_now books.catalogue (shop_of x.branch books) x.it.copy) in
    ap₂ (λ (os ps : List Output). os ++ ps) (own ∙ sym made) (all_bring db books s held rentals one.1)
    ∙ sym (map-append shown (row_terms books x) (flat_map (row_terms books) rentals))

sources_of : (rows : List sql.Row) → AllByRecursion (λ r. (it : Row Terms) × (r ≡ source it)) rows → (all : List (Row Terms)) × (rows ≡ map source all)
sources_of [] typed = ([], refl)
sources_of (r ∷ rows) typed =
    let more = sources_of rows typed.1 in
    (typed.0.0 ∷ more.0, (λ i. typed.0.1 i ∷ more.1 i))

all_kept : (all : List (Row Terms)) → AllByRecursion (Kept t.rental_terms_table 5) (map terms_columns all)
all_kept [] = tt
all_kept (it ∷ all) = (record { kept = refl; wide = λ id. refl }, all_kept all)

terms_fill : (old new : State) (n : ℕ) → ExecutesInside 0 fill_text [] old new (Ok n)
    → IsShop old → Fills shop_schema t.rental_terms_table fill_program [] old new
terms_fill old new n ran shop =
    fills shop_schema fill_text [] old new shop 21 t.rental_terms_table fill_program fill_means
    (record { place = refl; uncounted = refl; unstamped = refl }) n ran.0

pub terms_stay : (old new : State) (n : ℕ) → ExecutesInside 0 fill_text [] old new (Ok n) → IsShop old → IsShop new
terms_stay old new n ran shop = (terms_fill old new n ran shop).schema_is

pub terms_keyed : (old new : State) (n : ℕ) → ExecutesInside 0 fill_text [] old new (Ok n) → IsShop old → IsKeyed old → IsKeyed new
terms_keyed old new n ran shop keyed = applies_keyed shop_schema Enforced old.now.trees new.now.trees _ 21 refl (terms_fill old new n ran shop).applies keyed

pub terms_left : (old new : State) (n : ℕ) → ExecutesInside 0 fill_text [] old new (Ok n) → IsShop old → SameBut shop_schema 57 old.now.trees new.now.trees
terms_left old new n ran shop = (terms_fill old new n ran shop).applies.tables

pub terms_put : (old new : State) (n : ℕ) → ExecutesInside 0 fill_text [] old new (Ok n)
    → (rules : Rules) (books : Books) → IsSoundWithoutTerms rules books → IsUnderWay first_version [] [] old books
    → IsUnderWay first_version (term_rows (migrated books)) [] new books
terms_put old new n ran rules books sound holds =
    let db = old.now.trees in
    let it = terms_fill old new n ran holds.schema_is in
    let b = it.answer.answer Null in
    let a : IsAnswer fill_query (overlay db []) [] it.rows =
    record {
      staged = b.staged;
      grouped = b.grouped;
      kept = b.kept;
      distinct = b.distinct;
      ordered = b.ordered;
      same = b.same;
      sorted = b.sorted;
      shown = b.shown;
    }
    in
    let terms = flat_map (row_terms books) books.rentals in
    let brings : Row Rental → List Output = λ x. shown_of fill_query (overlay db []) with_copy ([] ∷ (Null ∷ rental_columns x) ∷ []) in
    let bag =
    joined_bag 27 with_copy [] fill_shows [] [] db 7 rental_columns books.rentals holds.stands.rentals refl
    (λ r. refl) brings (λ x. IsPermutation-refl (brings x)) it.rows a in
    let outs = all_bring db books holds.stands sound.numbers books.rentals (all_rows_have_one rules books sound) in
    let second : Output → sql.Row = λ o. o.1 in
    let rows : IsPermutation (map source terms) it.rows =
    subst (λ (l : List sql.Row). IsPermutation l it.rows) (ap (map second) outs ∙ map-map second (λ (t : Row Terms). ([], source t)) terms)
    (subst (IsPermutation (map second (flat_map brings books.rentals))) (sym a.shown) (IsPermutation-map second _ _ bag)) in
    let typed =
    all_typed (λ r. r) source it.rows terms
    (subst (λ (l : List sql.Row). IsPermutation l (map source terms)) (sym (map-id it.rows)) (IsPermutation-sym _ _ rows)) in
    let all = sources_of it.rows typed in
    let behind = map-map (λ (values : sql.Row). Null ∷ values) terms_columns all.0 in
    let put =
    fills_values shop_schema t.rental_terms_table fill_program [] old new 5
    (map terms_columns all.0) [] it (all.1 ∙ sym behind) (all_kept all.0) holds.stands.more.rows.0 in
    let same : IsPermutation (map terms_columns terms) (map terms_columns all.0) =
    subst₂ IsPermutation (map-map (drop 1) source terms) (ap (map (drop 1)) all.1 ∙ map-map (drop 1) source all.0) (IsPermutation-map (drop 1) _ _ rows) in
    let has : HasRows 5 (new.now.trees 57) (term_rows (migrated books)) = IsPermutation-trans _ _ _ put (IsPermutation-sym _ _ same) in
    record {
      schema_is = it.schema_is;
      keyed = applies_keyed shop_schema Enforced db new.now.trees _ 21 refl it.applies holds.keyed;
      stands =
          stands_as_but first_version first_version (λ _. [] ∷ [] ∷ []) (λ _. term_rows (migrated books) ∷ [] ∷ []) 21 t.rental_terms_table refl refl
          (counts_of books) books (term_rows (migrated books)) refl db new.now.trees it.applies.tables holds.stands has;
    }

-- ---- the rule

abbrev pub rule_text : List ℕ
rule_text = codes "INSERT INTO chain_rule (comment_rule) VALUES (0)"

abbrev rule_terms : List Term
rule_terms = lit Null ∷ lit (Int (pos 0)) ∷ []

rule_means : Means shop_schema rule_text (Insert 22 (Values rule_terms 2))
unfolding understood everything
rule_means = record { is = refl; plain = (refl, refl) }

rule_has_put : (old new : State) (n : ℕ) → ExecutesInside 0 rule_text [] old new (Ok n)
    → IsShop old → HasPut shop_schema t.chain_rule_table 1 (rule_columns ByCode) old new
rule_has_put old new n ran shop =
    has_put shop_schema rule_text 22 t.chain_rule_table rule_terms 1 rule_means
    (record { place = refl; uncounted = refl; unstamped = refl }) [] (rule_columns ByCode) old new n ran refl refl refl (λ id. refl) shop

pub rule_stays : (old new : State) (n : ℕ) → ExecutesInside 0 rule_text [] old new (Ok n) → IsShop old → IsShop new
rule_stays old new n ran shop = (rule_has_put old new n ran shop).schema_is

pub rule_keyed : (old new : State) (n : ℕ) → ExecutesInside 0 rule_text [] old new (Ok n) → IsShop old → IsKeyed old → IsKeyed new
rule_keyed old new n ran shop keyed = (rule_has_put old new n ran shop).keyed keyed

pub rule_left : (old new : State) (n : ℕ) → ExecutesInside 0 rule_text [] old new (Ok n) → IsShop old → PutsRule old.now.trees new.now.trees
rule_left old new n ran shop =
    let done = rule_has_put old new n ran shop in
    record { others = done.others; rule = λ none. done.rows [] (none_in 1 (old.now.trees 59) none) }

pub rule_put : (old new : State) (n : ℕ) → ExecutesInside 0 rule_text [] old new (Ok n) → (terms : List sql.Row) (books : Books)
    → IsUnderWay first_version terms [] old books → IsUnderWay first_version terms (rule_columns ByCode ∷ []) new books
rule_put old new n ran terms books holds =
    let done = rule_has_put old new n ran holds.schema_is in
    record {
      schema_is = done.schema_is;
      keyed = done.keyed holds.keyed;
      stands =
          stands_as_but first_version first_version (λ _. terms ∷ [] ∷ []) (λ _. terms ∷ (rule_columns ByCode ∷ []) ∷ []) 22 t.chain_rule_table refl refl
          (counts_of books) books (rule_columns ByCode ∷ []) refl old.now.trees new.now.trees done.others holds.stands
          (done.rows [] holds.stands.more.rows.1.0);
    }

-- ---- the version

abbrev pub version_text : List ℕ
version_text = codes "UPDATE chain SET version = 2"

abbrev version_shows : List Term
version_shows = col 1 0 ∷ col 1 0 ∷ lit (Int (pos 2)) ∷ col 1 2 ∷ []

version_means : Means shop_schema version_text (Update 0 (record { lets = []; body = plain_query 0 [] version_shows [] }))
unfolding understood everything
version_means = record { is = refl; plain = (refl, refl) }

abbrev told : ℕ × Text → sql.Row
told it = versioned_columns it.0 it.1

-- the table `chain` has this row, and the other tables are as they were
abbrev Stood : Trees → Trees → ℕ × Text → Type 0
Stood old trees it = SameBut shop_schema 0 old trees × HasRows 2 (trees 0) (told it ∷ [])

as_before : (ts : List Table) (db : Trees) → AllByRecursion (λ t. t.tree ≢ 0 → db t.tree ≡ db t.tree) ts
as_before [] db = tt
as_before (t ∷ ts) db = (λ apart. refl, as_before ts db)

version_changes : (old new : State) (n : ℕ) → ExecutesInside 0 version_text [] old new (Ok n) → IsShop old
    → Changes shop_schema (Stood old.now.trees) old new (λ _. ⊤) (λ it. (this_version, it.1))
version_changes old new n ran shop =
    sets_row shop_schema (Stood old.now.trees) version_text 0 t.chain_table 2 [] version_shows
    [] told (λ vs. true) (λ it. true) (λ vs. number_value 2 ∷ column vs 1 ∷ []) (λ it. (2, it.1))
    (λ it. refl) (λ it. refl) (λ it. refl) old new shop
    version_means refl refl n ran (own_rows old.now.trees 0) (λ r. refl) (λ r. refl)
    (λ r. refl) (λ r. refl) (λ v vs. refl) (λ it. ⊤) (λ it. (this_version, it.1))
    (λ it same stood given sets. (same, sets (it ∷ []) stood.1 (omega arith)))

pub version_stays : (old new : State) (n : ℕ) → ExecutesInside 0 version_text [] old new (Ok n) → IsShop old → IsShop new
version_stays old new n ran shop = (version_changes old new n ran shop).schema_is

pub version_keyed : (old new : State) (n : ℕ) → ExecutesInside 0 version_text [] old new (Ok n) → IsShop old → IsKeyed old → IsKeyed new
version_keyed old new n ran shop keyed = (version_changes old new n ran shop).keyed keyed

pub version_left : (old new : State) (n : ℕ) → ExecutesInside 0 version_text [] old new (Ok n)
    → IsShop old → IsKeyed old → (token : Text) → Tells first_version token old.now.trees
    → SetsVersion old.now.trees new.now.trees token
version_left old new n ran shop keyed token tells =
    let it = (version_changes old new n ran shop).books keyed (first_version, token) (as_before shop_schema.tables old.now.trees, tells) tt in
    record { others = it.0; told = it.1 }

pub version_set : (old new : State) (n : ℕ) → ExecutesInside 0 version_text [] old new (Ok n)
    → (terms rule : List sql.Row) (books : Books) → IsUnderWay first_version terms rule old books
    → IsUnderWay this_version terms rule new books
version_set old new n ran terms rule books holds =
    let it = version_left old new n ran holds.schema_is holds.keyed books.catalogue.office_token holds.stands.chain in
    record {
      schema_is = version_stays old new n ran holds.schema_is;
      keyed = version_keyed old new n ran holds.schema_is holds.keyed;
      stands =
          stands_as_but first_version this_version (λ _. terms ∷ rule ∷ []) (λ _. terms ∷ rule ∷ []) 0 t.chain_table refl refl (counts_of books) books
          (versioned_columns this_version books.catalogue.office_token ∷ []) refl old.now.trees new.now.trees it.others holds.stands it.told;
    }

-- ---- all of it

-- the branch and the number of each row
abbrev keys : {A : Type 0} → List (Row A) → List (List ℕ)
keys rows = map (λ row. row.branch ∷ row.number ∷ []) rows

one_key : (b n : ℕ) (its : List Terms) → length its ≡ 1
    → keys {A = Terms} (map (λ (it : Terms). record { branch = b; number = n; it = it }) its) ≡ (b ∷ n ∷ []) ∷ []
one_key b n [] one = cc
one_key b n (it ∷ []) one = refl
one_key b n (it ∷ other ∷ its) one = absurd (omega (arith, one))

keys_migrated : (books : Books) (rows : List (Row Rental))
    → AllByRecursion (λ (row : Row Rental). length (film_of books.catalogue (shop_of row.branch books) row.it) ≡ 1) rows
    → keys (flat_map (row_terms books) rows) ≡ keys rows
keys_migrated books [] one = refl
keys_migrated books (row ∷ rows) one =
    let its = terms_now books.catalogue (shop_of row.branch books) row.it.copy in
    map-append (λ (it : Row Terms). it.branch ∷ it.number ∷ []) (row_terms books row) (flat_map (row_terms books) rows)
    ∙ ap₂ (λ (us vs : List (List ℕ)). us ++ vs)
    (one_key row.branch row.number its (length_map film_terms (film_of books.catalogue (shop_of row.branch books) row.it) ∙ one.0))
    (keys_migrated books rows one.1)

pub migrated_termed : (rules : Rules) (books : Books) → IsSoundWithoutTerms rules books → AreTermed (migrated books)
migrated_termed rules books sound =
    subst (λ (ks : List (List ℕ)). IsPermutation ks (keys books.rentals))
    (sym (keys_migrated books books.rentals (all_rows_have_one rules books sound))) (IsPermutation-refl (keys books.rentals))

pub all_migrated : (s : State) (rules : Rules) (books : Books) → IsSoundWithoutTerms rules books → books.catalogue.rule ≡ ByCode
    → IsUnderWay this_version (term_rows (migrated books)) (rule_columns ByCode ∷ []) s books → Holds s (migrated books)
all_migrated s rules books sound code holds =
    let terms = term_rows (migrated books) in
    let Rule : model.Rule → Type 0 =
    λ rule. HaveRows shop_schema.tables s.now.trees (rows_as this_version (terms ∷ (rule_columns rule ∷ []) ∷ []) (counts_of books) books) in
    record {
      schema_is = holds.schema_is;
      keyed = holds.keyed;
      stands = for_own s.now.trees (migrated books) (migrated_termed rules books sound)
          (named this_version later_rows (counts_of (migrated books)) s.now.trees (migrated books)
          (subst Rule (sym code) (listed this_version (λ _. terms ∷ (rule_columns ByCode ∷ []) ∷ []) (counts_of books) s.now.trees books holds.stands)));
    }
