-- What each statement of the opening adds, and all of them in turn.
use Rattle.shop_schema.proofs.Common.{◌≡◌, ◌/◌, ◌-◌, ℕ, suc, List, [], ◌∷◌, codes, map, length, take, get_or, true, Some, None, Ok, refl, sym, subst, ⊤, Value}
use Rattle.shop_schema.proofs.Common.{Null, Term, lit, eval_all, Values, Insert, value_rows, Ghosts, Held, state, State, ExecutesInside, Means, columns_of}
use Rattle.shop_schema.proofs.Common.{are_kept, owned_by, Branch, Books, opening, token_of, river_dawn, north_light, opening_branch, opening_staff}
use Rattle.shop_schema.proofs.Common.{opening_catalogue, opening_books, shop_schema, branch_table, branch_columns, Counts, HoldsWith, first_books}
use Rattle.sqlite_value.specs.Order as sql
use Rattle.sqlite_tied.specs.Compute.{everything}
use Rattle.sqlite.specs.Listing.{understood}
use Rattle.shop_schema.proofs.Listed.{Shared, Plain, width, puts, next_row, IsNext, push}
use Rattle.shop_schema.proofs.SharedTables.{countries, languages, categories, cities, actors, films, casts, branches, staff}
use Rattle.shop_store.specs.declared.opening.TheConstants.{ROWS}
use Rattle.shop_store.specs.Runs.{Runs}
use Rattle.shop_store.proofs.PutTexts.{adds_branch}

-- if the statement runs on tables that stand for the books `a`, the tables stand for the books `b` afterwards
record Goes (text : List ℕ) (a b : Books) : Type 1 where
  goes : (counts : Counts) (old new : State) (count : ℕ) → ExecutesInside 0 text [] old new (Ok count) → HoldsWith counts old a → HoldsWith counts new b

-- ---- one row, whose values are in the statement; the premises before the books are `refl` if the text is known

abbrev literals : sql.Row → List Term
literals row = lit Null ∷ map lit row

module _ {A : Type 0} (t : Shared A) (text : List ℕ) (n : ℕ) (x : A) where
  abbrev terms : List Term
  terms = literals (t.columns (n, x))

  adds : Means shop_schema text (Insert t.place (Values terms (suc (width t))))
      → value_rows [] (suc (width t)) (length terms / suc (width t)) terms ≡ eval_all terms ([] ∷ []) ∷ []
      → eval_all terms ([] ∷ []) ≡ Null ∷ t.columns (n, x) → are_kept t.table.columns (t.columns (n, x)) ≡ true
      → ((id : Value) → columns_of (width t) (id ∷ t.columns (n, x)) ≡ t.columns (n, x))
      → (books : Books) → IsNext t.part n books → Goes text books (push t.part x books)
  adds means one is kept whole books next = record {
    goes = λ counts old new count ran holds.
        puts t text terms means [] x (n, x) one is kept whole (IsNext t.part n)
        (λ books next. next_row (t.part.items books) x n next) old new count ran counts books holds next;
  }

module _ {A : Type 0} (t : Plain A) (text : List ℕ) (x : A) where
  abbrev plain_terms : List Term
  plain_terms = literals (t.columns x)

  adds_plain : Means shop_schema text (Insert t.place (Values plain_terms (suc (width t))))
      → value_rows [] (suc (width t)) (length plain_terms / suc (width t)) plain_terms ≡ eval_all plain_terms ([] ∷ []) ∷ []
      → eval_all plain_terms ([] ∷ []) ≡ Null ∷ t.columns x → are_kept t.table.columns (t.columns x) ≡ true
      → ((id : Value) → columns_of (width t) (id ∷ t.columns x) ≡ t.columns x)
      → (books : Books) → Goes text books (push t.part x books)
  adds_plain means one is kept whole books = record {
    goes = λ counts old new count ran holds.
        puts t text plain_terms means [] x x one is kept whole (λ _. ⊤) (λ books given. refl) old new count ran counts books holds tt;
  }

-- a branch, which has no last moment
module _ (text : List ℕ) (n : ℕ) (x : Branch) where
  abbrev branch_terms : List Term
  branch_terms = literals (branch_columns [] (n, x))

  adds_one : Means shop_schema text (Insert 8 (Values branch_terms 9))
      → value_rows [] 9 (length branch_terms / 9) branch_terms ≡ eval_all branch_terms ([] ∷ []) ∷ []
      → eval_all branch_terms ([] ∷ []) ≡ Null ∷ branch_columns [] (n, x) → are_kept branch_table.columns (branch_columns [] (n, x)) ≡ true
      → ((id : Value) → columns_of 8 (id ∷ branch_columns [] (n, x)) ≡ branch_columns [] (n, x))
      → (books : Books) → IsNext branches n books → owned_by n books.lasts ≡ [] → Goes text books (push branches x books)
  adds_one means one is kept whole books next none =
      record {
        goes = λ counts old new count ran holds. adds_branch text branch_terms means [] n x one is kept whole old new count ran counts books holds (next, none);
      }

-- ---- statements one after another

-- if the statements run on tables that stand for the books `a`, the tables stand for the books `b` afterwards, with the same counts
record Leads (texts : List (List ℕ)) (counts : Counts) (a b : Books) : Type 1 where
  leads : {S : Type 0} (g : Ghosts S) (old new : Held S) → Runs g texts old new → HoldsWith counts (state g old) a → HoldsWith counts (state g new) b

ends : (counts : Counts) (a : Books) → Leads [] counts a a
ends counts a = record { leads = λ {S} g old new ran holds. subst (λ (s : Held S). HoldsWith counts (state g s) a) (sym ran) holds }

then : {text : List ℕ} {more : List (List ℕ)} {counts : Counts} {a b c : Books} → Goes text a b → Leads more counts b c → Leads (text ∷ more) counts a c
then {counts = counts} step rest = record { leads = λ g old new ran holds. rest.leads g ran.0 new ran.3 (step.goes counts _ _ _ ran.2 holds) }

-- ---- the statements

abbrev pub texts : List (List ℕ)
texts = map (λ t. t.now) ROWS

abbrev text : ℕ → List ℕ
text n = get_or texts n []

-- the books after the first `n` statements
abbrev stage : ℕ → Books
stage n = opening (record {
  office_token = token_of 0;
  kept = [];
  rule = opening_catalogue.rule;
  countries = take n opening_catalogue.countries;
  languages = take (n - 2) opening_catalogue.languages;
  categories = take (n - 3) opening_catalogue.categories;
  actors = take (n - 5) opening_catalogue.actors;
  films = take (n - 7) opening_catalogue.films;
  casts = take (n - 9) opening_catalogue.casts;
  cities = take (n - 12) opening_catalogue.cities;
  branches = take (n - 15) opening_catalogue.branches;
  staff = take (n - 18) opening_catalogue.staff;
})

-- ---- the statements in turn, before others

module _ (counts : Counts) (more : List (List ℕ)) (last : Books) where
  names_added : Leads more counts (stage 5) last → Leads (text 0 ∷ text 1 ∷ text 2 ∷ text 3 ∷ text 4 ∷ more) counts (stage 0) last
  unfolding understood everything
  names_added rest =
      then (adds countries _ 1 (codes "Canada") (record { is = refl; plain = (refl, refl) }) refl refl refl (λ id. refl) (stage 0) refl)
      (then (adds countries _ 2 (codes "Australia") (record { is = refl; plain = (refl, refl) }) refl refl refl (λ id. refl) (stage 1) refl)
      (then (adds languages _ 1 (codes "English") (record { is = refl; plain = (refl, refl) }) refl refl refl (λ id. refl) (stage 2) refl)
      (then (adds categories _ 1 (codes "Action") (record { is = refl; plain = (refl, refl) }) refl refl refl (λ id. refl) (stage 3) refl)
      (then (adds categories _ 2 (codes "Comedy") (record { is = refl; plain = (refl, refl) }) refl refl refl (λ id. refl) (stage 4) refl)
      rest))))

  films_added : Leads more counts (stage 12) last → Leads (text 5 ∷ text 6 ∷ text 7 ∷ text 8 ∷ text 9 ∷ text 10 ∷ text 11 ∷ more) counts (stage 5) last
  unfolding understood everything
  films_added rest =
      then (adds actors _ 1 (record { first = codes "ANN"; last = codes "HILL" })
      (record { is = refl; plain = (refl, refl) }) refl refl refl (λ id. refl) (stage 5) refl)
      (then (adds actors _ 2 (record { first = codes "BO"; last = codes "KERR" })
      (record { is = refl; plain = (refl, refl) }) refl refl refl (λ id. refl) (stage 6) refl)
      (then (adds films _ 1 river_dawn (record { is = refl; plain = (refl, refl) }) refl refl refl (λ id. refl) (stage 7) refl)
      (then (adds films _ 2 north_light (record { is = refl; plain = (refl, refl) }) refl refl refl (λ id. refl) (stage 8) refl)
      (then (adds_plain casts _ (record { film = 1; actor = 1 }) (record { is = refl; plain = (refl, refl) }) refl refl refl (λ id. refl) (stage 9))
      (then (adds_plain casts _ (record { film = 1; actor = 2 }) (record { is = refl; plain = (refl, refl) }) refl refl refl (λ id. refl) (stage 10))
      (then (adds_plain casts _ (record { film = 2; actor = 2 }) (record { is = refl; plain = (refl, refl) }) refl refl refl (λ id. refl) (stage 11))
      rest))))))

  places_added : Leads more counts (stage 15) last → Leads (text 12 ∷ text 13 ∷ text 14 ∷ more) counts (stage 12) last
  unfolding understood everything
  places_added rest =
      then (adds cities _ 1 (record { name = codes "Lethbridge"; country = 1 })
      (record { is = refl; plain = (refl, refl) }) refl refl refl (λ id. refl) (stage 12) refl)
      (then (adds cities _ 2 (record { name = codes "Woodridge"; country = 2 })
      (record { is = refl; plain = (refl, refl) }) refl refl refl (λ id. refl) (stage 13) refl)
      (then (adds cities _ 3 (record { name = codes "Brisbane"; country = 2 })
      (record { is = refl; plain = (refl, refl) }) refl refl refl (λ id. refl) (stage 14) refl)
      rest))

  branches_added : Leads more counts (stage 18) last → Leads (text 15 ∷ text 16 ∷ text 17 ∷ more) counts (stage 15) last
  unfolding understood everything
  branches_added rest =
      then (adds_one _ 1 (opening_branch 1 (codes "10 High") (Some 1))
      (record { is = refl; plain = (refl, refl) }) refl refl refl (λ id. refl) (stage 15) refl refl)
      (then (adds_one _ 2 (opening_branch 2 (codes "20 High") (Some 2))
      (record { is = refl; plain = (refl, refl) }) refl refl refl (λ id. refl) (stage 16) refl refl)
      (then (adds_one _ 3 (opening_branch 3 (codes "30 High") None)
      (record { is = refl; plain = (refl, refl) }) refl refl refl (λ id. refl) (stage 17) refl refl)
      rest))

  staff_added : Leads more counts (stage 21) last → Leads (text 18 ∷ text 19 ∷ text 20 ∷ more) counts (stage 18) last
  unfolding understood everything
  staff_added rest =
      then (adds staff _ 1 (opening_staff 1 (codes "IDA") (codes "LUND"))
      (record { is = refl; plain = (refl, refl) }) refl refl refl (λ id. refl) (stage 18) refl)
      (then (adds staff _ 2 (opening_staff 2 (codes "JON") (codes "VEGA"))
      (record { is = refl; plain = (refl, refl) }) refl refl refl (λ id. refl) (stage 19) refl)
      (then (adds staff _ 3 (opening_staff 3 (codes "KIM") (codes "ROSS"))
      (record { is = refl; plain = (refl, refl) }) refl refl refl (λ id. refl) (stage 20) refl)
      rest))

pub opening_added : {S : Type 0} (g : Ghosts S) (counts : Counts) (old new : Held S) → Runs g texts old new
    → HoldsWith counts (state g old) (first_books (token_of 0)) → HoldsWith counts (state g new) opening_books
opening_added g counts = added.leads g
  where
    added : Leads texts counts (first_books (token_of 0)) opening_books
    added =
        names_added counts _ _
        (films_added counts _ _ (places_added counts _ _ (branches_added counts _ _ (staff_added counts _ _ (ends counts opening_books)))))
