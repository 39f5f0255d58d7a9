-- Why looks for a token fail with `Failed`.
use Rattle.shop_schema.proofs.Common.{◌≡◌, ◌≤◌, ◌<◌, ◌^◌, ◌+◌, ◌&&◌, ℕ, List, [], ◌∷◌, length, true, refl, arith, nat_tests, AllByRecursion, bytes_eq, col}
use Rattle.shop_schema.proofs.Common.{column}
use Rattle.shop_schema.proofs.Common.{State, number_value, text_test, text_tested, one_tested, projects_bag, numbered, numbered_from, Branch, Books}
use Rattle.shop_schema.proofs.Common.{shop_schema}
use Rattle.shop_schema.proofs.Common.{branch_columns, IsHeld, Holds, StoreFault, Failed}
use Rattle.sqlite.specs.declared.types.Value.TheVariants.{Text}
use Rattle.sqlite_value.specs.Order as sql
use Rattle.sqlite_tied.specs.Compute.{everything}
use Rattle.sqlite.specs.Listing.{understood}
use Rattle.sqlite.specs.State.{Shown}
use Rattle.sql_rows.specs.Causes.{IsReadyInside, MetFaults, FailsToRead}
use Rattle.sql_rows.specs.Fault.{IsToldOf, QueryGave}
use Rattle.sql_rows.proofs.Queries.{plain_query}
use Rattle.sql_rows.proofs.QueryFaults.{IsFine, fine_plain, told_met, first_met, all_such}
use Rattle.shop_schema.specs.Asked.{HoldsBooks, ShowsNumber}
use Rattle.shop_schema.specs.RowValues.{IsNumber}
use Rattle.shop_schema.specs.Trees.{branch_tree}
use Rattle.shop_store.specs.declared.branches.TheConstants.{SELECT_WITH_TOKEN}
use Rattle.shop_store.specs.declared.chain.TheConstants.{SELECT_OFFICE}
use Rattle.shop_store.proofs.TokenReads.{of_token, select_office_means, select_branch_means}

-- ---- head office's

office_fine : (token : List ℕ) → IsFine shop_schema SELECT_OFFICE.now (plain_query 0 of_token (col 1 1 ∷ []) []) (Text token ∷ [])
unfolding understood everything
office_fine token = fine_plain 0 of_token (col 1 1 ∷ []) [] select_office_means (refl, refl, refl) refl

pub office_met : (old new : State) (token : List ℕ) → IsReadyInside old → HoldsBooks old
    → (fault : StoreFault) → IsToldOf (QueryGave SELECT_OFFICE.now (Text token ∷ []) old new) fault → fault ≡ Failed → MetFaults old new
office_met old new token ready it =
    told_met shop_schema SELECT_OFFICE.now (plain_query 0 of_token (col 1 1 ∷ []) []) (Text token ∷ []) (office_fine token) old new it.1.schema_is ready

-- ---- a branch's

branch_fine : (token : List ℕ) → IsFine shop_schema SELECT_WITH_TOKEN.now (plain_query branch_tree of_token (col 1 1 ∷ []) []) (Text token ∷ [])
unfolding understood everything
branch_fine token = fine_plain branch_tree of_token (col 1 1 ∷ []) [] select_branch_means (refl, refl, refl) refl

-- the numbers of few rows are such as the program can hold
pub all_numbers : {A : Type 0} (k : ℕ) (xs : List A) → 1 ≤ k → k + length xs ≤ 2 ^ 32 → AllByRecursion (λ (it : ℕ × A). IsNumber it.0) (numbered_from k xs)
all_numbers k [] low few = tt
all_numbers k (x ∷ xs) low few = (is_number k low (omega (arith, few)), all_numbers (k + 1) xs (omega (arith, low)) (omega (arith, few)))
  where
    is_number : (n : ℕ) → 1 ≤ n → n < 2 ^ 32 → IsNumber n
    is_number n low high = grind (arith, nat_tests)

shows_branch : (old new : State) (token : List ℕ) (books : Books) → Holds old books → IsHeld books
    → (rows : List sql.Row) → Shown SELECT_WITH_TOKEN.now (Text token ∷ []) old new rows → AllByRecursion ShowsNumber rows
shows_branch old new token books holds held rows h =
    all_such (λ (it : ℕ × Branch). IsNumber it.0) ShowsNumber (λ it. number_value it.0 ∷ []) (λ it. bytes_eq it.1.token token)
    (numbered books.catalogue.branches) rows
    (projects_bag shop_schema SELECT_WITH_TOKEN.now branch_tree 8 of_token (col 1 1 ∷ []) select_branch_means (Text token ∷ []) old new rows holds.schema_is h
    (branch_columns books.lasts) (numbered books.catalogue.branches) holds.stands.branches refl
    (λ vs. text_test 1 token vs && true) (λ vs. column vs 0 ∷ []) (λ it. bytes_eq it.1.token token)
    (λ it. one_tested _ (text_tested it.1.token token)) (λ r. refl))
    (all_numbers 1 books.catalogue.branches (omega arith) (let few = held.values.catalogue.branches.0 in omega (arith, few)))
    (λ it is. (it.0, is, refl))

pub branch_met : {Fails : sql.Row → StoreFault → Type 0} (old new : State) (token : List ℕ)
    → ((row : sql.Row) (fault : StoreFault) → Fails row fault → fault ≡ Failed → ¬ ShowsNumber row) → IsReadyInside old → HoldsBooks old
    → (fault : StoreFault) → FailsToRead Fails SELECT_WITH_TOKEN.now (Text token ∷ []) old new fault → fault ≡ Failed → MetFaults old new
branch_met old new token refuses ready it =
    first_met ShowsNumber shop_schema SELECT_WITH_TOKEN.now (plain_query branch_tree of_token (col 1 1 ∷ []) []) (Text token ∷ []) (branch_fine token)
    old new it.1.schema_is refuses (shows_branch old new token it.0 it.1 it.2) ready
