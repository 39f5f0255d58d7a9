-- What is read by a token: head office's, or a branch's.
use Rattle.shop_schema.proofs.Common.{◌≡◌, ◌≤◌, ◌+◌, ◌==◌, ◌&&◌, ℕ, List, [], ◌∷◌, map, filter, length, cond, not, Bool, true, false, Some, None, refl, sym, ap}
use Rattle.shop_schema.proofs.Common.{subst, ◌∙◌, slice_get, bytes_eq, column, Binary, Term, col, op2, Compare, Eq, State, PicksOne, number_value, same_number}
use Rattle.shop_schema.proofs.Common.{or-false, head, Selects, plain_query, text_test, text_tested, one_tested, projects_one, still_holds, numbered}
use Rattle.shop_schema.proofs.Common.{numbered_from, Branch, Books, Counter, Nobody, branch_with, TellsFirst, shop_schema, chain_columns, branch_columns}
use Rattle.shop_schema.proofs.Common.{IsHeld, StandsFor, Holds, Reads}
use Rattle.std.specs.Prelude.{Option}
use Rattle.sqlite.specs.declared.types.Value.TheVariants.{Text}
use Rattle.sqlite_value.specs.Order as sql
use Rattle.sqlite_tied.specs.Compute.{everything}
use Rattle.sqlite.specs.Listing.{understood}
use Rattle.sqlite.specs.State.{Shown}
use Rattle.shop_schema.proofs.Different.{different_once, bytes_eq_turned}
use Rattle.shop_schema.proofs.FirstRows.{first_none, first_some}
use Rattle.shop_ledger.proofs.Rising.{as_many_pass}
use Rattle.shop_store.specs.SharedSeen.{branch_caller}
use Rattle.shop_store.proofs.Whether.{reads_any}
use Rattle.shop_store.proofs.SharedReads.{reads_only}
use Rattle.shop_store.specs.declared.branches.TheConstants.{SELECT_WITH_TOKEN}
use Rattle.shop_store.specs.declared.chain.TheConstants.{SELECT_OFFICE, SELECT_OFFICE_TOKEN}
use Rattle.shop_schema.specs.Trees.{branch_tree}

-- ---- head office

abbrev pub of_token : List Term
of_token = op2 (Compare Eq Binary) (col 1 2) (col 0 0) ∷ []

pub select_office_means : Selects shop_schema SELECT_OFFICE.now (plain_query 0 of_token (col 1 1 ∷ []) [])
unfolding understood everything
select_office_means = record { names = _; is = refl; plain = (refl, refl); unlisted = refl }

pub told_office : (old new : State) (token : List ℕ) (rows : List sql.Row) → Shown SELECT_OFFICE.now (Text token ∷ []) old new rows
    → Reads old new (λ books. not (length rows == 0) ≡ bytes_eq token books.catalogue.office_token)
unfolding understood everything
told_office old new token rows h books holds held =
    let found =
    reads_any SELECT_OFFICE.now 0 2 of_token (col 1 1 ∷ []) select_office_means
    (λ them. chain_columns) (λ them. them.catalogue.office_token ∷ []) (λ them trees s. s.chain)
    (Text token ∷ []) (λ vs. text_test 1 token vs && true) (λ vs. column vs 0 ∷ []) (bytes_eq token)
    (λ them t. one_tested _ (text_tested t token ∙ bytes_eq_turned t token)) (λ r. refl) old new rows h books holds held in
    (found.0, found.1 ∙ or-false (bytes_eq token books.catalogue.office_token))

pub read_office_token : {Fits : sql.Row → List ℕ → Type 0}
    → ((row : sql.Row) (token : List ℕ) → Fits row token → column row 0 ≡ Text token) → (old new : State) (rows : List sql.Row)
    → (found : Option (List ℕ)) (token : List ℕ) → Shown SELECT_OFFICE_TOKEN.now [] old new rows
    → TellsFirst Fits rows found → found ≡ Some token → Reads old new (λ books. token ≡ books.catalogue.office_token)
unfolding understood everything
read_office_token =
    reads_only SELECT_OFFICE_TOKEN.now 0 2 1 (record { names = _; is = refl; plain = (refl, refl); unlisted = refl })
    (λ r. refl) chain_columns (λ books. books.catalogue.office_token) (λ books trees s. s.chain) same_text (λ token. token)
  where
    same_text : (s t : List ℕ) → Text s ≡ Text t → s ≡ t
    same_text s t e = cc

-- ---- a branch

pub select_branch_means : Selects shop_schema SELECT_WITH_TOKEN.now (plain_query branch_tree of_token (col 1 1 ∷ []) [])
unfolding understood everything
select_branch_means = record { names = _; is = refl; plain = (refl, refl); unlisted = refl }

abbrev has_token : List ℕ → Branch → Bool
has_token token branch = bytes_eq branch.token token

abbrev numbered_has : List ℕ → ℕ × Branch → Bool
numbered_has token it = has_token token it.1

-- the first branch that has the token is the one that `branch_with` finds
caller_is : (token : List ℕ) (k : ℕ) (branches : List Branch)
    → branch_caller (head (map (λ (it : ℕ × Branch). it.0) (filter (numbered_has token) (numbered_from k branches)))) ≡ branch_with token k branches
caller_is token k [] = refl
caller_is token k (branch ∷ branches) =
    let others = filter (numbered_has token) (numbered_from (k + 1) branches) in
    elim (has_token token branch) as (λ t.
    branch_caller (head (map (λ (it : ℕ × Branch). it.0) (cond t ((k, branch) ∷ others) others))) ≡ cond t (Counter k) (branch_with token (k + 1) branches))
    [ true ↦ refl | false ↦ caller_is token (k + 1) branches ]

module _ (old new : State) (token : List ℕ) (rows : List sql.Row) (h : Shown SELECT_WITH_TOKEN.now (Text token ∷ []) old new rows) where
  stays : (books : Books) → Holds old books → Holds new books
  stays = still_holds shop_schema StandsFor SELECT_WITH_TOKEN.now (Text token ∷ []) old new select_branch_means.plain rows h

  shown_branches : (books : Books) → Holds old books → IsHeld books
      → rows ≡ map (λ (it : ℕ × Branch). number_value it.0 ∷ []) (filter (numbered_has token) (numbered books.catalogue.branches))
  shown_branches books holds held =
      projects_one shop_schema SELECT_WITH_TOKEN.now 18 8 of_token (col 1 1 ∷ []) select_branch_means (Text token ∷ []) old new rows holds.schema_is h
      (branch_columns books.lasts) (numbered books.catalogue.branches) holds.stands.branches refl
      (λ vs. text_test 1 token vs && true) (λ vs. column vs 0 ∷ []) (numbered_has token)
      (λ it. one_tested _ (text_tested it.1.token token)) (λ r. refl) few
    where
      few : PicksOne (numbered_has token) (numbered books.catalogue.branches)
      few =
          subst (λ (n : ℕ). n ≤ 1) (sym (as_many_pass (has_token token) 1 books.catalogue.branches))
          (different_once (λ (branch : Branch). branch.token) token books.catalogue.branches held.tokens)

  abbrev found : Books → List (ℕ × Branch)
  found books = filter (numbered_has token) (numbered books.catalogue.branches)

  abbrev shown : ℕ × Branch → sql.Row
  shown it = number_value it.0 ∷ []

  -- what the first row says of the books
  pub read_branch : (None ≡ slice_get rows 0 → Reads old new (λ books. Nobody ≡ branch_with token 1 books.catalogue.branches))
      × ((row : sql.Row) (n : ℕ) → Some row ≡ slice_get rows 0 → column row 0 ≡ number_value n
      → Reads old new (λ books. Counter n ≡ branch_with token 1 books.catalogue.branches))
  read_branch = (
    λ none books holds held. (
      stays books holds,
      ap branch_caller (first_none shown (λ it. it.0) (found books) rows rows (shown_branches books holds held) refl none)
          ∙ caller_is token 1 books.catalogue.branches,
    ),
    λ row n some is books holds held. (
      stays books holds,
      ap branch_caller
          (first_some shown (λ it. it.0) (found books) rows rows (shown_branches books holds held) refl row n some
          (λ it e. sym (same_number it.0 n (ap (λ (r : sql.Row). column r 0) e ∙ is))))
          ∙ caller_is token 1 books.catalogue.branches,
    ),
  )
