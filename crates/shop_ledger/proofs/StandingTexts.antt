-- The state of a branch in SQL: its row, joined with its count of kept commands.
use Rattle.shop_schema.proofs.Common.{◌≡◌, ◌≤◌, ◌==◌, ℕ, zero, suc, pos, List, [], ◌∷◌, map, filter, true, false, cond, Some, None, refl, sym, ap, subst, ◌∙◌}
use Rattle.shop_schema.proofs.Common.{arith, append-nil, inl, inr, ◌⊎◌, IfSome, slice_get, flat_map, IsPermutation-refl, Value, Null, Int, or_null, column}
use Rattle.shop_schema.proofs.Common.{Trees, Term, col, lit, Query, Join, inner, left, end, Output, overlay, State, map-map, IsPermutation-same, PicksOne}
use Rattle.shop_schema.proofs.Common.{columns_of, number_value, Selects, answers, kept_as_map, one_tested, number_tested, still_holds, joined_query, are_equal}
use Rattle.shop_schema.proofs.Common.{or_blank, shown_of, few_list, left_pair, joined_rows, IsMoment, owned_by, at, is_empty, numbered, Branch, Books, head}
use Rattle.shop_schema.proofs.Common.{shop_schema, moment_value, branch_columns, counter_columns, Count, is_count, count_in, counts_of, IsHeld, StandsFor}
use Rattle.shop_schema.proofs.Common.{Holds, Reads}
use Rattle.sqlite_value.specs.Order as sql
use Rattle.sqlite_tied.specs.Compute.{everything}
use Rattle.sqlite.specs.Listing.{understood}
use Rattle.sqlite.specs.State.{Shown}
use Rattle.shop_schema.specs.Kinds as kinds
use Rattle.shop_schema.proofs.OneRow.{same_value}
use Rattle.shop_schema.proofs.Lasts.{numbered_once, last_fits}
use Rattle.shop_schema.proofs.Numbers.{numbered_at}
use Rattle.shop_ledger.specs.declared.branches.Standing.{Standing}
use Rattle.shop_ledger.specs.declared.branches.TheConstants.{SELECT_STANDING}
use Rattle.shop_ledger.specs.declared.counts.CountKind.TheVariants as kind
use Rattle.shop_ledger.specs.Standings.{IsStanding}
use Rattle.shop_ledger.proofs.Equals.{of_one}
use Rattle.shop_ledger.proofs.Fews.{climbs_few}
use Rattle.shop_ledger.proofs.CountsOf.{told_count, held_once}
use Rattle.shop_ledger.proofs.OfficeCounts.{office_once}
use Rattle.shop_schema.specs.Trees.{counter_tree}

abbrev with_keys : Join
with_keys = left counter_tree (are_equal (col 2 1) (col 1 1) ∷ are_equal (col 2 2) (lit (Int (pos 4))) ∷ []) end

abbrev standing_shows : List Term
standing_shows = col 1 8 ∷ col 2 3 ∷ []

abbrev pub standing_query : Query
standing_query = joined_query (inner 18 with_keys) of_one standing_shows []

pub standing_means : Selects shop_schema SELECT_STANDING.now standing_query
unfolding understood everything
standing_means = record { names = _; is = refl; plain = (refl, refl); unlisted = refl }

-- ---- one branch

-- the counts of kept commands of the caller
abbrev pub keys_of : Books → ℕ → List Count
keys_of books b = filter (is_count b 4) (counts_of books).counters

keys_once : (books : Books) → IsHeld books → (b : ℕ) → PicksOne (is_count b 4) (counts_of books).counters
keys_once books held zero = (office_once books held).once
keys_once books held (suc b) = (held_once books held kind.Kept (suc b) (omega arith)).once

abbrev pub keys_value : List Count → Value
keys_value counts = or_null (λ (c : Count). number_value c.last) (head counts)

abbrev pub standing_row : Books → ℕ × Branch → sql.Row
standing_row books x = or_null moment_value (head (owned_by x.0 books.lasts)) ∷ keys_value (keys_of books x.0) ∷ []

module _ (b : ℕ) (books : Books) (db : Trees) (s : StandsFor db books) (held : IsHeld books) (x : ℕ × Branch) where
  abbrev params : sql.Row
  params = number_value b ∷ []

  abbrev its : sql.Row
  its = Null ∷ branch_columns books.lasts x

  abbrev out : Value → List Output
  out keys = cond (x.0 == b) (([], or_null moment_value (head (owned_by x.0 books.lasts)) ∷ keys ∷ []) ∷ []) []

  abbrev last : sql.Row → List Output
  last r2 = shown_of standing_query (overlay db []) end (params ∷ its ∷ r2 ∷ [])

  ends_are : (c2 : sql.Row) → last (Null ∷ c2) ≡ out (column c2 2)
  ends_are c2 = ap (λ t. cond t (([], or_null moment_value (head (owned_by x.0 books.lasts)) ∷ column c2 2 ∷ []) ∷ []) []) (one_tested _ (number_tested x.0 b))

  abbrev P : List Count → Type 0
  P l = flat_map (λ c2. last (Null ∷ c2)) (or_blank 3 (map counter_columns l)) ≡ out (keys_value l)

  one : (l : List Count) → (l ≡ []) ⊎ ((c : Count) × (l ≡ c ∷ [])) → P l
  one l (inl none) = subst P (sym none) (append-nil _ ∙ ends_are (columns_of 3 []))
  one l (inr it) = subst P (sym it.1) (append-nil _ ∙ ends_are (counter_columns it.0))

  keys_brings : shown_of standing_query (overlay db []) with_keys (params ∷ its ∷ []) ≡ out (keys_value (keys_of books x.0))
  keys_brings =
      let few = keys_once books held x.0 in
      left_pair 3 counter_columns (db 41) (counts_of books).counters s.counters last (λ r. refl)
      (λ c. c.caller) (λ c. c.kind) (λ c. refl) (λ c. refl) (λ r. refl) (λ r. refl) x.0 4 few
      ∙ one (keys_of books x.0) (few_list (keys_of books x.0) few)

-- ---- the branch of the number

abbrev standing_output : Books → ℕ × Branch → Output
standing_output books x = ([], standing_row books x)

abbrev pub rows_of : ℕ → Books → List Branch → List sql.Row
rows_of b books found = map (standing_row books) (map (λ branch. (b, branch)) found)

pub shows_standing : (old new : State) (b : ℕ) (rows : List sql.Row)
    → Shown SELECT_STANDING.now (number_value b ∷ []) old new rows → (books : Books) → Holds old books → IsHeld books
    → rows ≡ rows_of b books (at b books.catalogue.branches)
shows_standing old new b rows h books holds held =
    let db = old.now.trees in
    let s = holds.stands in
    let all = numbered books.catalogue.branches in
    let mine = filter (λ (it : ℕ × Branch). it.0 == b) all in
    joined_rows 18 with_keys of_one standing_shows [] (number_value b ∷ []) db 8 (branch_columns books.lasts) all s.branches refl (λ r. refl)
    (λ x. cond (x.0 == b) (standing_output books x ∷ []) []) (λ x. IsPermutation-same _ _ (keys_brings b books db s held x))
    rows (answers shop_schema SELECT_STANDING.now standing_query (number_value b ∷ []) old new holds.schema_is standing_means rows h)
    (map (standing_output books) mine) (IsPermutation-same _ _ (kept_as_map (λ (it : ℕ × Branch). it.0 == b) (standing_output books) all))
    (climbs_few standing_query (standing_output books) mine (numbered_once 1 books.catalogue.branches b))
    ∙ map-map (λ (o : Output). o.1) (standing_output books) mine
    ∙ ap (map (standing_row books)) (numbered_at b books.catalogue.branches)

-- the count that is shown is the books'
pub keys_are : (b n : ℕ) (books : Books) → 1 ≤ b → (l : List Count) → keys_of books b ≡ l → keys_value l ≡ number_value n → n ≡ count_in 4 b books
keys_are b n books low [] e is = cc
keys_are b n books low (c ∷ more) e is =
    let shown : List Count → List sql.Row = map (λ c. number_value c.last ∷ []) in
    told_count b 4 books (shown (keys_of books b)) (number_value c.last ∷ []) n low (IsPermutation-refl _) (ap (λ l. slice_get (shown l) 0) e) is

-- what the first row says of the books
pub told_standing : (old new : State) (b : ℕ) (rows : List sql.Row) → Shown SELECT_STANDING.now (number_value b ∷ []) old new rows → 1 ≤ b
    → (slice_get rows 0 ≡ None → Reads old new (λ books. IsStanding b books None))
    × ((row : sql.Row) (it : Standing) → slice_get rows 0 ≡ Some row → column row 0 ≡ or_null moment_value it.last
    → IfSome it.last IsMoment → column row 1 ≡ number_value it.keys
    → Reads old new (λ books. IsStanding b books (Some it)))
told_standing old new b rows h low = (
  λ none books holds held. (still books holds, unknown books (at b books.catalogue.branches) (sym (first books holds held) ∙ none)),
  λ row it some moment real keys books holds held.
      let is = known row it moment real keys books held (at b books.catalogue.branches) (sym (first books holds held) ∙ some) in
      (still books holds, record { there = is.0; last = is.1; keys = is.2 }),
)
  where
    still : (books : Books) → Holds old books → Holds new books
    still = still_holds shop_schema StandsFor SELECT_STANDING.now (number_value b ∷ []) old new standing_means.plain rows h

    first : (books : Books) → Holds old books → IsHeld books → slice_get rows 0 ≡ slice_get (rows_of b books (at b books.catalogue.branches)) 0
    first books holds held = ap (λ rs. slice_get rs 0) (shows_standing old new b rows h books holds held)

    unknown : (books : Books) (found : List Branch) → slice_get (rows_of b books found) 0 ≡ None → is_empty found ≡ true
    unknown books [] e = refl
    unknown books (branch ∷ more) e = cc

    known : (row : sql.Row) (it : Standing) → column row 0 ≡ or_null moment_value it.last
        → IfSome it.last IsMoment → column row 1 ≡ number_value it.keys → (books : Books) → IsHeld books
        → (found : List Branch) → slice_get (rows_of b books found) 0 ≡ Some row
        → (is_empty found ≡ false) × (it.last ≡ head (owned_by b books.lasts)) × (it.keys ≡ count_in 4 b books)
    known row it moment real keys books held [] e = cc
    known row it moment real keys books held (branch ∷ more) e =
        let same : standing_row books (b, branch) ≡ row = cc in (
          refl,
          same_value kinds.MomentOrNull it.last (head (owned_by b books.lasts)) real
              (last_fits b books.lasts held.values.lasts) (sym moment ∙ ap (λ r. column r 0) (sym same)),
          keys_are b it.keys books low (keys_of books b) refl (ap (λ r. column r 1) same ∙ keys),
        )
