-- How the statement that takes a pair's next number changes the counts, and what it returns.
use Rattle.std.proofs.Common.{◌⊎◌}
use Rattle.shop_schema.proofs.Common.{◌≡◌, ◌<◌, ◌+◌, ◌^◌, ◌&&◌, ◌||◌, ℕ, pos, List, [], ◌∷◌, ◌++◌, map, filter, Bool, true, false, cond, Some, inl, inr, refl}
use Rattle.shop_schema.proofs.Common.{sym, ap, subst, ◌∙◌, arith, slice_get, map_push, Value, Null, Int, column, Term, lit, col, op2, Arith, Add, State}
use Rattle.shop_schema.proofs.Common.{update_where, columns_of, HasRows, number_value, are_kept, number_test, number_tested, two_tested, same_number}
use Rattle.shop_schema.proofs.Common.{MeansShowing, upserting, upserts_and_tells, shop_schema, pair_count_table, pair_columns, Pair, is_pair, count_pair}
use Rattle.shop_schema.proofs.Common.{last_of, add_pair, IsShop, Tallies}
use Rattle.sqlite_value.specs.Order as sql
use Rattle.sqlite_rules.specs.Keys.{conflicts}
use Rattle.sqlite_tied.specs.Compute.{everything}
use Rattle.sqlite.specs.Listing.{understood}
use Rattle.sqlite.specs.State.{Shown}
use Rattle.shop_schema.proofs.Stands.{stands_but}
use Rattle.shop_schema.proofs.Listed.{own_rows}
use Rattle.shop_ledger.proofs.CountTexts.{plus, plus_is}
use Rattle.consign_store.specs.declared.pairs.TheConstants.{UPSERT_PAIR}
use Rattle.consign_store.specs.Parts.{CountsPairOnce}
use Rattle.consign_store.proofs.ListLemmas.{unpicked}
use Rattle.consign_store.proofs.PairCounts.{none_said}
use Rattle.shop_schema.specs.Trees.{pair_count_tree}

abbrev pair_terms : List Term
pair_terms = lit Null ∷ col 0 0 ∷ col 0 1 ∷ lit (Int (pos 1)) ∷ []

abbrev pair_set : List Term
pair_set = col 1 0 ∷ col 1 0 ∷ col 1 1 ∷ col 1 2 ∷ op2 (Arith Add) (col 1 3) (lit (Int (pos 1))) ∷ []

-- the value that is shown, after two parameters
abbrev pair_told : List Term
pair_told = col 0 6 ∷ []

abbrev pair_params : ℕ → ℕ → sql.Row
pair_params s a = number_value s ∷ number_value a ∷ []

abbrev first_pair : ℕ → ℕ → Pair
first_pair s a = record { source = s; addressee = a; last = 1 }

abbrev raised_pair : Pair → Pair
raised_pair pair = record pair { last = pair.last + 1 }

-- whether a row has the key, as the unique key compares it
abbrev key_test : ℕ → ℕ → sql.Row → Bool
key_test s a vs = (number_test 0 s vs && (number_test 1 a vs && true)) || false

abbrev one_more : sql.Row → sql.Row
one_more vs = column vs 0 ∷ column vs 1 ∷ plus 1 (column vs 2) ∷ []

key_tested : (s a : ℕ) (pair : Pair) → key_test s a (pair_columns pair) ≡ is_pair s a pair
key_tested s a pair =
    or_none (number_test 0 s (pair_columns pair) && (number_test 1 a (pair_columns pair) && true))
    ∙ two_tested _ _ (number_tested pair.source s) (number_tested pair.addressee a)
  where
    or_none : (b : Bool) → (b || false) ≡ b
    or_none true = refl
    or_none false = refl

more_is : (pair : Pair) → pair.last < 2 ^ 32 → one_more (pair_columns pair) ≡ pair_columns (raised_pair pair)
more_is pair small = ap (λ v. number_value pair.source ∷ number_value pair.addressee ∷ v ∷ []) (plus_is pair.last 1 small (omega arith))

more_kept : (pair : Pair) → pair.last < 2 ^ 32 → are_kept pair_count_table.columns (one_more (pair_columns pair)) ≡ true
more_kept pair small = ap (are_kept pair_count_table.columns) (more_is pair small)

upsert_means : (s a : ℕ) (old new : State) (has : IsShop old)
    → MeansShowing shop_schema UPSERT_PAIR.now
    (upserting shop_schema UPSERT_PAIR.now 20 pair_count_table 3 2 (1 ∷ 2 ∷ []) pair_terms pair_set pair_told
    (pair_params s a) (pair_columns (first_pair s a)) pair_columns (key_test s a) (is_pair s a)
    one_more raised_pair (λ vs. column vs 2 ∷ []) (λ pair. pair.last < 2 ^ 32) (key_tested s a) more_is more_kept old new has) pair_told
unfolding understood everything
upsert_means s a old new has = record { names = _; is = refl; shows = refl; untimed = refl }

-- the ON CONFLICT clause meets the row that has the key
key_meets : (s a : ℕ) (id : Value) (r : sql.Row)
    → conflicts (Some (1 ∷ 2 ∷ [])) shop_schema.indexes pair_count_table (id ∷ pair_columns (first_pair s a)) r ≡ key_test s a (columns_of 3 r)
unfolding everything
key_meets s a id r = refl

-- ---- lists

-- no row of the pair
put_last : (s a : ℕ) (pairs : List Pair) → filter (is_pair s a) pairs ≡ [] → count_pair s a pairs ≡ pairs ++ first_pair s a ∷ []
put_last s a [] none = refl
put_last s a (pair ∷ pairs) none = go (is_pair s a pair) none (put_last s a pairs)
  where
    go : (b : Bool) → cond b (pair ∷ filter (is_pair s a) pairs) (filter (is_pair s a) pairs) ≡ []
        → (filter (is_pair s a) pairs ≡ [] → count_pair s a pairs ≡ pairs ++ first_pair s a ∷ [])
        → cond b (raised_pair pair ∷ pairs) (pair ∷ count_pair s a pairs) ≡ pair ∷ pairs ++ first_pair s a ∷ []
    go true e more = absurd cc
    go false e more = ap (λ l. pair ∷ l) (more e)

-- one row of the pair
set_one : (s a : ℕ) (pairs : List Pair) (x : Pair) → filter (is_pair s a) pairs ≡ x ∷ []
    → (update_where (is_pair s a) raised_pair pairs ≡ count_pair s a pairs) × (last_of s a pairs ≡ x.last)
set_one s a [] x one = absurd cc
set_one s a (pair ∷ pairs) x one = go (is_pair s a pair) one (set_one s a pairs x)
  where
    go : (b : Bool) → cond b (pair ∷ filter (is_pair s a) pairs) (filter (is_pair s a) pairs) ≡ x ∷ []
        → (filter (is_pair s a) pairs ≡ x ∷ [] → (update_where (is_pair s a) raised_pair pairs ≡ count_pair s a pairs) × (last_of s a pairs ≡ x.last))
        → (cond b (raised_pair pair) pair ∷ update_where (is_pair s a) raised_pair pairs ≡ cond b (raised_pair pair ∷ pairs) (pair ∷ count_pair s a pairs))
        × (cond b pair.last (last_of s a pairs) ≡ x.last)
    go true e more =
        let first : pair ≡ x = cc in
        let none : filter (is_pair s a) pairs ≡ [] = cc in
        (ap (λ l. raised_pair pair ∷ l) (unpicked (is_pair s a) raised_pair pairs none), ap (λ (it : Pair). it.last) first)
    go false e more = let rest = more e in (ap (λ l. pair ∷ l) rest.0, rest.1)

-- ---- the number that is taken

pub tallies_pair : (old new : State) (s a : ℕ) (rows : List sql.Row) → Shown UPSERT_PAIR.now (pair_params s a) old new rows
    → (row : sql.Row) (n : ℕ) → slice_get rows 0 ≡ Some row → column row 0 ≡ number_value n
    → Tallies old new (CountsPairOnce s a) (add_pair s a) (λ counts. n ≡ last_of s a counts.pairs + 1)
tallies_pair old new s a rows h row n some is counts books holds given =
    let it =
    upserts_and_tells shop_schema UPSERT_PAIR.now 20 pair_count_table 3 2 (1 ∷ 2 ∷ []) pair_terms pair_set pair_told
    (pair_params s a) (pair_columns (first_pair s a)) pair_columns (key_test s a) (is_pair s a)
    one_more raised_pair (λ vs. column vs 2 ∷ []) (λ pair. pair.last < 2 ^ 32) (key_tested s a) more_is more_kept old new holds.schema_is
    (upsert_means s a old new holds.schema_is) (record { place = refl; uncounted = refl; unstamped = refl }) refl refl refl refl
    (λ id. refl) (key_meets s a) (own_rows old.now.trees pair_count_tree)
    (λ id r q. refl) (λ id r q. refl) (λ id r q. refl) (λ r. refl) (λ v vs. refl) (λ r. refl) rows h in
    let done = it.rows holds.keyed counts.pairs holds.stands.pairs given.small given.once in
    let told = by_end done in (
      record {
        schema_is = it.schema_is;
        keyed = it.keyed holds.keyed;
        stands =
            stands_but 20 pair_count_table refl refl counts (add_pair s a counts) books books _ refl old.now.trees new.now.trees it.others holds.stands told.0;
      },
      told.1,
    )
  where
    first_told : (m : ℕ) → rows ≡ (number_value m ∷ []) ∷ [] → n ≡ m
    first_told m are =
        let same : number_value m ∷ [] ≡ row = one_of (sym (ap (λ rs. slice_get rs 0) are) ∙ some) in sym (same_number m n (ap (λ r. column r 0) same ∙ is))
      where
        one_of : {x y : sql.Row} → Some x ≡ Some y → x ≡ y
        one_of e = cc

    by_end :
        ((filter (is_pair s a) counts.pairs ≡ [])
        × HasRows 3 (new.now.trees pair_count_tree) (map pair_columns counts.pairs ++ pair_columns (first_pair s a) ∷ [])
        × (rows ≡ (number_value 1 ∷ []) ∷ []))
        ⊎ ((x : Pair) × (filter (is_pair s a) counts.pairs ≡ x ∷ [])
        × HasRows 3 (new.now.trees pair_count_tree) (map pair_columns (update_where (is_pair s a) raised_pair counts.pairs))
        × (rows ≡ (number_value (x.last + 1) ∷ []) ∷ []))
        → HasRows 3 (new.now.trees pair_count_tree) (map pair_columns (count_pair s a counts.pairs)) × (n ≡ last_of s a counts.pairs + 1)
    by_end (inl put) = (
      subst (HasRows 3 (new.now.trees pair_count_tree))
          (sym (ap (map pair_columns) (put_last s a counts.pairs put.0) ∙ map_push pair_columns counts.pairs (first_pair s a))) put.1,
      first_told 1 put.2 ∙ sym (ap (λ (k : ℕ). k + 1) (none_said s a counts.pairs put.0)),
    )
    by_end (inr set) =
        let one = set_one s a counts.pairs set.0 set.1 in (
          subst (λ (l : List Pair). HasRows 3 (new.now.trees pair_count_tree) (map pair_columns l)) one.0 set.2,
          first_told (set.0.last + 1) set.3 ∙ ap (λ (k : ℕ). k + 1) (sym one.1),
        )
