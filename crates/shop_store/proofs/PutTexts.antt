-- What the statements mean, and what they make of the books.
use Rattle.shop_schema.proofs.Common.{◌≡◌, ◌/◌, ◌&&◌, ℕ, length, Value, eval_all, value_rows, are_kept, columns_of, IsPermutation-same, pos, List, [], ◌∷◌}
use Rattle.shop_schema.proofs.Common.{◌++◌, map, true, Option, Some, None, Ok, refl, sym, ap, ◌∙◌, arith, IsPermutation-refl, map_push, Null, Int, Term, lit}
use Rattle.shop_schema.proofs.Common.{col, or_null, Values, Insert, State, ExecutesInside, Means, HasRows, number_value, is_kept, has_put, Moment, owned_by}
use Rattle.shop_schema.proofs.Common.{numbered, Branch, Books, head, shop_schema, chain_table, branch_table, chain_rule_table, chain_columns, branch_columns}
use Rattle.shop_schema.proofs.Common.{moment_value, rule_columns, IsShop, IsKeyed, HaveNoRows, HoldsWith, Writes, first_books, no_counts, cols}
use Rattle.sqlite.specs.declared.types.Value.TheVariants.{Text}
use Rattle.sqlite_value.specs.Order as sql
use Rattle.sqlite_tied.specs.Compute.{everything}
use Rattle.sqlite.specs.Listing.{understood}
use Rattle.sqlite_schema.specs.declared.schema.Kind.TheVariants as kind
use Rattle.shop_model.specs.Values as model
use Rattle.shop_schema.proofs.Stands.{stands_first}
use Rattle.shop_schema.proofs.Listed.{next_row, IsNext, push}
use Rattle.shop_schema.proofs.SharedTables.{branches}
use Rattle.shop_ledger.proofs.Puts.{puts_row}
use Rattle.shop_store.specs.declared.opening.TheConstants.{INSERT_RULE, INSERT_CHAIN}
use Rattle.shop_store.specs.declared.puts.TheConstants.{INSERT_BRANCH}
use Rattle.shop_store.specs.New.{branch_params, IsRuled}
use Rattle.shop_schema.specs.Trees.{chain_rule_tree}

-- ---- the rule, and head office's token

abbrev pub rule_terms : List Term
rule_terms = lit Null ∷ lit (Int (pos 0)) ∷ []

rule_means : Means shop_schema INSERT_RULE.now (Insert 22 (Values rule_terms 2))
unfolding understood everything
rule_means = record { is = refl; plain = (refl, refl) }

none_yet : (width : ℕ) (old : List sql.Row) → old ≡ [] → HasRows width old []
none_yet width old empty = rw empty (IsPermutation-refl [])

pub ruled_first : (old new : State) (count : ℕ) → ExecutesInside 0 INSERT_RULE.now [] old new (Ok count)
    → IsShop old → IsKeyed old → HaveNoRows old.now.trees → IsRuled new
ruled_first old new count h shop keyed empty =
    let done =
    has_put shop_schema INSERT_RULE.now 22 chain_rule_table rule_terms 1 rule_means (record { place = refl; uncounted = refl; unstamped = refl })
    [] (rule_columns model.ByCode) old new count h refl refl refl (λ id. refl) shop in
    record {
      shop = done.schema_is;
      keyed = done.keyed keyed;
      before = old.now.trees;
      empty = empty;
      same = done.others;
      rule = done.rows [] (none_yet 1 (old.now.trees chain_rule_tree) empty.1.1.1.1.1.1.1.1.1.1.1.1.1.1.1.1.1.1.1.1.1.1.0);
    }

abbrev pub token_terms : List Term
token_terms = lit Null ∷ lit (Int (pos 2)) ∷ col 0 0 ∷ []

token_means : Means shop_schema INSERT_CHAIN.now (Insert 0 (Values token_terms 3))
unfolding understood everything
token_means = record { is = refl; plain = (refl, refl) }

not_rule : ◌≡◌ {A = ℕ} 0 59 → ⊥
not_rule e = omega (arith, e)

pub holds_first : (old new : State) (token : model.Text) (count : ℕ)
    → ExecutesInside 0 INSERT_CHAIN.now (Text token ∷ []) old new (Ok count) → IsRuled old → HoldsWith no_counts new (first_books token)
holds_first old new token count h ruled =
    let done =
    has_put shop_schema INSERT_CHAIN.now 0 chain_table token_terms 2 token_means (record { place = refl; uncounted = refl; unstamped = refl })
    (Text token ∷ []) (chain_columns token) old new count h refl refl refl (λ id. refl) ruled.shop in
    let none : old.now.trees 0 ≡ [] = ruled.same.0 not_rule ∙ ruled.empty.0 in
    record {
      schema_is = done.schema_is;
      keyed = done.keyed ruled.keyed;
      stands =
          stands_first ruled.before old.now.trees new.now.trees token ruled.empty ruled.same ruled.rule done.others
          (done.rows [] (none_yet 2 (old.now.trees 0) none));
    }

-- ---- branches, which have no last moment yet

pub kept_or_null : (o : Option ℕ) → (is_kept kind.Integer (or_null number_value o) && true) ≡ true
kept_or_null None = refl
kept_or_null (Some n) = refl

abbrev branch_terms : List Term
branch_terms = lit Null ∷ (cols 0 0 7 ++ lit Null ∷ [])

branch_means : Means shop_schema INSERT_BRANCH.now (Insert 8 (Values branch_terms 9))
unfolding understood everything
branch_means = record { is = refl; plain = (refl, refl) }

new_branch : (books : Books) (n : ℕ) (x : Branch) → owned_by n books.lasts ≡ [] → branch_columns [] (n, x) ≡ branch_columns books.lasts (n, x)
new_branch books n x none = ap (λ (ms : List Moment). branch_params n x ++ or_null moment_value (head ms) ∷ []) (sym none)

one_more : (books : Books) (n : ℕ) (x : Branch) → IsNext branches n books → owned_by n books.lasts ≡ []
    → map (branch_columns books.lasts) (numbered books.catalogue.branches) ++ branch_columns [] (n, x) ∷ []
    ≡ map (branch_columns books.lasts) (numbered (books.catalogue.branches ++ x ∷ []))
one_more books n x next none =
    ap (λ (row : sql.Row). map (branch_columns books.lasts) (numbered books.catalogue.branches) ++ row ∷ []) (new_branch books n x none)
    ∙ sym (ap (map (branch_columns books.lasts)) (next_row books.catalogue.branches x n next)
    ∙ map_push (branch_columns books.lasts) (numbered books.catalogue.branches) (n, x))

-- by any statement; the premises are `refl` if the statement is known
pub adds_branch : (text : List ℕ) (terms : List Term) → Means shop_schema text (Insert 8 (Values terms 9)) → (params : sql.Row) (n : ℕ) (x : Branch)
    → value_rows params 9 (length terms / 9) terms ≡ eval_all terms (params ∷ []) ∷ [] → eval_all terms (params ∷ []) ≡ Null ∷ branch_columns [] (n, x)
    → are_kept branch_table.columns (branch_columns [] (n, x)) ≡ true → ((id : Value) → columns_of 8 (id ∷ branch_columns [] (n, x)) ≡ branch_columns [] (n, x))
    → (old new : State) (count : ℕ) → ExecutesInside 0 text params old new (Ok count)
    → Writes old new (λ books. IsNext branches n books × (owned_by n books.lasts ≡ [])) (push branches x)
adds_branch text terms means params n x one is kept whole =
    puts_row 8 branch_table (record { place = refl; uncounted = refl; unstamped = refl }) refl text terms means params
    (branch_columns [] (n, x)) one is kept whole
    (λ books. IsNext branches n books × (owned_by n books.lasts ≡ [])) (push branches x)
    (λ books. map (branch_columns books.lasts) (numbered (books.catalogue.branches ++ x ∷ [])))
    (λ counts books given. (refl, IsPermutation-same _ _ (one_more books n x given.0 given.1)))

pub puts_branch : (old new : State) (n : ℕ) (x : Branch) (count : ℕ) → ExecutesInside 0 INSERT_BRANCH.now (branch_params n x) old new (Ok count)
    → Writes old new (λ books. IsNext branches n books × (owned_by n books.lasts ≡ [])) (push branches x)
puts_branch old new n x =
    adds_branch INSERT_BRANCH.now branch_terms branch_means (branch_params n x) n x refl refl (kept_or_null x.manager) (λ id. refl) old new
