-- What a query with a filter and an order shows, of one table or of several that are joined.
use Rattle.sql_rows.proofs.Common.{cases_Bool, inl, inr, ⊤, Join, made, counted, folded, matches, or_nulls, left, IsPermutation-flat_map_each, Env, ◌≡◌, ◌==◌}
use Rattle.sql_rows.proofs.Common.{ℕ, pos, negsuc, List, [], ◌∷◌, ◌++◌, map, filter, true, false, Bool, cond, Some, None, refl, sym, ap, subst, subst₂, ◌∙◌}
use Rattle.sql_rows.proofs.Common.{arith, Ordering, is_eq, IsPermutation, int_cmp, flat_map, list_all, ints, nat_tests, Null, Int, Row, value_cmp, Key, Binary}
use Rattle.sql_rows.proofs.Common.{value_cmp-Int, Trees, IsAscending, Compare, Eq, is_true, from_truth, Term, lit, holds, Query, inner, end, IsAnswer, Output}
use Rattle.sql_rows.proofs.Common.{output, output_cmp, page, overlay, output_cmp_total, Schema, Select, reads_listing, State, IsPlain, command_of, reads_as}
use Rattle.sql_rows.proofs.Common.{map-map, map-flat_map, flat_map-map, flat_map_same_on, ascending-map, ascending_weaker, IsPermutation-flat_map}
use Rattle.sql_rows.proofs.Common.{sorted_is-sort_by, sort_by-map, sort_by, nat_cmp, IsPermutation-sym, IsPermutation-trans, IsPermutation-map}
use Rattle.sqlite_sql.specs.Ops.{binary}
use Rattle.sqlite.specs.Listing.{understood}
use Rattle.sqlite.specs.State.{Shown}
use Rattle.sqlite_sql.specs.Query.{first}
use Rattle.sqlite_keyed.proofs.ListLemmas.{IsPermutation-same, all_of}
use Rattle.sql_rows.proofs.OfKind.{unmapped_kind}
use mathlib.Core.Path.{fun_ext}

-- SELECT terms FROM tables WHERE terms ORDER BY terms
abbrev pub joined_query : Join → List Term → List Term → List (Term × Key) → Query
joined_query from tests shown order = record {
  from = from;
  filter = tests;
  group = None;
  project = shown;
  distinct = false;
  collations = [];
  order = order;
  limit = lit (Int (negsuc 0));
  offset = lit (Int (pos 0));
}

abbrev pub plain_query : ℕ → List Term → List Term → List (Term × Key) → Query
plain_query tree tests shown order = joined_query (inner tree end) tests shown order

-- a text that means this query under the schema
pub record Selects (schema : Schema) (sql : List ℕ) (q : Query) : Type 0 where
  pub names : List (List ℕ)
  pub is : command_of (understood schema sql) ≡ Select (record { lets = []; body = q }) names
  pub plain : IsPlain (understood schema sql)
  pub unlisted : reads_listing schema sql ≡ false

pub answers : (schema : Schema) (sql : List ℕ) (q : Query) (params : Row) (old new : State)
    → old.now.schema ≡ schema → Selects schema sql q → (rows : List Row) → Shown sql params old new rows
    → IsAnswer q (overlay old.now.trees []) params rows
answers schema sql q params old new has means rows h =
    (reads_as sql params old new schema has (Select (record { lets = []; body = q }) means.names) means.is means.plain means.unlisted rows h).answer Null

pub kept_as_map : {X Y : Type 0} (p : X → Bool) (f : X → Y) (xs : List X) → flat_map (λ x. cond (p x) (f x ∷ []) []) xs ≡ map f (filter p xs)
kept_as_map p f [] = refl
kept_as_map p f (x ∷ xs) =
    let more = kept_as_map p f xs in
    elim (cases_Bool (p x)) [ inl hit ↦ rw hit (ap (λ l. f x ∷ l) more) | inr miss ↦ rw miss more ]

-- what the rows of the tables so far bring to the answer, as tables are joined by JOIN and LEFT JOIN
abbrev pub shown_of : Query → Trees → Join → Env → List Output
shown_of q db end env = cond (list_all (holds env) q.filter) (output q env ∷ []) []
shown_of q db (inner t more) env = flat_map (λ r. shown_of q db more (env ++ r ∷ [])) (db t)
shown_of q db (left t on more) env = flat_map (λ r. shown_of q db more (env ++ r ∷ [])) (or_nulls (filter (λ r. list_all (holds (env ++ r ∷ [])) on) (db t)))
shown_of q db other env = map (output q) (matches db q.filter other env)

pub shown_is : (q : Query) (db : Trees) (from : Join) (env : Env) → map (output q) (matches db q.filter from env) ≡ shown_of q db from env
shown_is q db end env = elim (cases_Bool (list_all (holds env) q.filter)) [ inl hit ↦ rw hit refl | inr miss ↦ rw miss refl ]
shown_is q db (inner t more) env =
    map-flat_map (output q) (λ r. matches db q.filter more (env ++ r ∷ [])) (db t)
    ∙ flat_map_same_on _ (λ r. shown_of q db more (env ++ r ∷ [])) (λ r. shown_is q db more (env ++ r ∷ [])) (db t)
shown_is q db (left t on more) env =
    map-flat_map (output q) (λ r. matches db q.filter more (env ++ r ∷ [])) (or_nulls (filter (λ r. list_all (holds (env ++ r ∷ [])) on) (db t)))
    ∙ flat_map_same_on _ (λ r. shown_of q db more (env ++ r ∷ [])) (λ r. shown_is q db more (env ++ r ∷ []))
    (or_nulls (filter (λ r. list_all (holds (env ++ r ∷ [])) on) (db t)))
shown_is q db (counted cap from test more) env = refl
shown_is q db (made m more) env = refl
shown_is q db (folded from test all more) env = refl
shown_is q db (first from test order shown more) env = refl

-- Each table's rows stand for values in any order. `sees` is what a row of the first table brings to the answer, written over its columns. Nothing is asked of
-- the rowids.
module _ {X : Type 0} (tree : ℕ) (more : Join) (tests shown : List Term)
    (order : List (Term × Key)) (params : Row) (db : Trees) (columns : X → Row) (xs : List X)
    (narrow : Row → Row) (has : IsPermutation (map narrow (db tree)) (map columns xs)) (low : overlay db [] tree ≡ db tree)
    (sees : Row → List Output)
    (only : (r : Row) → shown_of (joined_query (inner tree more) tests shown order) (overlay db []) more (params ∷ r ∷ []) ≡ sees (narrow r))
    (outs : X → List Output) (picks : (x : X) → IsPermutation (sees (columns x)) (outs x)) where
  abbrev joined : Query
  joined = joined_query (inner tree more) tests shown order

  pub answer_bag : (rows : List Row) (a : IsAnswer joined (overlay db []) params rows) → IsPermutation (flat_map outs xs) a.ordered
  answer_bag rows a =
      let seen : a.kept ≡ flat_map sees (map narrow (db tree)) =
      a.distinct ∙ ap (map (output joined)) a.grouped
      ∙ shown_is joined (overlay db []) (inner tree more) (params ∷ [])
      ∙ ap (flat_map (λ r. shown_of joined (overlay db []) more (params ∷ r ∷ []))) low
      ∙ flat_map_same_on _ (λ r. sees (narrow r)) only (db tree)
      ∙ sym (flat_map-map sees narrow (db tree)) in
      let each : IsPermutation (flat_map sees (map columns xs)) (flat_map outs xs) =
      subst (λ l. IsPermutation l (flat_map outs xs)) (sym (flat_map-map sees columns xs))
      (IsPermutation-flat_map_each (λ x. sees (columns x)) outs picks xs) in
      let same : IsPermutation (flat_map sees (map narrow (db tree))) (flat_map outs xs) =
      IsPermutation-trans _ _ _ (IsPermutation-flat_map sees _ _ has) each in
      IsPermutation-trans _ _ _ (IsPermutation-sym _ _ same) (subst (λ k. IsPermutation k a.ordered) seen a.same)

-- one table
module _ {X : Type 0} (tree : ℕ) (tests shown : List Term) (order : List (Term × Key)) (params : Row) (db : Trees) (columns : X → Row) (xs : List X)
    (narrow : Row → Row) (has : IsPermutation (map narrow (db tree)) (map columns xs)) (low : overlay db [] tree ≡ db tree) where
  abbrev asked : Query
  asked = plain_query tree tests shown order

  abbrev hands : Row → List Output
  hands r = cond (list_all (holds (params ∷ r ∷ [])) tests) (output asked (params ∷ r ∷ []) ∷ []) []

  module _ (sees : Row → List Output) (only : (r : Row) → hands r ≡ sees (narrow r)) (p : X → Bool)
      (out : X → Output) (picks : (x : X) → sees (columns x) ≡ cond (p x) (out x ∷ []) []) where
    ordered_bag : (rows : List Row) (a : IsAnswer asked (overlay db []) params rows) → IsPermutation (map out (filter p xs)) a.ordered
    ordered_bag rows a =
        subst (λ l. IsPermutation l a.ordered) (kept_as_map p out xs)
        (answer_bag tree end tests shown order params db columns xs narrow has low sees only
        (λ x. cond (p x) (out x ∷ []) []) (λ x. IsPermutation-same _ _ (picks x)) rows a)

    -- with no order, the rows are the values that pass, in some order
    pub reads_bag : (rows : List Row) → IsAnswer asked (overlay db []) params rows → IsPermutation (map (λ x. (out x).1) (filter p xs)) rows
    reads_bag rows a =
        subst₂ IsPermutation (map-map (λ (o : Output). o.1) out (filter p xs)) (sym a.shown) (IsPermutation-map (λ (o : Output). o.1) _ _ (ordered_bag rows a))

    -- with an order that has no ties, they are one list
    pub reads_sorted : (rows : List Row) → IsAnswer asked (overlay db []) params rows → (cmp : X → X → Ordering)
        → ((x y : X) → output_cmp asked (out x) (out y) ≡ cmp x y) → IsAscending (λ x y. is_eq (cmp x y) ≡ false) (filter p xs)
        → rows ≡ map (λ x. (out x).1) (sort_by cmp (filter p xs))
    reads_sorted rows a cmp cmps apart =
        let ys = filter p xs in
        let ties : IsAscending (λ a b. is_eq (output_cmp asked a b) ≡ false) (map out ys) =
        ascending-map (λ a b. is_eq (output_cmp asked a b) ≡ false) out ys
        (ascending_weaker {A = X} (λ x y. is_eq (cmp x y) ≡ false)
        (λ x y. is_eq (output_cmp asked (out x) (out y)) ≡ false) (λ x y h. ap is_eq (cmps x y) ∙ h) ys apart)
        in
        let is = sorted_is-sort_by (output_cmp asked) (output_cmp_total asked) (map out ys) a.ordered ties (ordered_bag rows a) a.sorted in
        let same : sort_by (output_cmp asked) (map out ys) ≡ map out (sort_by cmp ys) =
        sort_by-map (output_cmp asked) out ys ∙ ap (λ (c : X → X → Ordering). map out (sort_by c ys)) (fun_ext (λ x. fun_ext (λ y. cmps x y))) in
        a.shown ∙ ap (λ os. page asked params (map (λ (o : Output). o.1) os)) (is ∙ same) ∙ map-map (λ (o : Output). o.1) out (sort_by cmp ys)

-- ---- tests and orders of numbers

pub truth_of : (b : Bool) → is_true (from_truth (Some b)) ≡ b
truth_of true = refl
truth_of false = refl

same_number : (m n : ℕ) → is_eq (int_cmp (pos m) (pos n)) ≡ (m == n)
same_number m n = grind (arith, ints, nat_tests)

pub equal_numbers : (m n : ℕ) → is_true (binary (Compare Eq Binary) (Int (pos m)) (Int (pos n))) ≡ (m == n)
unfolding binary
equal_numbers m n = truth_of _ ∙ ap is_eq (value_cmp-Int (pos m) (pos n)) ∙ same_number m n

pub number_cmp : (m n : ℕ) → value_cmp (Int (pos m)) (Int (pos n)) ≡ nat_cmp m n
number_cmp m n = value_cmp-Int (pos m) (pos n) ∙ grind (arith, ints, nat_tests)

-- lists of values with one spelling each
pub unmapped : {X Y : Type 0} (f : X → Y) → ((a b : X) → f a ≡ f b → a ≡ b) → (xs ys : List X) → map f xs ≡ map f ys → xs ≡ ys
unmapped f one xs ys = unmapped_kind f (λ _. ⊤) (λ a b _ _. one a b) xs ys (all_of (λ _. ⊤) (λ _. tt) xs) (all_of (λ _. ⊤) (λ _. tt) ys)
