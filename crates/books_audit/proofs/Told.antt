-- A query of a whole table returns the table's rows.
use Rattle.shop_schema.proofs.Common.{◌≡◌, ◌+◌, ℕ, zero, suc, length, get_or, arith, ◌++◌, append-nil, append_assoc, List, [], ◌∷◌, refl, map, cond, true, ap}
use Rattle.shop_schema.proofs.Common.{sym, subst, ◌∙◌, IsPermutation, flat_map, IsPermutation-map, IsPermutation-sym, column, Trees, Output, output, overlay}
use Rattle.shop_schema.proofs.Common.{State, columns_of, columns_from, eval_all, Table, shown_same, plain_query, answers, shop_schema, IsShop, cols}
use Rattle.sqlite_value.specs.Order.{Row}
use Rattle.sqlite.specs.State.{Shown}
use Rattle.shop_schema.proofs.Listed.{own_rows}
use Rattle.shop_schema.specs.Shop.{HaveRows}
use Rattle.books_audit.specs.Tables.{rows_in, HaveEach, SelectsWhole, AreRowsOf, SelectEach}
use Rattle.books_audit.specs.declared.tables.TableRows.{TableRows}

module _ (t : Table) (text : List ℕ) (means : SelectsWhole t text) where
  abbrev width : ℕ
  width = length t.columns

  shown : (at more : ℕ) (r : Row) → eval_all (cols 1 at more) ([] ∷ r ∷ []) ≡ columns_from at more r
  shown at zero r = refl
  shown at (suc more) r = ap (λ vs. column r at ∷ vs) (shown (suc at) more r)

  matching : (rows : List Row)
      → map (λ (o : Output). o.1) (map (output (plain_query t.tree [] (cols 1 1 width) [])) (flat_map (λ r. cond true (([] ∷ r ∷ []) ∷ []) []) rows))
      ≡ map (columns_of width) rows
  matching [] = refl
  matching (r ∷ rows) = λ i. shown 1 width r i ∷ matching rows i

  pub told : (old new : State) (found : List Row) → IsShop old → Shown text [] old new found → AreRowsOf t old.now.trees found × (new.now ≡ old.now)
  told old new found has h =
      let q = plain_query t.tree [] (cols 1 1 width) [] in
      let a = answers shop_schema text q [] old new has means found h in
      let all = IsPermutation-map (λ (o : Output). o.1) a.kept a.ordered a.same in
      let kept : map (λ (o : Output). o.1) a.kept ≡ map (columns_of width) (old.now.trees t.tree) =
      ap (λ (k : List Output). map (λ (o : Output). o.1) k) (a.distinct ∙ ap (map (output q)) a.grouped)
      ∙ matching (overlay old.now.trees [] t.tree) ∙ ap (map (columns_of width)) (own_rows old.now.trees t.tree) in (
        subst (λ l. IsPermutation l found) kept (subst (IsPermutation (map (λ (o : Output). o.1) a.kept)) (sym a.shown) all),
        (shown_same shop_schema text [] old new has means.plain found h).0.now_is,
      )

-- ---- one text after another

-- the tables that are still to be read, and what their rows make together with the rows that were read
pub record SoFar (trees : Trees) (left : List (List ℕ)) (all : List (List Row)) (ts : List Table) : Type 0 where
  pub us : List Table
  pub select : SelectEach us left
  pub have : (more : List (List Row)) → HaveRows us trees more → HaveRows ts trees (all ++ more)

pub next_table : {trees : Trees} {text : List ℕ} {left : List (List ℕ)} {all : List (List Row)} {ts : List Table}
    → SoFar trees (text ∷ left) all ts → (t : Table) × SelectsWhole t text
next_table {text = text} {left = left} so = go so.us so.select
  where
    go : (us : List Table) → SelectEach us (text ∷ left) → (t : Table) × SelectsWhole t text
    go [] h = absurd h
    go (u ∷ us) h = (u, h.0)

pub one_more : (trees : Trees) (text : List ℕ) (left : List (List ℕ)) (all : List (List Row)) (ts : List Table) (rows : List Row)
    → SoFar trees (text ∷ left) all ts
    → ((t : Table) → SelectsWhole t text → AreRowsOf t trees rows) → SoFar trees left (all ++ rows ∷ []) ts
one_more trees text left all ts rows so told = go so.us so.select so.have
  where
    go : (us : List Table) → SelectEach us (text ∷ left)
        → ((more : List (List Row)) → HaveRows us trees more → HaveRows ts trees (all ++ more)) → SoFar trees left (all ++ rows ∷ []) ts
    go [] h have = absurd h
    go (u ∷ us) h have = record {
      us = us;
      select = h.1;
      have = λ more it. subst (HaveRows ts trees) (sym (append_assoc all (rows ∷ []) more)) (have (rows ∷ more) (told u h.0, it));
    }

pub all_read : (trees : Trees) (all : List (List Row)) (ts : List Table) → SoFar trees [] all ts → HaveRows ts trees all
all_read trees all ts so = go so.us so.select so.have
  where
    go : (us : List Table) → SelectEach us [] → ((more : List (List Row)) → HaveRows us trees more → HaveRows ts trees (all ++ more)) → HaveRows ts trees all
    go [] h have = subst (HaveRows ts trees) (append-nil all) (have [] tt)
    go (u ∷ us) h have = absurd h

-- ---- the rows of each table, at its place

-- if the lists are the tables' rows from a place on
in_places : (trees : Trees) (tables : TableRows) (place : ℕ) (ts : List Table) (lists : List (List Row))
    → ((n : ℕ) → rows_in tables (place + n) ≡ get_or lists n []) → HaveRows ts trees lists
    → HaveEach tables place (map (λ t. map (columns_of (length t.columns)) (trees t.tree)) ts)
in_places trees tables place [] lists are h = tt
in_places trees tables place (t ∷ ts) [] are h = absurd h
in_places trees tables place (t ∷ ts) (rows ∷ lists) are h =
    let same : place ≡ place + 0 = omega arith in
    let here = ap (rows_in tables) same ∙ are 0 in
    let next : (n : ℕ) → place + 1 + n ≡ place + suc n = (λ n. omega arith) in (
      subst (λ found. IsPermutation found (map (columns_of (length t.columns)) (trees t.tree))) (sym here) (IsPermutation-sym _ _ h.0),
      in_places trees tables (place + 1) ts lists (λ n. ap (rows_in tables) (next n) ∙ are (suc n)) h.1,
    )

pub at_places : (trees : Trees) (tables : TableRows) (ts : List Table) (lists : List (List Row))
    → map (λ rows. rows.items) tables.all.items ≡ lists → HaveRows ts trees lists
    → HaveEach tables 0 (map (λ t. map (columns_of (length t.columns)) (trees t.tree)) ts)
at_places trees tables ts lists same =
    in_places trees tables 0 ts lists (λ n. ap (λ (l : List (List Row)). get_or l (0 + n) []) same ∙ ap (λ k. get_or lists k []) (itself n))
  where
    itself : (n : ℕ) → 0 + n ≡ n
    itself n = omega arith
