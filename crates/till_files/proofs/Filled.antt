-- How a book that was made before it had tables beside the journal gets them.
use Rattle.sql_rows.proofs.Common.{◌≡◌, ◌≢◌, ◌∙◌, ◌==◌, ◌&&◌, ℕ, Bool, not, true, false, cond, is_gt, None, List, [], ◌∷◌, map}
use Rattle.sql_rows.proofs.Common.{Ok, refl, sym, ap, subst, arith, AllByRecursion, IsPermutation, IsPermutation-refl, IsPermutation-sym}
use Rattle.sql_rows.proofs.Common.{all-permutation, State, Trees, Schema, Table, IsShaped, Index, Tally, Database}
use Rattle.sql_rows.proofs.Common.{CreateIndex, Writes, Executes, ExecutesInside, Defines, mode_of, runs_as, created, next_tree, MakesIndex, MakeAll, no_schema}
use Rattle.sql_rows.proofs.Common.{Differ, by, insert_sorted, HasRows, filter_same}
use Rattle.std.proofs.lemmas.List.Sorted.{list_any-IsPermutation}
use Rattle.sqlite_trees.specs.declared.store.Shape.TheVariants.{Table as TableShape}
use Rattle.sqlite_tied.specs.Compute.{everything}
use Rattle.sqlite_value.specs.Order as sql
use Rattle.sqlite_keyed.proofs.SortLemmas.{IsPermutation-sort_by}
use Rattle.sqlite_keyed.proofs.ListLemmas.{all_from_test, test_from_all}
use Rattle.sqlite.specs.Does.{MakesIndex as IndexMade}
use Rattle.sqlite_catalog.specs.Change.{indexed}
use Rattle.sql_rows.proofs.Puts.{went, same_value}
use Rattle.sql_rows.proofs.Fills.{adds}
use Rattle.sql_rows.proofs.Creates.{makes_one}
use Rattle.sql_rows.proofs.Bags.{number_total}
use Rattle.shop_model.specs.Rows.{numbered}
use Rattle.shop_model.specs.Answers.{Answer}
use Rattle.till_book.specs.Tables.{book_schema, entry_table, reply_table, settled_table, unsure_table, rented_table, returned_table}
use Rattle.till_book.specs.Marks.{Rented, Returned, rents_told, returns_told, is_unsure}
use Rattle.till_book.specs.Journal.{Journal, IsBare, AreMarked, HoldsBare, FindsBare, is_refused, is_unsettled}
use Rattle.till_book.specs.Journal.{unsure_of, unsure_columns, rented_columns, returned_columns}
use Rattle.till_book.specs.Read.{IsReadOf, in_order}
use Rattle.till_book.specs.declared.lists.BookRows.{BookRows}
use Rattle.till_book.proofs.Numbers.{number}
use Rattle.till_book.proofs.Marked.{none_told, alike_settled, rents_silent, returns_silent}
use Rattle.till_book.proofs.InOrder.{accepted_in_order}
use Rattle.till_book.proofs.JournalTexts.{entry_text, reply_text, settled_text, makes_entry, makes_reply, makes_settled, unsure_text, rented_text}
use Rattle.till_book.proofs.JournalTexts.{returned_text, rented_as_text, stage, placeless, rented_as, makes_unsure, makes_rented, makes_returned}
use Rattle.till_book.proofs.JournalTexts.{makes_rented_as}
use Rattle.till_files.specs.Migrations.{first_schema, AddsTables, Fills}
use Rattle.till_files.specs.Playing.{journal_of, MarksReplies, MarksSettlements}

-- ---- the tables

-- an index is made among tables that have rows
record AddsIndex (schema : Schema) (table : Table) (index : Index) (old new : State) : Type 0 where
  schema_is : new.now.schema ≡ indexed schema table index
  others : AllByRecursion (λ t. new.now.trees t.tree ≡ old.now.trees t.tree) schema.tables

adds_index : (schema : Schema) (sql : List ℕ) (old new : State) (count at : ℕ) (table : Table) (index : Index)
    → old.now.schema ≡ schema → MakesIndex schema sql at table index → Executes sql [] old new (Ok count)
    → AddsIndex schema table index old new
adds_index schema sql old new count at table index has given h =
    let makes = subst (λ (s : Schema). MakesIndex s sql at table index) (sym has) given in
    let w =
    subst (λ t. Writes old new None (CreateIndex at) t [] count) makes.whole
    (runs_as sql [] old new old.now.schema refl (CreateIndex at) makes.means.is makes.means.plain count h) in
    let placed : Defines (mode_of old) (IndexMade sql old.now table) (Ok (w.tally, new.now)) = rw makes.place at w.changed in
    let all = went placed in
    let made = all.1 in
    let both : Ok made.index ≡ Ok index = sym made.defined ∙ makes.defined in
    let same : made.index ≡ index = cc in
    let now : new.now ≡ all.0 = ap (λ (p : Tally × Database). p.1) (same_value all.2) in
    record {
      schema_is = ap (λ (d : Database). d.schema) now ∙ made.is ∙ ap (indexed old.now.schema table) same ∙ ap (λ (s : Schema). indexed s table index) has;
      others = subst (λ (s : Schema). AllByRecursion (λ t. new.now.trees t.tree ≡ old.now.trees t.tree) s.tables) has
          (subst (λ (d : Database). AllByRecursion (λ t. d.trees t.tree ≡ old.now.trees t.tree) old.now.schema.tables) (sym now) made.rows);
    }

with_unsure : created first_schema (placeless unsure_table) ≡ stage 4 4
unfolding everything
with_unsure = refl

with_rented : created (stage 4 4) (placeless rented_table) ≡ stage 5 5
unfolding everything
with_rented = refl

with_returned : created (stage 5 5) (placeless returned_table) ≡ stage 6 6
unfolding everything
with_returned = refl

with_index : indexed (stage 6 6) rented_table rented_as ≡ book_schema
unfolding everything
with_index = refl

unsure_tree : next_tree first_schema ≡ 6
unfolding everything
unsure_tree = refl

rented_tree : next_tree (stage 4 4) ≡ 8
unfolding everything
rented_tree = refl

returned_tree : next_tree (stage 5 5) ≡ 10
unfolding everything
returned_tree = refl

pub tables_added : (old one two three new : State) (k l m n : ℕ)
    → ExecutesInside 0 unsure_text [] old one (Ok k) → ExecutesInside 0 rented_text [] one two (Ok l)
    → ExecutesInside 0 returned_text [] two three (Ok m) → ExecutesInside 0 rented_as_text [] three new (Ok n) → AddsTables old new
tables_added old one two three new k l m n first second third fourth has =
    let a = adds first_schema unsure_text old one k (placeless unsure_table) has makes_unsure first.0 in
    let b = adds (stage 4 4) rented_text one two l (placeless rented_table) (a.schema_is ∙ with_unsure) makes_rented second.0 in
    let c = adds (stage 5 5) returned_text two three m (placeless returned_table) (b.schema_is ∙ with_rented) makes_returned third.0 in
    let d = adds_index (stage 6 6) rented_as_text three new n 4 rented_table rented_as (c.schema_is ∙ with_returned) makes_rented_as fourth.0 in
    let entries : new.now.trees 0 ≡ old.now.trees 0 = d.others.0 ∙ c.others.0 ∙ b.others.0 ∙ a.others.0 in
    let replies : new.now.trees 2 ≡ old.now.trees 2 = d.others.1.0 ∙ c.others.1.0 ∙ b.others.1.0 ∙ a.others.1.0 in
    let settled : new.now.trees 4 ≡ old.now.trees 4 = d.others.1.1.0 ∙ c.others.1.1.0 ∙ b.others.1.1.0 ∙ a.others.1.1.0 in
    let unsure : new.now.trees 6 ≡ [] =
    d.others.1.1.1.0 ∙ c.others.1.1.1.0 ∙ b.others.1.1.1.0 ∙ subst (λ (tree : ℕ). one.now.trees tree ≡ []) unsure_tree a.empty in
    let rented : new.now.trees 8 ≡ [] = d.others.1.1.1.1.0 ∙ c.others.1.1.1.1.0 ∙ subst (λ (tree : ℕ). two.now.trees tree ≡ []) rented_tree b.empty in
    let returned : new.now.trees 10 ≡ [] = d.others.1.1.1.1.1.0 ∙ subst (λ (tree : ℕ). three.now.trees tree ≡ []) returned_tree c.empty in
    record {
      schema_is = d.schema_is ∙ with_index;
      keyed = λ keyed. (
        shaped entries keyed.0,
        (shaped replies keyed.1.0, (shaped settled keyed.1.1.0, (none_shaped unsure, (none_shaped rented, (none_shaped returned, tt))))),
      );
      entries = entries;
      replies = replies;
      settled = settled;
      unsure = unsure;
      rented = rented;
      returned = returned;
    }
  where
    shaped : {a b : List sql.Row} → a ≡ b → IsShaped TableShape b → IsShaped TableShape a
    shaped same is = subst (IsShaped TableShape) (sym same) is

    none_shaped : {a : List sql.Row} → a ≡ [] → IsShaped TableShape a
    none_shaped none = subst (IsShaped TableShape) (sym none) (tt, tt)

-- how the journal's tables were made alone
abbrev pub first_texts : List (List ℕ)
first_texts = entry_text ∷ reply_text ∷ settled_text ∷ []

pub make_first : MakeAll first_schema no_schema first_texts
unfolding everything
make_first = makes_one first_schema no_schema entry_text (reply_text ∷ settled_text ∷ []) (placeless entry_table) makes_entry
    (makes_one first_schema (stage 1 1) reply_text (settled_text ∷ []) (placeless reply_table) makes_reply
    (makes_one first_schema (stage 2 2) settled_text [] (placeless settled_table) makes_settled refl))

-- ---- settlements in the order of the entries

all_inserted : {A : Type 0} (P : ℕ × A → Type 0) (x : ℕ × A) (xs : List (ℕ × A)) → P x → AllByRecursion P xs → AllByRecursion P (insert_sorted (by number) x xs)
all_inserted P x [] here all = (here, tt)
all_inserted P x (y ∷ xs) here all = go (is_gt (by number x y)) (all_inserted P x xs here all.1)
  where
    go : (b : Bool) → AllByRecursion P (insert_sorted (by number) x xs) → AllByRecursion P (cond b (y ∷ insert_sorted (by number) x xs) (x ∷ y ∷ xs))
    go true rest = (all.0, rest)
    go false rest = (here, all)

differ_inserted : {A : Type 0} (x : ℕ × A) (xs : List (ℕ × A)) → AllByRecursion (λ (y : ℕ × A). x.0 ≢ y.0) xs
    → Differ number xs → Differ number (insert_sorted (by number) x xs)
differ_inserted x [] none apart = (tt, tt)
differ_inserted {A = A} x (y ∷ xs) none apart = go (is_gt (by number x y)) (differ_inserted x xs none.1 apart.1)
  where
    go : (b : Bool) → Differ number (insert_sorted (by number) x xs) → Differ number (cond b (y ∷ insert_sorted (by number) x xs) (x ∷ y ∷ xs))
    go true rest = (all_inserted (λ (z : ℕ × A). y.0 ≢ z.0) x xs (λ e. none.0 (sym e)) apart.0, rest)
    go false rest = (none, apart)

same_items : (settled : List (ℕ × Answer)) → IsPermutation settled (in_order settled)
same_items settled = IsPermutation-sym _ _ (IsPermutation-sort_by (by number) (number_total number) settled)

differ_in_order : (settled : List (ℕ × Answer)) → Differ number settled → Differ number (in_order settled)
differ_in_order [] apart = tt
differ_in_order (x ∷ xs) apart =
    differ_inserted x (in_order xs) (all-permutation (λ (y : ℕ × Answer). x.0 ≢ y.0) xs (in_order xs) (same_items xs) apart.0) (differ_in_order xs apart.1)

-- the tables beside the journal don't tell in which order the settlements came
as_it_came : (trees : Trees) (it : Journal) → Differ number it.settled
    → AreMarked trees (journal_of it.entries it.replies (in_order it.settled)) → AreMarked trees it
as_it_came trees it once s = record {
  is = record {
    once = once;
    refused =
        test_from_all (λ (x : ℕ × Answer). is_refused it.replies x.0) it.settled
        (all-permutation (λ (x : ℕ × Answer). is_refused it.replies x.0 ≡ true) (in_order it.settled) it.settled (IsPermutation-sym _ _ (same_items it.settled))
        (all_from_test (λ (x : ℕ × Answer). is_refused it.replies x.0) (in_order it.settled) s.is.refused));
    answered = s.is.answered;
  };
  unsure = subst (λ (l : List ℕ). HasRows 1 (trees 6) (map unsure_columns l)) same_unsure s.unsure;
  rented = λ commands say.
      subst (λ (l : List Rented). HasRows 4 (trees 8) (map rented_columns l))
      (alike_settled rents_told rents_silent commands it.replies (in_order it.settled) it.settled (λ n. accepted_in_order n it.settled once))
      (s.rented commands say);
  returned = λ commands say.
      subst (λ (l : List Returned). HasRows 2 (trees 10) (map returned_columns l))
      (alike_settled returns_told returns_silent commands it.replies (in_order it.settled) it.settled (λ n. accepted_in_order n it.settled once))
      (s.returned commands say);
}
  where
    free : (n : ℕ) → is_unsettled (in_order it.settled) n ≡ is_unsettled it.settled n
    free n = ap not (sym (list_any-IsPermutation (λ (x : ℕ × Answer). x.0 == n) it.settled (in_order it.settled) (same_items it.settled)))

    same_unsure : unsure_of (journal_of it.entries it.replies (in_order it.settled)) ≡ unsure_of it
    same_unsure =
        ap (map (λ (x : ℕ × Answer). x.0))
        (filter_same (λ (x : ℕ × Answer). is_unsure x.1 && is_unsettled (in_order it.settled) x.0)
        (λ (x : ℕ × Answer). is_unsure x.1 && is_unsettled it.settled x.0)
        (λ x. ap (λ (b : Bool). is_unsure x.1 && b) (free x.0)) (numbered it.replies))

-- ---- all of it

none_in : (width : ℕ) {tree : List sql.Row} → tree ≡ [] → HasRows width tree []
none_in width none = subst (λ (es : List sql.Row). HasRows width es []) (sym none) (IsPermutation-refl [])

nothing_marked : (trees : Trees) (it : Journal) (entries : List (List ℕ)) → IsBare trees it → AreMarked trees (journal_of entries [] [])
nothing_marked trees it entries bare = record {
  is = record { once = tt; refused = refl; answered = omega arith };
  unsure = none_in 1 bare.unsure;
  rented = λ commands say.
      subst (λ (l : List Rented). HasRows 4 (trees 8) (map rented_columns l)) (sym (none_told rents_told rents_silent commands)) (none_in 4 bare.rented);
  returned = λ commands say.
      subst (λ (l : List Returned). HasRows 2 (trees 10) (map returned_columns l))
      (sym (none_told returns_told returns_silent commands)) (none_in 2 bare.returned);
}

moved : (width : ℕ) {old new : List sql.Row} (rows : List sql.Row) → new ≡ old → HasRows width old rows → HasRows width new rows
moved width rows same has = subst (λ (tree : List sql.Row). HasRows width tree rows) (sym same) has

pub fills : (rows : BookRows) (entries : List (List ℕ)) (replies : List Answer) (settled : List (ℕ × Answer)) (old one two three new : State)
    → entries ≡ rows.entries → replies ≡ rows.replies → settled ≡ rows.settled → AddsTables old one → FindsBare (IsReadOf rows) one two
    → MarksReplies entries replies two three → MarksSettlements entries replies settled three new → Fills old new
fills rows entries replies settled old one two three new es rs ss adds finds plays settlements it holds =
    let tables = adds holds.schema_is in
    let w = holds.stands in
    let bare : HoldsBare one it = record {
      schema_is = tables.schema_is;
      keyed = tables.keyed holds.keyed;
      stands = record {
        written = record {
          entries = moved 2 _ tables.entries w.entries;
          replies = moved 3 _ tables.replies w.replies;
          settled = moved 3 _ tables.settled w.settled;
          once = w.once;
        };
        unsure = tables.unsure;
        rented = tables.rented;
        returned = tables.returned;
      };
    } in
    let found = finds it bare in
    let s = found.0.stands in
    let apart : Differ number settled = subst (Differ number) (sym (ss ∙ found.1.settled)) (differ_in_order it.settled s.written.once) in
    let first = plays found.0.schema_is found.0.keyed in
    let second = settlements apart first.schema_is first.keyed in
    let played : AreMarked new.now.trees (journal_of entries replies settled) = second.marked (first.marked (nothing_marked two.now.trees it entries s)) in
    let ends : AreMarked new.now.trees it =
    as_it_came new.now.trees it s.written.once
    (subst (AreMarked new.now.trees) (λ i. journal_of ((es ∙ found.1.entries) i) ((rs ∙ found.1.replies) i) ((ss ∙ found.1.settled) i)) played) in
    record {
      schema_is = second.schema_is;
      keyed = second.keyed;
      stands = record {
        entries = moved 2 _ (second.entries ∙ first.entries) s.written.entries;
        replies = moved 3 _ (second.replies ∙ first.replies) s.written.replies;
        settled = moved 3 _ (second.settled ∙ first.settled) s.written.settled;
        is = ends.is;
        unsure = ends.unsure;
        rented = ends.rented;
        returned = ends.returned;
      };
    }
