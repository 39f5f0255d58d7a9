-- The tables of counts are the same for rows in order and for the books that have the rows.
-- They are the same for all other books for which the tables stand.
use Rattle.shop_schema.proofs.Common.{◌≡◌, ◌==◌, ℕ, List, [], ◌∷◌, map, filter, length, sym, ap, subst, ◌∙◌, Bool, IsPermutation, flat_map, flat_map_same_on}
use Rattle.shop_schema.proofs.Common.{IsPermutation-map, IsPermutation-sym, IsPermutation-trans, length_permutation, IsPermutation-filter, Row, Owned, is_of}
use Rattle.shop_schema.proofs.Common.{numbered, Branch, Customer, Rental, Terms, Payment, Kept, Books, BookCopy, Customers, CopyRows, Rentals, TermRows}
use Rattle.shop_schema.proofs.Common.{Payments, counter_columns, out_columns, pair_columns, Count, branch_counts, counts_of, is_open, out_of}
use Rattle.audit_rows.specs.Canons.{IsCanonOf, office_key, row_key}
use Rattle.audit_rows.specs.Ordered.{AreOrdered, HaveOrderedRows}
use Rattle.audit_rows.specs.declared.books.OrderedBooks.{OrderedBooks}
use Rattle.audit_rows.proofs.Maps.{length-map}
use Rattle.books_audit.specs.Audits.{HaveCountsOf, StandsForBooks}
use Rattle.books_audit.specs.Read.{HaveCounts}
use Rattle.books_audit.specs.ReadInOrder.{AreReadInOrder}
use Rattle.books_audit.specs.declared.tables.TableRows.{TableRows}
use Rattle.books_audit.specs.declared.tables.TheConstants.{COUNTERS, OUTS}
use Rattle.books_audit.specs.Tables.{rows_in}
use Rattle.books_audit.proofs.InOrder.{are_ordered}
use Rattle.books_audit.proofs.CountRows.{counters_same, outs_same, pairs_same}
use Rattle.books_audit.proofs.PairLemmas.{pairs_along}
use Rattle.books_audit.proofs.SameCanon.{one_canon}
use Rattle.books_audit.proofs.TermKeys.{termed_in_books, termed_in_rows}
use Rattle.books_audit.proofs.Exhibited.{canonical, stands, have_rows, order as in_order_of}

-- ---- rows in order, and the books that have them

module _ (tables : TableRows) (rows : OrderedBooks) (c : Books) (has : HaveOrderedRows rows c) where
  pub counts_in_rows : HaveCounts tables rows → HaveCountsOf tables c
  counts_in_rows h = record {
    counters = subst (λ l. IsPermutation (rows_in tables COUNTERS) (map counter_columns l)) (sym (counters_same rows c has)) h.counters;
    outs = subst (λ l. IsPermutation (rows_in tables OUTS) (map out_columns l)) (sym (outs_same rows c has)) h.outs;
    pairs = IsPermutation-trans _ _ _ h.pairs (IsPermutation-map pair_columns _ _ (pairs_same rows c has));
    terms = termed_in_books rows c has h.terms;
  }

  rows_have_counts : AreOrdered rows → HaveCountsOf tables c → HaveCounts tables rows
  rows_have_counts ordered h = record {
    counters = subst (λ l. IsPermutation (rows_in tables COUNTERS) (map counter_columns l)) (counters_same rows c has) h.counters;
    outs = subst (λ l. IsPermutation (rows_in tables OUTS) (map out_columns l)) (outs_same rows c has) h.outs;
    pairs = IsPermutation-trans _ _ _ h.pairs (IsPermutation-sym _ _ (IsPermutation-map pair_columns _ _ (pairs_same rows c has)));
    terms = termed_in_rows rows c has ordered h.terms;
  }

-- ---- books, and the same in the order of their keys

same_many : {X A : Type 0} (g : X → A) (p : X → Bool) (xs ys : List X) → IsPermutation xs ys → length (map g (filter p ys)) ≡ length (map g (filter p xs))
same_many g p xs ys h = length_permutation _ _ (IsPermutation-map g _ _ (IsPermutation-filter p xs ys h))

module _ (c b : Books) (canon : IsCanonOf c b) where
  one_branch : (it : ℕ × Branch) → branch_counts c it ≡ branch_counts b it
  one_branch it = λ i.
      record { caller = it.0; kind = 0; last = same_many (λ (row : Row Customer). row.it) (is_of it.0) b.customers c.customers (canon.rows Customers) i }
      ∷ record { caller = it.0; kind = 1; last = same_many (λ (row : Row BookCopy). row.it) (is_of it.0) b.copies c.copies (canon.rows CopyRows) i }
      ∷ record { caller = it.0; kind = 2; last = same_many (λ (row : Row Rental). row.it) (is_of it.0) b.rentals c.rentals (canon.rows Rentals) i }
      ∷ record { caller = it.0; kind = 3; last = same_many (λ (row : Row Payment). row.it) (is_of it.0) b.payments c.payments (canon.rows Payments) i }
      ∷ record { caller = it.0; kind = 4; last = same_many (λ (row : Owned Kept). row.it) (λ row. row.owner == it.0) b.kept c.kept canon.kept i }
      ∷ []

  office_many : length c.catalogue.kept ≡ length b.catalogue.kept
  office_many = sym (length-map office_key c.catalogue.kept) ∙ length_permutation _ _ canon.office_kept ∙ length-map office_key b.catalogue.kept

  counters : (counts_of c).counters ≡ (counts_of b).counters
  counters = λ i.
      record { caller = 0; kind = 4; last = office_many i }
      ∷ (flat_map_same_on (branch_counts c) (branch_counts b) one_branch (numbered c.catalogue.branches)
      ∙ ap (λ bs. flat_map (branch_counts b) (numbered bs)) (λ j. (canon.shared j).branches))
      i

  outs : IsPermutation (counts_of b).outs (counts_of c).outs
  outs = IsPermutation-map out_of _ _ (IsPermutation-filter is_open b.rentals c.rentals (canon.rows Rentals))

  counts_move : (tables : TableRows) → HaveCountsOf tables b → HaveCountsOf tables c
  counts_move tables h = record {
    counters = subst (λ (l : List Count). IsPermutation (rows_in tables COUNTERS) (map counter_columns l)) (sym counters) h.counters;
    outs = IsPermutation-trans _ _ _ h.outs (IsPermutation-map out_columns _ _ outs);
    pairs = IsPermutation-trans _ _ _ h.pairs (IsPermutation-map pair_columns _ _ (pairs_along b.consignments c.consignments canon.consignments));
    terms =
        IsPermutation-trans _ _ _ (IsPermutation-sym _ _ (IsPermutation-map (row_key {A = Terms}) _ _ (canon.rows TermRows)))
        (IsPermutation-trans _ _ _ h.terms (IsPermutation-map (row_key {A = Rental}) _ _ (canon.rows Rentals)));
  }

-- what tables that stand for any books say of the counts is what the rows have
pub must_have_counts : (tables : TableRows) (rows : OrderedBooks) → AreReadInOrder tables rows → (b : Books) → StandsForBooks tables b → HaveCounts tables rows
must_have_counts tables rows read b t =
    let c = canonical tables rows read in
    let canon = one_canon tables c b (stands tables rows read) t.without_counts (in_order_of tables rows read) in
    rows_have_counts tables rows c (have_rows tables rows read) (are_ordered tables rows read) (counts_move c b canon tables t.counts)
