-- One canonical set of books decides an audit.
use Rattle.shop_schema.proofs.Common.{◌≡◌, ◌↔◌, ◌+◌, ℕ, List, [], ◌∷◌, map, refl, sym, ap, subst, ◌∙◌, IsTrue, true≢false, IsPermutation, flat_map}
use Rattle.shop_schema.proofs.Common.{IsPermutation-refl, IsPermutation-sym, map-map, map-flat_map, flat_map_same_on, IsPermutation-flat_map, numbered_from}
use Rattle.shop_schema.proofs.Common.{Rules, Books, CopyRows, Line, Consignment, IsSound, widest, all_lines, Audit}
use Rattle.audit_rows.proofs.Transfer.{stays_sound}
use Rattle.books_audit.specs.declared.tables.TableRows.{TableRows}
use Rattle.books_audit.specs.Audits.{StandsForBooks, AreInOrder, Counts, IsAuditOf}
use Rattle.books_audit.specs.Read.{HaveCounts, AuditsOrdered}
use Rattle.books_audit.specs.ReadInOrder.{AreReadInOrder}
use Rattle.books_audit.proofs.SameCanon.{one_canon}
use Rattle.books_audit.proofs.Canonical.{by_place, same_by_place}
use Rattle.books_audit.proofs.CanonCounts.{counts_in_rows}
use Rattle.books_audit.proofs.CustodyAudits.{nothing, counts_moved}
use Rattle.books_audit.proofs.Exhibited.{canonical, consignments_are, stands, have_rows, order as in_order_of}
use Rattle.audit_rows.specs.Joins.{Header, Placed, header, placed, put_line}
use Rattle.audit_rows.specs.Seen.{seen_copy, seen_line, seen_header, seen_placed}
use Rattle.audit_rows.specs.Ordered.{HaveOrderedRows}
use Rattle.audit_rows.specs.declared.books.OrderedBooks.{OrderedBooks}
use Rattle.audit_rows.proofs.JoinLemmas.{join_sound}
use Rattle.audit_rows.proofs.OrderedLemmas.{copies_seen}
use Rattle.books_audit.specs.Audited.{CountsCustody}

module _ (tables : TableRows) (c : Books) (stands : StandsForBooks tables c) (order : AreInOrder c) where
  same_counts : (audit : Audit) → Counts audit c → (b : Books) → StandsForBooks tables b → Counts audit b
  same_counts audit k b t =
      let canon = one_canon tables c b stands.without_counts t.without_counts order in
      counts_moved audit b.copies c.copies (all_lines b) (all_lines c) (canon.rows CopyRows)
      (IsPermutation-flat_map (λ (it : Consignment). it.lines) b.consignments c.consignments canon.consignments) k

  -- if the tables stand for canonical books, an audit says what holds of the books
  pub audit_by : (audit : Audit) → ((rules : Rules) → IsTrue audit.sound ↔ IsSound (widest rules) c) → Counts audit c → IsAuditOf tables audit
  audit_by audit is k = record {
    sound = λ rules. (
      λ h. (c, stands, (is rules).0 h),
      λ it. (is rules).1 (stays_sound c it.0 (one_canon tables c it.0 stands.without_counts it.1.without_counts order) (widest rules) it.2),
    );
    counts = same_counts audit k;
    nothing = λ none. absurd (none (c, stands));
  }

-- tables that stand for nothing
pub none_stand : (tables : TableRows) → ¬ ((books : Books) × StandsForBooks tables books) → IsAuditOf tables nothing
none_stand tables empty = record {
  sound = λ rules. (λ h. absurd (true≢false (sym h)), λ it. absurd (empty (it.0, it.1)));
  counts = λ books t. absurd (empty (books, t));
  nothing = λ _. record { made = refl; here = refl; transit = refl; gone = refl };
}

-- ---- from rows in order

module _ (tables : TableRows) (rows : OrderedBooks) (read : AreReadInOrder tables rows) (have : HaveCounts tables rows) where
  abbrev c : Books
  c = canonical tables rows read

  abbrev has : HaveOrderedRows rows c
  has = have_rows tables rows read

  lines_are : IsPermutation (map seen_line rows.lines.items) (all_lines c)
  lines_are =
      let placed_list = (join_sound (map seen_header rows.headers.items) (map seen_placed rows.lines.items) read.joined.0 read.joined.1).1 in
      let seen : map (λ (p : Placed). p.line) (flat_map placed read.joined.0) ≡ map seen_line rows.lines.items =
      ap (map (λ (p : Placed). p.line)) placed_list ∙ map-map (λ (p : Placed). p.line) seen_placed rows.lines.items in
      let alone : map (λ (p : Placed). p.line) (flat_map placed read.joined.0) ≡ flat_map (λ (it : Consignment). it.lines) read.joined.0 =
      map-flat_map (λ (p : Placed). p.line) placed read.joined.0 ∙ flat_map_same_on _ _ (λ it. lines_alone (header it) 1 it.lines) read.joined.0 in
      subst (λ its. IsPermutation (map seen_line rows.lines.items) (flat_map (λ (it : Consignment). it.lines) its)) (sym (consignments_are tables rows read))
      (subst (λ l. IsPermutation l (flat_map (λ (it : Consignment). it.lines) (by_place read.joined.0)))
      (sym alone ∙ seen) (IsPermutation-flat_map (λ (it : Consignment). it.lines) _ _ (same_by_place read.joined.0)))
    where
      lines_alone : (h : Header) (k : ℕ) (ls : List Line) → map (λ (p : Placed). p.line) (map (put_line h) (numbered_from k ls)) ≡ ls
      lines_alone h k [] = refl
      lines_alone h k (l ∷ ls) = λ i. l ∷ lines_alone h (k + 1) ls i

  all_stand : StandsForBooks tables c
  all_stand = record { without_counts = stands tables rows read; counts = counts_in_rows tables rows c has have }

  counted : (audit : Audit) → CountsCustody audit (map seen_copy rows.copies.items) (map seen_line rows.lines.items) → Counts audit c
  counted audit =
      counts_moved audit c.copies (map seen_copy rows.copies.items) (all_lines c) (map seen_line rows.lines.items)
      (subst (IsPermutation c.copies) (copies_seen rows c has) (IsPermutation-refl c.copies)) (IsPermutation-sym _ _ lines_are)

  pub audit_of_rows : (audit : Audit) → AuditsOrdered rows audit → IsAuditOf tables audit
  audit_of_rows audit a =
      audit_by tables c all_stand (in_order_of tables rows read) audit (λ rules. a.sound rules c has) (counted audit a.counts)
