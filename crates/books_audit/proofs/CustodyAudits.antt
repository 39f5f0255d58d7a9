-- What was read of rows is all that they stand for.
use Rattle.std.proofs.Common.{IfOk}
use Rattle.shop_schema.proofs.Common.{◌≡◌, ◌&&◌, ◌+◌, List, map, false, refl, sym, subst, ◌∙◌, true≢false, IsPermutation, Result, Ok, Err, AllByRecursion}
use Rattle.shop_schema.proofs.Common.{IsPermutation-map, IsPermutation-refl, IsPermutation-trans, IsPermutation-sym, map-map, Row, Here, Scrapped, BookCopy}
use Rattle.shop_schema.proofs.Common.{CopyRows, Line, UnderWay, Missing, one, is_origin, copy_is, line_is, copy_columns, IsRow, IsCopy, Audit}
use Rattle.sqlite_value.specs.Order as sql
use Rattle.shop_schema.proofs.OneRow.{same_row}
use Rattle.shop_schema.proofs.ShopTables as table
use Rattle.audit_rows.specs.Joins.{Placed}
use Rattle.audit_rows.specs.declared.rows.CheckedLine.{CheckedLine}
use Rattle.audit_rows.specs.Marked.{AreInCustody, any_mark}
use Rattle.audit_rows.specs.Seen.{seen_copy, seen_placed, seen_line}
use Rattle.audit_rows.proofs.CustodyLemmas.{custody_moved}
use Rattle.audit_rows.proofs.Standing.{same_rows}
use Rattle.audit_rows.proofs.Transfer.{total_along}
use Rattle.books_audit.specs.AuditTables as audited
use Rattle.books_audit.specs.Columns.{placed_columns, IsPlaced}
use Rattle.books_audit.specs.Listed.{AreRows, IsListed}
use Rattle.books_audit.specs.Rows.{placed_row, IsLineRow}
use Rattle.books_audit.specs.BranchTables.{IsKeptRow}
use Rattle.audit_rows.specs.States.{line_state_again}
use Rattle.audit_rows.specs.Tables.{CheckedOf, checked_row}
use Rattle.audit_rows.proofs.OrderedLemmas.{copy_again}
use Rattle.books_audit.specs.Audited.{StandFor, Stand, lines_of, CountsCustody, IsCustodyAudit, AuditsRows}
use Rattle.books_audit.proofs.FullLists.{fulls, seen_all, ones}

-- ---- what is kept of a line determines the line

pub placed_again : (p : Placed) → seen_placed (placed_row p) ≡ p
placed_again p = λ i. record p { line = record p.line { state = line_state_again p.line.state i } }

abbrev pub nothing : Audit
nothing = record { sound = false; made = 0; here = 0; transit = 0; gone = 0 }

-- copies and lines in another order count the same
pub counts_moved : (audit : Audit) (cs ds : List (Row BookCopy)) (ls ms : List Line)
    → IsPermutation cs ds → IsPermutation ls ms → CountsCustody audit ds ms → CountsCustody audit cs ls
counts_moved audit cs ds ls ms a b k = record {
  made = k.made ∙ sym (total_along (λ (row : Row BookCopy). one (is_origin row && any_mark row.it.mark)) cs ds a);
  here = k.here ∙ sym (total_along (λ (row : Row BookCopy). one (copy_is row.it.state Here && any_mark row.it.mark)) cs ds a);
  transit = k.transit ∙ sym (total_along (λ (it : Line). one (line_is it.state UnderWay && any_mark it.mark)) ls ms b);
  gone =
      k.gone
      ∙ (λ i.
      sym (total_along (λ (row : Row BookCopy). one (copy_is row.it.state Scrapped && any_mark row.it.mark)) cs ds a) i
      + sym (total_along (λ (it : Line). one (line_is it.state Missing && any_mark it.mark)) ls ms b) i);
}

module _ (copy_rows line_rows : List sql.Row) where
  -- if rows can't be read, they stand for nothing
  pub nothing_stands : ¬ Stand copy_rows line_rows → IsCustodyAudit copy_rows line_rows nothing
  nothing_stands empty = record {
    sound = (λ h. absurd (true≢false (sym h)), λ it. absurd (empty (it.0, it.1, it.2)));
    counts = λ copies lines h. absurd (empty (copies, lines, h));
    nothing = λ _. record { made = refl; here = refl; transit = refl; gone = refl };
  }

  pub no_copies : ¬ AllByRecursion (IsListed (IsKeptRow CopyRows)) copy_rows → ¬ Stand copy_rows line_rows
  no_copies none (copies, lines, h) = none (ones copy_columns (IsRow IsCopy) (checked_row CopyRows) copies copy_rows h.copy_values h.copies_are)

  pub no_lines : ¬ AllByRecursion (IsListed IsLineRow) line_rows → ¬ Stand copy_rows line_rows
  no_lines none (copies, lines, h) = none (ones placed_columns IsPlaced placed_row lines line_rows h.line_values h.lines_are)

  module _ (xs : List (CheckedOf CopyRows)) (ys : List CheckedLine) (p : AreRows (IsKeptRow CopyRows) xs copy_rows) (q : AreRows IsLineRow ys line_rows) where
    abbrev copies : List (Row BookCopy)
    copies = map seen_copy xs

    abbrev placed : List Placed
    placed = map seen_placed ys

    stands : StandFor copy_rows line_rows copies placed
    stands =
        let c = fulls copy_columns (IsRow IsCopy) (checked_row CopyRows) xs xs copy_rows p (IsPermutation-refl xs) in
        let l = fulls placed_columns IsPlaced placed_row ys ys line_rows q (IsPermutation-refl ys) in
        let cs = seen_all seen_copy (checked_row CopyRows) copy_again c.its c.keeps in
        let ls = seen_all seen_placed placed_row placed_again l.its l.keeps in record {
          copies_are = subst (λ k. IsPermutation copy_rows (map copy_columns k)) cs c.has;
          copy_values = subst (AllByRecursion (IsRow IsCopy)) cs c.fit;
          lines_are = subst (λ k. IsPermutation line_rows (map placed_columns k)) ls l.has;
          line_values = subst (AllByRecursion IsPlaced) ls l.fit;
        }

    module _ (others : List (Row BookCopy)) (rest : List Placed) (h : StandFor copy_rows line_rows others rest) where
      same_copies : IsPermutation others copies
      same_copies =
          same_rows copy_columns (IsRow IsCopy) (same_row table.copies) copy_rows others copies h.copy_values stands.copy_values h.copies_are stands.copies_are

      same_lines : IsPermutation (lines_of rest) (map seen_line ys)
      same_lines =
          subst (IsPermutation (lines_of rest)) (map-map (λ (x : Placed). x.line) seen_placed ys)
          (IsPermutation-map (λ (x : Placed). x.line) _ _
          (same_rows placed_columns IsPlaced (same_row audited.lines) line_rows rest placed h.line_values stands.line_values h.lines_are stands.lines_are))

    pub audits_all : (audit : Audit) → AuditsRows audit copies (map seen_line ys) → IsCustodyAudit copy_rows line_rows audit
    audits_all audit a = record {
      sound = (
        λ h. (copies, placed, stands, subst (AreInCustody copies) (sym (map-map (λ (x : Placed). x.line) seen_placed ys)) (a.sound.0 h)),
        λ it. a.sound.1 (custody_moved it.0 copies (lines_of it.1) (map seen_line ys) (same_copies it.0 it.1 it.2) (same_lines it.0 it.1 it.2) it.3),
      );
      counts = λ cs ls h. counts_moved audit cs copies (lines_of ls) (map seen_line ys) (same_copies cs ls h) (same_lines cs ls h) a.counts;
      nothing = λ empty. absurd (empty (copies, placed, stands));
    }

pub if_ok_then : {X E : Type 0} (r : Result X E) {P Q : X → Type 0} → ((x : X) → P x → Q x) → IfOk r P → IfOk r Q
if_ok_then (Ok x) f h = f x h
if_ok_then (Err e) f h = tt

-- rows in another order

module _ (a b c d : List sql.Row) (p : IsPermutation a b) (q : IsPermutation c d) where
  stand_moved : (copies : List (Row BookCopy)) (lines : List Placed) → StandFor a c copies lines → StandFor b d copies lines
  stand_moved cs ls h = record {
    copies_are = IsPermutation-trans _ _ _ (IsPermutation-sym _ _ p) h.copies_are;
    copy_values = h.copy_values;
    lines_are = IsPermutation-trans _ _ _ (IsPermutation-sym _ _ q) h.lines_are;
    line_values = h.line_values;
  }

pub audit_moved : (a b c d : List sql.Row) → IsPermutation a b → IsPermutation c d → (audit : Audit) → IsCustodyAudit b d audit → IsCustodyAudit a c audit
audit_moved a b c d p q audit it =
    let there = stand_moved a b c d p q in
    let back = stand_moved b a d c (IsPermutation-sym _ _ p) (IsPermutation-sym _ _ q) in
    record {
      sound = (
        λ h. let found = it.sound.0 h in (found.0, found.1, back found.0 found.1 found.2, found.3),
        λ h. it.sound.1 (h.0, h.1, there h.0 h.1 h.2, h.3),
      );
      counts = λ copies lines h. it.counts copies lines (there copies lines h);
      nothing = λ none. it.nothing (λ h. none (h.0, h.1, back h.0 h.1 h.2));
    }
