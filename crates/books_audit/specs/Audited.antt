-- What an audit of custody says of any rows.
use Rattle.std.specs.Prelude.{◌≡◌, ◌↔◌, ◌+◌, List, map, IsTrue, IsPermutation}
use Rattle.std.specs.List.{AllByRecursion}
use Rattle.sqlite_value.specs.Order as sql
use Rattle.shop_model.specs.Rows.{Row}
use Rattle.shop_model.specs.Values.{Here, Scrapped}
use Rattle.shop_model.specs.Books.{BookCopy, Line, UnderWay, Missing}
use Rattle.shop_model.specs.Sound.{rows_made, rows_in, lines_in}
use Rattle.shop_schema.specs.RowValues.{IsRow, IsCopy, copy_columns}
use Rattle.audit_rows.specs.Joins.{Placed}
use Rattle.audit_rows.specs.Marked.{AreInCustody, any_mark}
use Rattle.books_audit.specs.Columns.{placed_columns, IsPlaced}
use Rattle.shop_types.specs.declared.audit.Audit.{Audit}

-- the rows stand for these copies and lines, in any order
pub record StandFor (copy_rows line_rows : List sql.Row) (copies : List (Row BookCopy)) (lines : List Placed) : Type 0 where
  pub copies_are : IsPermutation copy_rows (map copy_columns copies)
  pub copy_values : AllByRecursion (IsRow IsCopy) copies
  pub lines_are : IsPermutation line_rows (map placed_columns lines)
  pub line_values : AllByRecursion IsPlaced lines

abbrev pub lines_of : List Placed → List Line
lines_of placed = map (λ p. p.line) placed

-- how many marks were made, and how many places they have
pub record CountsCustody (audit : Audit) (copies : List (Row BookCopy)) (lines : List Line) : Type 0 where
  pub made : audit.made ≡ rows_made any_mark copies
  pub here : audit.here ≡ rows_in Here any_mark copies
  pub transit : audit.transit ≡ lines_in UnderWay any_mark lines
  pub gone : audit.gone ≡ rows_in Scrapped any_mark copies + lines_in Missing any_mark lines

pub record CountsNothing (audit : Audit) : Type 0 where
  pub made : audit.made ≡ 0
  pub here : audit.here ≡ 0
  pub transit : audit.transit ≡ 0
  pub gone : audit.gone ≡ 0

abbrev pub Stand : List sql.Row → List sql.Row → Type 0
Stand copy_rows line_rows = (copies : List (Row BookCopy)) × (lines : List Placed) × StandFor copy_rows line_rows copies lines

-- The audit of rows. If some row is no copy's or no line's, nothing is sound and nothing is counted.
pub record IsCustodyAudit (copy_rows line_rows : List sql.Row) (audit : Audit) : Type 0 where
  pub sound : IsTrue audit.sound
      ↔ ((copies : List (Row BookCopy)) × (lines : List Placed) × StandFor copy_rows line_rows copies lines × AreInCustody copies (lines_of lines))
  pub counts : (copies : List (Row BookCopy)) (lines : List Placed) → StandFor copy_rows line_rows copies lines → CountsCustody audit copies (lines_of lines)
  pub nothing : ¬ Stand copy_rows line_rows → CountsNothing audit

-- the same for copies and lines that are known
pub record AuditsRows (audit : Audit) (copies : List (Row BookCopy)) (lines : List Line) : Type 0 where
  pub sound : IsTrue audit.sound ↔ AreInCustody copies lines
  pub counts : CountsCustody audit copies lines
