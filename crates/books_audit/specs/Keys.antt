-- What was read of the table of kept commands.
use Rattle.std.specs.Prelude.{◌≡◌, List, ◌∷◌, ◌++◌, map, true, IsPermutation}
use Rattle.std.specs.List.{AllByRecursion}
use Rattle.std.specs.Str.{bytes_eq}
use Rattle.shop_model.specs.Links.{are_different}
use Rattle.shop_schema.specs.RowValues.{IsNumber}
use Rattle.audit_rows.specs.Lists.{Key, climbs}
use Rattle.audit_rows.specs.declared.rows.CheckedKept.{CheckedKept}
use Rattle.books_audit.specs.Listed.{AreRows, IsListed}
use Rattle.books_audit.specs.Kept.{IsCallerRow}
use Rattle.books_audit.specs.declared.kept_rows.CallerRow.{CallerRow}
use Rattle.books_audit.specs.ReadLists.{RowsRead}
use Rattle.books_audit.specs.Tables.{rows_in}
use Rattle.books_audit.specs.declared.tables.TableRows.{TableRows}
use Rattle.books_audit.specs.declared.tables.TheConstants.{KEPT}

-- keys of head office, and then of branches, as one list
abbrev pub office_caller : Key → CallerRow
office_caller key = record { caller = 0; key = key }

abbrev pub branch_caller : CheckedKept → CallerRow
branch_caller row = record { caller = row.branch; key = row.key }

pub record KeptAreRead (tables : TableRows) (office : List Key) (kept : List CheckedKept) : Type 0 where
  pub rows : RowsRead IsCallerRow (rows_in tables KEPT) (map office_caller office ++ map branch_caller kept)
  pub branches : AllByRecursion (λ (x : CheckedKept). IsNumber x.branch) kept
  pub office_climb : climbs office ≡ true
  pub kept_climb : climbs (map (λ (row : CheckedKept). row.branch ∷ row.key) kept) ≡ true

-- each row is a kept command's, and no two of head office, or of a branch, have one key
pub record KeptCanBeRead (tables : TableRows) : Type 0 where
  pub ones : AllByRecursion (IsListed IsCallerRow) (rows_in tables KEPT)
  pub office : (found : List CallerRow) (office : List Key) (kept : List CheckedKept)
      → AreRows IsCallerRow found (rows_in tables KEPT) → AllByRecursion (λ (x : CheckedKept). IsNumber x.branch) kept
      → IsPermutation found (map office_caller office ++ map branch_caller kept) → are_different bytes_eq office ≡ true
  pub kept : (found : List CallerRow) (office : List Key) (kept : List CheckedKept)
      → AreRows IsCallerRow found (rows_in tables KEPT) → AllByRecursion (λ (x : CheckedKept). IsNumber x.branch) kept
      → IsPermutation found (map office_caller office ++ map branch_caller kept)
      → are_different (λ (a b : CheckedKept). bytes_eq (a.branch ∷ a.key) (b.branch ∷ b.key)) kept ≡ true
