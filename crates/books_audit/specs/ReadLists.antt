-- What is read of a table's rows in order, and what the table must be for that. Every table that stands for books is so.
use Rattle.std.specs.Prelude.{◌≡◌, ◌<◌, ◌^◌, ℕ, List, map, length, true, IsPermutation}
use Rattle.std.specs.List.{AllByRecursion}
use Rattle.std.specs.List.Sorted.{IsSortedByKey}
use Rattle.std.specs.Ordering.{nat_cmp}
use Rattle.std.specs.Str.{bytes_eq}
use Rattle.sqlite_value.specs.Order as sql
use Rattle.shop_model.specs.Links.{are_different}
use Rattle.shop_model.specs.Rows.{IsCounted}
use Rattle.audit_rows.specs.Lists.{Key, climbs}
use Rattle.books_audit.specs.Listed.{AreRows, IsListed}

-- what was kept of a table's rows, in another order
pub record RowsRead {X : Type 0} (Is : X → sql.Row → Type 0) (table : List sql.Row) (kept : List X) : Type 0 where
  pub found : List X
  pub are_rows : AreRows Is found table
  pub same : IsPermutation found kept

-- there is one row, and it is one of the table
pub record IsSingle {X : Type 0} (Is : X → sql.Row → Type 0) (table : List sql.Row) : Type 0 where
  pub ones : AllByRecursion (IsListed Is) table
  pub one : length table ≡ 1

-- what was kept of a table's rows, in the order of their keys; no two keys are the same
pub record KeyedRead {X : Type 0} (Is : X → sql.Row → Type 0) (key : X → Key) (table : List sql.Row) (kept : List X) : Type 0 where
  pub rows : RowsRead Is table kept
  pub climb : climbs (map key kept) ≡ true

-- each row is one of the table, and no two have one key
pub record AreKeyed {X : Type 0} (Is : X → sql.Row → Type 0) (key : X → Key) (table : List sql.Row) : Type 0 where
  pub ones : AllByRecursion (IsListed Is) table
  pub different : (found : List X) → AreRows Is found table → are_different (λ a b. bytes_eq (key a) (key b)) found ≡ true

-- each row is one of the table, and their numbers are 1, 2, ..
pub record AreInPlaces {X : Type 0} (Is : X → sql.Row → Type 0) (number : X → ℕ) (table : List sql.Row) : Type 0 where
  pub ones : AllByRecursion (IsListed Is) table
  pub few : length table < 2 ^ 32
  pub counted : (found sorted : List X) → AreRows Is found table → IsPermutation found sorted
      → IsSortedByKey number nat_cmp sorted → IsCounted 1 (map number sorted)

-- what was read of rows that are numbered 1, 2, .., in the order of their numbers, without the numbers
pub record PlacesRead {X S : Type 0} (Is : X → sql.Row → Type 0) (number : X → ℕ) (keep : X → S) (table : List sql.Row) (kept : List S) : Type 0 where
  pub found : List X
  pub are_rows : AreRows Is found table
  pub few : length table < 2 ^ 32
  pub sorted : List X
  pub same : IsPermutation found sorted
  pub counted : IsCounted 1 (map number sorted)
  pub keeps : map keep sorted ≡ kept
