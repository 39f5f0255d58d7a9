-- Kept commands, each with its caller, and what is kept of their rows.
use Rattle.std.specs.Prelude.{◌≡◌, ◌≢◌, ℕ, List}
use Rattle.shop_model.specs.Rows.{Owned}
use Rattle.shop_model.specs.Shop.{Kept, OfficeKept}
use Rattle.shop_schema.specs.Forms.{kept_columns, office_kept_columns, IsKept, IsOfficeKept}
use Rattle.books_audit.specs.Forms.{IsCommandForm, IsOfficeForm}
use Rattle.books_audit.specs.Listed.{FullOf}
use Rattle.books_audit.specs.declared.kept_rows.CallerRow.{CallerRow}
use Rattle.sqlite_value.specs.Order as sql

pub data AnyKept : Type 0 where
  OfBranch : Owned Kept → AnyKept
  OfOffice : OfficeKept → AnyKept

abbrev pub any_columns : AnyKept → sql.Row
any_columns (OfBranch row) = kept_columns row
any_columns (OfOffice it) = office_kept_columns it

abbrev pub AnyFits : AnyKept → Type 0
AnyFits (OfBranch row) = IsKept row
AnyFits (OfOffice it) = IsOfficeKept it

abbrev pub caller_row : AnyKept → CallerRow
caller_row (OfBranch row) = record { caller = row.owner; key = row.it.command.key }
caller_row (OfOffice it) = record { caller = 0; key = it.command.key }

abbrev pub IsCallerRow : CallerRow → sql.Row → Type 0
IsCallerRow = FullOf any_columns AnyFits caller_row

-- if the caller is 0, the bytes are the form of a command of head office; otherwise they are the form of a branch's command
pub record HasForm (caller : ℕ) (form : List ℕ) : Type 0 where
  pub office : caller ≡ 0 → IsOfficeForm form
  pub branch : caller ≢ 0 → IsCommandForm form
