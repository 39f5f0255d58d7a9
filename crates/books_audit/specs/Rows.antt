-- What is kept of the rows of each table, except the branches' numbered rows.
use Rattle.std.specs.Prelude.{ℕ, Bool, true, false, Option}
use Rattle.shop_model.specs.Calendar.{Moment}
use Rattle.shop_model.specs.Values.{Text, Branch, Rule, ByCode, ByComment}
use Rattle.shop_schema.specs.RowValues.{IsName, IsToken, IsShared, IsCity, IsActor, IsFilm, IsCast, IsStaff, IsLot, chain_columns, rule_columns, named_columns}
use Rattle.shop_schema.specs.RowValues.{city_columns, actor_columns, film_columns, cast_columns, staff_columns}
use Rattle.shop_schema.specs.RowValues.{lot_columns}
use Rattle.audit_rows.specs.Joins.{Header, Placed}
use Rattle.audit_rows.specs.Ordered.{city_row, film_row, cast_row, branch_row, staff_row, lot_row}
use Rattle.audit_rows.specs.States.{kept_line_state}
use Rattle.audit_rows.specs.declared.rows.CheckedBranch.{CheckedBranch}
use Rattle.audit_rows.specs.declared.rows.CheckedCast.{CheckedCast}
use Rattle.audit_rows.specs.declared.rows.CheckedCity.{CheckedCity}
use Rattle.audit_rows.specs.declared.rows.CheckedFilm.{CheckedFilm}
use Rattle.audit_rows.specs.declared.rows.CheckedStaff.{CheckedStaff}
use Rattle.audit_rows.specs.declared.rows.CheckedLot.{CheckedLot}
use Rattle.audit_rows.specs.declared.rows.CheckedHeader.{CheckedHeader}
use Rattle.audit_rows.specs.declared.rows.CheckedLine.{CheckedLine}
use Rattle.books_audit.specs.Listed.{FullOf}
use Rattle.books_audit.specs.Columns.{told_columns, IsTold, header_columns, IsHeader, placed_columns, IsPlaced}
use Rattle.books_audit.specs.declared.shared.ChainRow.{ChainRow}
use Rattle.books_audit.specs.declared.shared.RuleRow.{RuleRow}
use Rattle.books_audit.specs.declared.shared.SharedRow.{SharedRow}
use Rattle.sqlite_value.specs.Order as sql

-- ---- shared rows

abbrev pub chain_row : Text → ChainRow
chain_row token = record { office_token = token }

abbrev pub IsChainRow : ChainRow → sql.Row → Type 0
IsChainRow = FullOf chain_columns IsToken chain_row

abbrev pub is_comment : Rule → Bool
is_comment ByCode = false
is_comment ByComment = true

abbrev pub rule_row : Rule → RuleRow
rule_row it = record { by_comment = is_comment it }

abbrev pub AnyRule : Rule → Type 0
AnyRule it = Unit {0}

abbrev pub IsRuleRow : RuleRow → sql.Row → Type 0
IsRuleRow = FullOf rule_columns AnyRule rule_row

abbrev pub IsCastRow : CheckedCast → sql.Row → Type 0
IsCastRow = FullOf cast_columns IsCast cast_row

-- ---- shared rows with a number

abbrev pub shared_row : {A X : Type 0} → (A → X) → ℕ × A → SharedRow X
shared_row small it = record { number = it.0; it = small it.1 }

abbrev pub IsSharedRow : {A X : Type 0} → (ℕ × A → sql.Row) → (A → Type 0) → (A → X) → SharedRow X → sql.Row → Type 0
IsSharedRow columns P small = FullOf columns (IsShared P) (shared_row small)

-- a country, a language or a category
abbrev pub IsNamedRow : SharedRow Text → sql.Row → Type 0
IsNamedRow = IsSharedRow named_columns IsName (λ name. name)

abbrev pub IsCityRow : SharedRow CheckedCity → sql.Row → Type 0
IsCityRow = IsSharedRow city_columns IsCity city_row

-- only the number of an actor is kept
abbrev pub IsActorRow : SharedRow (Unit {0}) → sql.Row → Type 0
IsActorRow = IsSharedRow actor_columns IsActor (λ it. tt)

abbrev pub IsFilmRow : SharedRow CheckedFilm → sql.Row → Type 0
IsFilmRow = IsSharedRow film_columns IsFilm film_row

abbrev pub told_row : Branch × Option Moment → CheckedBranch
told_row it = branch_row it.1 it.0

abbrev pub IsBranchRow : SharedRow CheckedBranch → sql.Row → Type 0
IsBranchRow = IsSharedRow told_columns IsTold told_row

abbrev pub IsStaffRow : SharedRow CheckedStaff → sql.Row → Type 0
IsStaffRow = IsSharedRow staff_columns IsStaff staff_row

-- ---- lots

abbrev pub IsLotRow : CheckedLot → sql.Row → Type 0
IsLotRow = FullOf lot_columns IsLot lot_row

-- ---- consignments

abbrev pub header_row : Header → CheckedHeader
header_row h = record { source = h.source; addressee = h.addressee; number = h.number; place = h.place; received = h.received }

abbrev pub IsHeaderRow : CheckedHeader → sql.Row → Type 0
IsHeaderRow = FullOf header_columns IsHeader header_row

abbrev pub placed_row : Placed → CheckedLine
placed_row p = record {
  source = p.source;
  addressee = p.addressee;
  number = p.number;
  line = p.at;
  film = p.line.film;
  mark = record { branch = p.line.mark.branch; copy = p.line.mark.copy };
  state = kept_line_state p.line.state;
}

abbrev pub IsLineRow : CheckedLine → sql.Row → Type 0
IsLineRow = FullOf placed_columns IsPlaced placed_row
