-- The columns of rows that only an audit reads in this way: branches with their last moments, consignments without their lines, and lines with their
-- consignments' keys.
use Rattle.std.specs.Prelude.{ℕ, [], ◌∷◌, Option, IfSome}
use Rattle.sqlite.specs.declared.types.Value.TheVariants.{Text}
use Rattle.sqlite.specs.Values.{or_null}
use Rattle.sqlite_value.specs.Order as sql
use Rattle.sql_rows.specs.Rows.{number_value, flag_value}
use Rattle.shop_model.specs.Calendar.{Moment, IsMoment}
use Rattle.shop_model.specs.Values.{Branch}
use Rattle.shop_schema.specs.RowValues.{IsNumber, IsBranch, IsLine, IsPlace, moment_value, line_value}
use Rattle.audit_rows.specs.Joins.{Header, Placed}

abbrev pub told_columns : ℕ × (Branch × Option Moment) → sql.Row
told_columns it =
    number_value it.0 ∷ Text it.1.0.token ∷ Text it.1.0.address ∷ Text it.1.0.postal
    ∷ Text it.1.0.phone ∷ number_value it.1.0.city ∷ or_null number_value it.1.0.manager
    ∷ or_null moment_value it.1.1 ∷ []

abbrev pub IsTold : Branch × Option Moment → Type 0
IsTold it = IsBranch it.0 × IfSome it.1 IsMoment

abbrev pub header_columns : Header → sql.Row
header_columns h = number_value h.source ∷ number_value h.addressee ∷ number_value h.number ∷ number_value h.place ∷ flag_value h.received ∷ []

pub record IsHeader (h : Header) : Type 0 where
  pub source : IsNumber h.source
  pub addressee : IsNumber h.addressee
  pub number : IsNumber h.number
  pub place : IsPlace h.place

abbrev pub placed_columns : Placed → sql.Row
placed_columns p =
    number_value p.source ∷ number_value p.addressee ∷ number_value p.number ∷ number_value p.at ∷ number_value p.line.film
    ∷ number_value p.line.mark.branch ∷ number_value p.line.mark.copy ∷ line_value p.line.state ∷ []

pub record IsPlaced (p : Placed) : Type 0 where
  pub source : IsNumber p.source
  pub addressee : IsNumber p.addressee
  pub number : IsNumber p.number
  pub at : IsNumber p.at
  pub line : IsLine p.line
