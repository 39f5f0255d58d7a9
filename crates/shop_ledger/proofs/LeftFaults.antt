-- A query of a table with what another has beside it is refused nothing.
use Rattle.shop_schema.proofs.Common.{◌≡◌, ℕ, List, [], length, true, inl, inr, Trees, Term, Key, Query, inner, left, end, joined_query, Selects}
use Rattle.sqlite_value.specs.Order.{Row}
use Rattle.sqlite_typing.specs.Types.{accepts_program}
use Rattle.sqlite_sql.specs.Program.{QueryOverflows}
use Rattle.sqlite.specs.Listing.{understood}
use Rattle.sqlite.specs.Schema.{Schema}
use Rattle.sql_rows.proofs.QueryFaults.{IsFine, IsOne}

module _ (tree other : ℕ) (on tests shown : List Term) (order : List (Term × Key)) where
  abbrev pub left_query : Query
  left_query = joined_query (inner tree (left other on end)) tests shown order

  no_sum : (params : Row) (db : Trees) → ¬ QueryOverflows left_query db params
  no_sum params db (inl none) = none
  no_sum params db (inr some) = some.4.4

  -- the last two premises are `refl` where the text and the parameters are known
  pub fine_left : {schema : Schema} {sql : List ℕ} {params : Row} → Selects schema sql left_query
      → IsOne (length sql) (length params) (understood schema sql) → accepts_program schema [] left_query params ≡ true → IsFine schema sql left_query params
  fine_left {params = params} means one typed = record { means = means; one = one; typed = typed; sumless = no_sum params }
