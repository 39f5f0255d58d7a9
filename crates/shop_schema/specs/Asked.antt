-- What calls that find ask of the state before them, and what is shown to some of them.
use Rattle.std.specs.Prelude.{◌≡◌, ◌≢◌, ◌≤◌, ◌⊎◌, ℕ, Bool, List, [], ◌∷◌, Some, IsUtf8, slice_get}
use Rattle.sqlite_value.specs.declared.value.Value.TheVariants.{Text, Blob}
use Rattle.sqlite_value.specs.Order.{Row}
use Rattle.sqlite.specs.State.{State, Shown}
use Rattle.sql_rows.specs.Fault.{IsToldOf, QueryGave}
use Rattle.sql_rows.specs.Rows.{number_value, flag_value}
use Rattle.sql_rows.specs.declared.fault.StoreFault.{StoreFault}
use Rattle.sql_rows.specs.declared.fault.StoreFault.TheVariants.{Failed}
use Rattle.shop_model.specs.Books.{Books}
use Rattle.shop_schema.specs.Held.{IsHeld}
use Rattle.shop_schema.specs.RowValues.{IsNumber}
use Rattle.shop_schema.specs.Shop.{Holds}

-- the tables stand for books such as chains hold
abbrev pub HoldsBooks : State → Type 0
HoldsBooks s = (books : Books) × Holds s books × IsHeld books

-- the rows that are shown of a kept command, of a customer who may rent or not, and of a row's number
abbrev pub ShowsKept : Row → Type 0
ShowsKept row = (form : List ℕ) × (reply : List ℕ) × IsUtf8 reply × (row ≡ Blob form ∷ Text reply ∷ [])

abbrev pub ShowsFlag : Row → Type 0
ShowsFlag row = (b : Bool) × (row ≡ flag_value b ∷ [])

abbrev pub ShowsNumber : Row → Type 0
ShowsNumber row = (n : ℕ) × IsNumber n × (row ≡ number_value n ∷ [])

-- the first row isn't a count
abbrev pub ShowsNoCount : List Row → Type 0
ShowsNoCount rows = (row : Row) → Some row ≡ slice_get rows 0 → (n : ℕ) → n ≤ 1_000_000 → row ≢ number_value n ∷ []

-- the database gave the query an error that this fault reports, or the first row that it shows isn't a count
abbrev pub FailsToCount : List ℕ → Row → State → State → StoreFault → Type 0
FailsToCount sql params old new fault =
    IsToldOf (QueryGave sql params old new) fault ⊎ ((rows : List Row) × Shown sql params old new rows × (fault ≡ Failed → ShowsNoCount rows))
