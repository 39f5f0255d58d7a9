-- What rows are refused by those who read them, and what is shown to some of them.
use Rattle.std.specs.Prelude.{◌≡◌, ◌≢◌, ℕ, Bool, [], ◌∷◌, Option, IfSome}
use Rattle.sqlite.specs.Values.{or_null}
use Rattle.sqlite_value.specs.Order as sql
use Rattle.sql_rows.specs.Rows.{number_value, flag_value}
use Rattle.shop_types.specs.Seen.{seen_state}
use Rattle.shop_types.specs.declared.custody.CopyState.{CopyState}
use Rattle.shop_schema.specs.RowValues.{IsNumber, state_value}

-- the row is that of no item such as the program can hold
abbrev pub IsNoneOf : {A : Type 0} → (A → Type 0) → (A → sql.Row) → sql.Row → Type 0
IsNoneOf {A} Fits columns row = (x : A) → Fits x → columns x ≢ row

-- the row that is shown of a copy's film, its state, and its open rental, if it is out
abbrev pub ShowsNow : sql.Row → Type 0
ShowsNow row =
    (film : ℕ) × (state : CopyState) × (out : Option ℕ) × IsNumber film × IfSome out IsNumber
    × (row ≡ number_value film ∷ state_value (seen_state state) ∷ or_null number_value out ∷ [])

-- the row that is shown of where a member of staff works, or worked before leaving
abbrev pub ShowsPost : sql.Row → Type 0
ShowsPost row = (branch : ℕ) × (gone : Bool) × IsNumber branch × (row ≡ number_value branch ∷ flag_value gone ∷ [])
