-- What calls that find ask of the state before them, and what is shown to some of them.
use Rattle.std.specs.Prelude.{◌≡◌, ◌≤◌, ◌<◌, ◌^◌, ℕ, ⊤, false, [], ◌∷◌, Option, IfSome}
use Rattle.sqlite_value.specs.Order.{Row}
use Rattle.sqlite.specs.State.{State}
use Rattle.sqlite.specs.Values.{or_null}
use Rattle.sql_rows.specs.Rows.{number_value}
use Rattle.shop_model.specs.Books.{Books}
use Rattle.shop_model.specs.Calendar.{Moment, IsMoment}
use Rattle.shop_model.specs.Rows.{lacks}
use Rattle.shop_schema.specs.Held.{IsHeld}
use Rattle.shop_schema.specs.RowValues.{moment_value}
use Rattle.shop_schema.specs.Shop.{Holds}
use Rattle.shop_ledger.specs.declared.counts.Count.{Count}
use Rattle.shop_ledger.specs.declared.counts.Count.TheVariants.{OfficeKeys, Of}

-- the books have the counter: head office's, or one of a branch that is there
abbrev pub HasCounter : Count → Books → Type 0
HasCounter OfficeKeys books = ⊤
HasCounter (Of b kind) books = lacks books.catalogue.branches b ≡ false

-- the tables stand for books such as chains hold, which have the counter
abbrev pub HoldsCounter : Count → State → Type 0
HoldsCounter count s = (books : Books) × Holds s books × IsHeld books × HasCounter count books

-- the tables stand for books such as chains hold, which have the branch
abbrev pub HoldsBranch : ℕ → State → Type 0
HoldsBranch b s = (books : Books) × Holds s books × IsHeld books × (lacks books.catalogue.branches b ≡ false)

-- the row that is shown of a count
abbrev pub ShowsCount : Row → Type 0
ShowsCount row = (n : ℕ) × (n < 2 ^ 32) × (row ≡ number_value n ∷ [])

-- the row that is shown of a branch's last moment, if there is one, and of its count of kept commands
abbrev pub ShowsStanding : Row → Type 0
ShowsStanding row =
    (last : Option Moment) × (keys : ℕ) × IfSome last IsMoment × (keys ≤ 1_000_000) × (row ≡ or_null moment_value last ∷ number_value keys ∷ [])
