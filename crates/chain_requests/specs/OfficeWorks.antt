-- What a command of head office does inside one transaction.
use Rattle.std.specs.Prelude.{Option}
use Rattle.sqlite.specs.State.{State}
use Rattle.shop_types.specs.LimitValues.{Limits}
use Rattle.shop_model.specs.Values.{OfficeCommand}
use Rattle.shop_model.specs.Machine.{Office}
use Rattle.shop_model.specs.Books.{Books, HeadOffice}
use Rattle.shop_types.specs.declared.found.KeptFound.{KeptFound}
use Rattle.shop_schema.specs.Held.{IsHeld}
use Rattle.shop_schema.specs.Shop.{Holds}
use Rattle.shop_ledger.specs.declared.answered.Answered.{Answered}
use Rattle.branch_work.specs.Works.{IsDone}
use Rattle.catalogue_rows.specs.Found.{IsKeptFor}

-- the command is done, given what was found under its key
abbrev pub WorksBeside : Option KeptFound → Limits → OfficeCommand → Answered → State → State → Type 0
WorksBeside kept limits command it old new =
    (books : Books) → Holds old books → IsHeld books → IsKeptFor command kept books → IsDone limits HeadOffice (Office command) it new books
