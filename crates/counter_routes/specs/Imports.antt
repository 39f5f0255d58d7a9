-- What an import is: its path's parts say all of the command but the stock file, which is the body.
use Rattle.std.specs.Prelude.{ℕ, List, slice_get, Option, Some, option_and_then}
use Rattle.http_messages.specs.Items.{parts}
use Rattle.shop_types.specs.Texts.{is_key}
use Rattle.shop_types.specs.Numbers.{row_number_of}
use Rattle.shop_model.specs.Calendar.{Moment}
use Rattle.shop_model.specs.Values.{Text, Import, Command}
use Rattle.counter_routes.specs.Moments.{moment_of}
use Rattle.counter_routes.specs.Bodies.{◌>>=◌, passing}

-- the key or the lot's name, which is the path's part after its first `n` slashes; the part isn't decoded, so no name has a `%`
abbrev pub name_in : List ℕ → ℕ → Option Text
name_in target n = option_and_then (passing is_key) (slice_get (parts target) n)

-- the number of the staff who gives the import, after the third slash
abbrev pub staff_in : List ℕ → Option ℕ
staff_in target = option_and_then row_number_of (slice_get (parts target) 3)

-- the moment whose text is the path's part after its first `n` slashes
abbrev pub moment_in : List ℕ → ℕ → Option Moment
moment_in target n = option_and_then moment_of (slice_get (parts target) n)

-- The import of a path and a body, where each part is of its form. Any body is a file: what it lists is not looked at.
unfoldable pub import_in : List ℕ → List ℕ → Option Command
import_in target body = do
  key ← name_in target 2
  staff ← staff_in target
  moment ← moment_in target 4
  lot ← name_in target 5
  Some (record { key = key; staff = staff; moment = moment; act = Import lot body })
