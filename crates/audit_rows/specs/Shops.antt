-- Tests of one branch's rows. Each test is one sentence of the definition of sound books.
use Rattle.std.specs.Prelude.{ℕ, ◌&&◌, ◌||◌, nat_le, Bool, not, List, [], ◌∷◌, map, filter, is_none}
use Rattle.std.specs.List.{list_any}
use Rattle.shop_model.specs.Calendar.{moment_text}
use Rattle.shop_model.specs.Rows.{at}
use Rattle.shop_model.specs.Values.{Rental, Copy}
use Rattle.shop_model.specs.Stock.{is_here}
use Rattle.audit_rows.specs.Lists.{Key}

-- the number of one of so many rows
abbrev pub is_among : ℕ → ℕ → Bool
is_among count n = nat_le 1 n && nat_le n count

-- the key of a rental: copy, customer and moment; no two rentals have the same key
unfoldable pub rental_key : Rental → Key
rental_key r = r.copy ∷ r.customer ∷ moment_text r.rented

-- the copies of open rentals, as keys
abbrev pub open_keys : List Rental → List Key
open_keys rentals = map (λ r. r.copy ∷ []) (filter (λ r. is_none r.returned) rentals)

-- an open rental's copy is here
abbrev pub is_held_here : List Copy → Rental → Bool
is_held_here copies r = not (is_none r.returned) || list_any is_here (at r.copy copies)
