-- Whether a body lists a copy.
use Rattle.std.proofs.Common.{◌≡◌, ◌∙◌, ℕ, Bool, List, Option, None, Some, IfSome, sym, ap}
use Rattle.std.specs.Prelude.{option_and_then, codes}
use Rattle.serde_json.specs.Data.{Data}
use Rattle.serde_json.specs.Find.{get}
use Rattle.shop_model.specs.Values.{Text}
use Rattle.till_shows.specs.Bodies.{body_of, rows_in}
use Rattle.till_cashier.specs.Stocked.{has_number, listed_at, stocked_in}

if_same : (it other : Option Bool) → it ≡ other → IfSome it (λ is. other ≡ Some is)
if_same (Some is) other same = sym same
if_same None other same = tt

pub copies_listed : (copy : ℕ) (d member : Data) (rows : List Data) (it : Option Bool) → Some member ≡ get (codes "copies") d
    → Some rows ≡ rows_in member → it ≡ has_number copy rows → IfSome it (λ is. listed_at copy d ≡ Some is)
copies_listed copy d member rows it found listed same =
    if_same it (listed_at copy d) (same ∙ ap (option_and_then (has_number copy)) listed
    ∙ ap (λ (o : Option Data). option_and_then (has_number copy) (option_and_then rows_in o)) found)

pub body_listed : (copy : ℕ) (body : Text) (d : Data) (it : Option Bool) → body_of body ≡ Some d
    → IfSome it (λ is. listed_at copy d ≡ Some is) → IfSome it (λ is. stocked_in copy body ≡ Some is)
body_listed copy body d (Some is) read listed = ap (option_and_then (listed_at copy)) read ∙ listed
body_listed copy body d None read listed = tt
