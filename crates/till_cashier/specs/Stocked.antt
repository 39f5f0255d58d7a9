-- Where a copy is by a film's copies in stock, and by the book.
use Rattle.std.specs.Prelude.{◌==◌, ⊤, ℕ, Bool, true, false, if◌then◌else◌, List, [], ◌∷◌, Option, None, Some, option_and_then, codes}
use Rattle.serde_json.specs.Data.{Data}
use Rattle.serde_json.specs.Find.{get}
use Rattle.shop_model.specs.Values.{Text}
use Rattle.till_shows.specs.Bodies.{body_of, rows_in, whole_number}
use Rattle.till_cashier.specs.declared.stock.Whereabouts.{Whereabouts}
use Rattle.till_cashier.specs.declared.stock.Whereabouts.TheVariants as it

-- whether the copy's number is in the list; none at a value that is no number
abbrev pub has_number : ℕ → List Data → Option Bool
has_number copy [] = Some false
has_number copy (d ∷ ds) = option_and_then (λ n. if n == copy then Some true else has_number copy ds) (whole_number d)

-- whether an object's list of copies has the copy
abbrev pub listed_at : ℕ → Data → Option Bool
listed_at copy d = option_and_then (has_number copy) (option_and_then rows_in (get (codes "copies") d))

-- whether a body that lists a film's copies in stock has the copy
abbrev pub stocked_in : ℕ → Text → Option Bool
stocked_in copy body = option_and_then (listed_at copy) (body_of body)

-- it was sent off or scrapped
abbrev pub HasLeft : Whereabouts → Type 0
HasLeft it.Here = ⊥
HasLeft (it.Sent to at) = ⊤
HasLeft (it.Scrapped at) = ⊤
HasLeft it.Gone = ⊥

abbrev pub gone_if : Option Bool → Option Whereabouts
gone_if None = None
gone_if (Some true) = None
gone_if (Some false) = Some it.Gone
