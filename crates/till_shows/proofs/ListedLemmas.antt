-- The values of a list, as they are listed.
use Rattle.std.proofs.Common.{◌≡◌, List, [], ◌∷◌, refl, ap}
use Rattle.serde_json.specs.Data.{Data}
use Rattle.serde_json.specs.View.{items_of}
use Rattle.till_shows.specs.Bodies.{listed}

pub listed_of : (ds : List Data) → listed (items_of ds) ≡ ds
listed_of [] = refl
listed_of (d ∷ ds) = ap (λ (rest : List Data). d ∷ rest) (listed_of ds)
