-- What a join shows of one row at most is in any order.
use Rattle.shop_schema.proofs.Common.{◌≤◌, List, [], ◌∷◌, map, length, arith, Query, Output, Climbs}

pub climbs_few : {X : Type 0} (q : Query) (f : X → Output) (xs : List X) → length xs ≤ 1 → Climbs q (map f xs)
climbs_few q f [] few = tt
climbs_few q f (x ∷ []) few = (tt, tt)
climbs_few q f (x ∷ y ∷ xs) few = absurd (omega (arith, few))
