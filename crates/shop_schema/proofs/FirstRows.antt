-- What the first row that a SELECT shows says of the values that the SELECT was to show.
use Rattle.shop_schema.proofs.Common.{◌≡◌, ℕ, List, [], ◌∷◌, map, Option, Some, None, Ok, Err, Result, refl, sym, ap, ◌∙◌, slice_get, IfOk, State, StoreFault}
use Rattle.shop_schema.proofs.Common.{TellsFirst, head}
use Rattle.sqlite_value.specs.Order.{Row}
use Rattle.sqlite.specs.State.{Shown}

-- `show` gives the columns that are shown of a value, and `told` what is read from them
module _ {X V : Type 0} (show : X → Row) (told : X → V) where
  seen_first : (found : List X) (rows slice : List Row) (o : Option Row) → rows ≡ map show found
      → slice ≡ rows → o ≡ slice_get slice 0 → slice_get (map show found) 0 ≡ o
  seen_first found rows slice o is same first = sym (first ∙ ap (λ (rs : List Row). slice_get rs 0) (same ∙ is))

  pub first_none : (found : List X) (rows slice : List Row) → rows ≡ map show found → slice ≡ rows → None ≡ slice_get slice 0 → None ≡ head (map told found)
  first_none found rows slice is same none = go found (seen_first found rows slice None is same none)
    where
      go : (found : List X) → slice_get (map show found) 0 ≡ None → None ≡ head (map told found)
      go [] e = refl
      go (x ∷ more) e = cc

  pub first_some : (found : List X) (rows slice : List Row) → rows ≡ map show found → slice ≡ rows
      → (row : Row) (v : V) → Some row ≡ slice_get slice 0 → ((x : X) → show x ≡ row → v ≡ told x)
      → Some v ≡ head (map told found)
  first_some found rows slice is same row v some means = go found (seen_first found rows slice (Some row) is same some)
    where
      go : (found : List X) → slice_get (map show found) 0 ≡ Some row → Some v ≡ head (map told found)
      go [] e = cc
      go (x ∷ more) e = let one : show x ≡ row = cc in ap Some (means x one)

-- what a reader of the first row returns
told_first : {V E : Type 0} {Fits : Row → V → Type 0} (rows : List Row) (P : Option V → Type 0) (r : Result (Option V) E) → IfOk r (TellsFirst Fits rows)
    → (None ≡ slice_get rows 0 → P None) × ((row : Row) (v : V) → Some row ≡ slice_get rows 0 → Fits row v → P (Some v)) → IfOk r P
told_first rows P (Err e) told read = tt
told_first rows P (Ok None) told read = read.0 told
told_first rows P (Ok (Some v)) told read = read.1 told.0 v told.1 told.2

-- the same of the first row that a query shows
pub first_then :
    {V : Type 0} {Fits : Row → V → Type 0} (old new : State) (text : List ℕ) (params : Row) (P : Option V → Type 0) (r : Result (Option V) StoreFault)
    → IfOk r (λ o. (rows : List Row) × Shown text params old new rows × TellsFirst Fits rows o)
    → ((rows : List Row) → Shown text params old new rows
    → (None ≡ slice_get rows 0 → P None) × ((row : Row) (v : V) → Some row ≡ slice_get rows 0 → Fits row v → P (Some v)))
    → IfOk r P
first_then old new text params P (Err e) told read = tt
first_then old new text params P (Ok o) told read = told_first {E = StoreFault} told.0 P (Ok o) told.2 (read told.0 told.1)
