-- Statements without parameters that ran one after another.
use Rattle.std.specs.Prelude.{◌≡◌, ℕ, List, [], ◌∷◌, Ok}
use Rattle.sqlite_trees.specs.declared.store.Store.{Ghosts}
use Rattle.sqlite.specs.Held.{Held, state}
use Rattle.sqlite.specs.State.{ExecutesInside}

abbrev pub Runs : {S : Type 0} → Ghosts S → List (List ℕ) → Held S → Held S → Type 0
Runs g [] old new = new ≡ old
Runs {S} g (text ∷ more) old new = (next : Held S) × (count : ℕ) × ExecutesInside 0 text [] (state g old) (state g next) (Ok count) × Runs g more next new
