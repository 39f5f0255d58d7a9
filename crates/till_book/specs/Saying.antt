-- The commands that entries say.
use Rattle.std.specs.Prelude.{⊤, ℕ, List, [], ◌∷◌}
use Rattle.shop_model.specs.Values.{Text, Command}
use Rattle.till_client.specs.Sealing.{SaysCommand}

-- an entry says that command, with some token
abbrev pub Says : List ℕ → Command → Type 0
Says bytes command = (token : Text) × SaysCommand bytes token command

-- the n-th entry says the n-th command
abbrev pub Say : List (List ℕ) → List Command → Type 0
Say [] [] = ⊤
Say [] (command ∷ commands) = ⊥
Say (bytes ∷ entries) [] = ⊥
Say (bytes ∷ entries) (command ∷ commands) = Says bytes command × Say entries commands
