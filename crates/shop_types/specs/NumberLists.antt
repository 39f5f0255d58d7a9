-- How long the lists of a consignment may be. The limits are of our own profile.
use Rattle.std.specs.Prelude.{ℕ, nat_le, Bool, List, length}

-- a command lists at most 65,536 numbers, which is more than the body of a request has room for
abbrev pub is_number_list : List ℕ → Bool
is_number_list numbers = nat_le (length numbers) 65_536

-- a consignment has at most 100 lines
abbrev pub are_few : {A : Type 0} → List A → Bool
are_few lines = nat_le (length lines) 100
