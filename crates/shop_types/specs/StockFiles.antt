-- How long a stock file may be: as long as the body of a request. The limit is of our own profile.
use Rattle.std.specs.Prelude.{ℕ, nat_le, Bool, List, length}

-- the file has at most 65,536 bytes
abbrev pub is_stock_file : List ℕ → Bool
is_stock_file file = nat_le (length file) 65_536
