-- What a table's tree stands for: the columns of its rows, in any order. Nothing is said of the rowids.
use Rattle.std.specs.Prelude.{◌≡◌, ◌≢◌, ◌≤◌, ℕ, pos, zero, suc, Bool, if◌then◌else◌, List, [], ◌∷◌, map, filter, length, IsPermutation}
use Rattle.std.specs.Ordering.{nat_cmp}
use Rattle.std.specs.declared.cmp.Ordering.{Ordering}
use Rattle.std.specs.List.{AllByRecursion}
use Rattle.sqlite.specs.declared.types.Value.{Value}
use Rattle.sqlite.specs.declared.types.Value.TheVariants.{Int}
use Rattle.sqlite_value.specs.Order.{Row, column}
use Rattle.sqlite_trees.specs.declared.store.Shape.TheVariants.{Table}
use Rattle.sqlite_trees.specs.Tree.{Trees, IsAscending}
use Rattle.sqlite_trees.specs.View.{IsShaped}
use Rattle.sqlite.specs.Schema.{Schema}

-- so many columns, from a place on
abbrev pub columns_from : ℕ → ℕ → Row → Row
columns_from at zero row = []
columns_from at (suc more) row = column row at ∷ columns_from (suc at) more row

-- the columns of a row, without its rowid
abbrev pub columns_of : ℕ → Row → Row
columns_of width = columns_from 1 width

-- The rows have these columns, in some order.
abbrev pub HasRows : ℕ → List Row → List Row → Type 0
HasRows width tree rows = IsPermutation (map (columns_of width) tree) rows

-- The rowids of each table are integers that rise. Only a change of a row needs it.
abbrev pub AreKeyed : Schema → Trees → Type 0
AreKeyed schema trees = AllByRecursion (λ t. IsShaped Table (trees t.tree)) schema.tables

-- each table but the one with this tree has the rows that it had
abbrev pub SameBut : Schema → ℕ → Trees → Trees → Type 0
SameBut schema tree old new = AllByRecursion (λ t. t.tree ≢ tree → new t.tree ≡ old t.tree) schema.tables

-- ---- values

-- the value of a column that holds a number, and of one that holds a truth value
abbrev pub number_value : ℕ → Value
number_value n = Int (pos n)

abbrev pub flag_value : Bool → Value
flag_value b = Int (if b then pos 1 else pos 0)

-- ---- lists of rows

-- in order of number
abbrev pub by : {X : Type 0} → (X → ℕ) → X → X → Ordering
by number a b = nat_cmp (number a) (number b)

-- no number comes twice
abbrev pub Differ : {X : Type 0} → (X → ℕ) → List X → Type 0
Differ number = IsAscending (λ a b. number a ≢ number b)

-- no two rows pass the test
abbrev pub PicksOne : {X : Type 0} → (X → Bool) → List X → Type 0
PicksOne p xs = length (filter p xs) ≤ 1
