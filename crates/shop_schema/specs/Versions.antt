-- Defines the version that the rows of the table `chain` say. The version is in the first column.
use Rattle.std.specs.Prelude.{◌==◌, List, [], ◌∷◌, pos, if◌then◌else◌}
use Rattle.sqlite.specs.declared.types.Value.{Value}
use Rattle.sqlite.specs.declared.types.Value.TheVariants.{Int}
use Rattle.sqlite_value.specs.Order.{Row, column}
use Rattle.shop_schema.specs.declared.known.KnownVersion.{KnownVersion}
use Rattle.shop_schema.specs.declared.known.KnownVersion.TheVariants.{Missing, First, This, Other}
use Rattle.shop_schema.specs.RowValues.{this_version, first_version}

abbrev pub version_told : Value → KnownVersion
version_told (Int (pos n)) = if n == this_version then This else if n == first_version then First else Other
version_told _ = Other

abbrev pub version_of : List Row → KnownVersion
version_of [] = Missing
version_of (row ∷ []) = version_told (column row 0)
version_of (row ∷ other ∷ more) = Missing
