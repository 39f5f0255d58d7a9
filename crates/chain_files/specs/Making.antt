-- What is left after a chain was made, or was to be made.
use Rattle.sqlite_trees.specs.Tree.{Trees}
use Rattle.sqlite.specs.State.{State}
use Rattle.shop_model.specs.Books.{Books}
use Rattle.shop_model.specs.Opening.{opening_books}
use Rattle.sql_files.specs.Making.{LeavesMade as MayLeave}
use Rattle.shop_schema.specs.Shop.{StandsFor, first_books}
use Rattle.chain_files.specs.declared.creation.FirstRows.{FirstRows}
use Rattle.chain_files.specs.declared.creation.FirstRows.TheVariants.{OfOffice, OfOpening}

-- the books for which the first rows of a chain stand
abbrev pub books_with : FirstRows → Books
books_with (OfOffice office) = first_books office.now
books_with OfOpening = opening_books

-- what the commit of a new chain may leave, if the database had no table
abbrev pub LeavesMade : State → Books → Trees → Type 0
LeavesMade old books = MayLeave (λ db. StandsFor db books) old
