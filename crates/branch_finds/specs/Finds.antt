-- Defines what is found of rows.
use Rattle.std.specs.Prelude.{ℕ, Bool, false, List, Option, Some, None}
use Rattle.shop_model.specs.Values.{Rental}
use Rattle.shop_model.specs.Stock.{is_here, in_stock}
use Rattle.shop_model.specs.Books.{Books, unmarked}
use Rattle.chain_caches.specs.Films.{AreRows, KnownFilms}
use Rattle.shop_store.specs.declared.copies.CopyRow.{CopyRow}
use Rattle.shop_store.specs.Seen.{seen_copy_row}

-- the answer, or no if there is none
abbrev pub is_yes : Option Bool → Bool
is_yes None = false
is_yes (Some b) = b

-- ---- the copies of a film

-- a copy's number, whether it is here, and whether it is in stock by the rentals of the branch
abbrev pub copy_shown : List Rental → CopyRow → ℕ × Bool × Bool
copy_shown rentals row = (row.number, is_here (unmarked (seen_copy_row row).it), in_stock row.number rentals)

-- ---- films

-- If the films that were known before are rows of the books, this holds. The films that are known afterwards are rows of the books too.
abbrev pub Knows : KnownFilms → KnownFilms → (Books → Type 0) → Books → Type 0
Knows before after Says books = AreRows before books.catalogue.films → Says books × AreRows after books.catalogue.films
