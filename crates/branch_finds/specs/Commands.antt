-- Defines what is found of the rows that a command names.
use Rattle.std.specs.Prelude.{◌≡◌, ℕ, Bool, not, is_some, map, filter, Option, option_map}
use Rattle.std.specs.Str.{bytes_eq}
use Rattle.shop_model.specs.Rows.{lacks, owned_by}
use Rattle.shop_model.specs.Values.{Command}
use Rattle.shop_model.specs.Acts.{is_film_withdrawn}
use Rattle.shop_model.specs.Shop.{Catalogue}
use Rattle.shop_model.specs.Books.{Books, head}
use Rattle.shop_types.specs.declared.found.KeptFound.{KeptFound}
use Rattle.shop_types.specs.Verdicts.{seen_kept}
use Rattle.stock_csv.specs.declared.StockRow.{StockRow}
use Rattle.branch_core.specs.declared.found.StockFound.{StockFound}
use Rattle.branch_core.specs.Agreed.{kept_for}
use Rattle.branch_finds.specs.Finds.{is_yes}

-- the row, with whether the catalogue has its film, and whether the film is withdrawn
abbrev pub found_row : Catalogue → StockRow → StockFound
found_row catalogue row = record {
  film = row.film;
  copies = row.copies;
  is_there = not (lacks catalogue.films row.film);
  is_withdrawn = is_film_withdrawn catalogue row.film;
}

-- the row, made from whether its film is withdrawn, if there is such a film
abbrev pub stock_found : StockRow → Option Bool → StockFound
stock_found row withdrawn = record { film = row.film; copies = row.copies; is_there = is_some withdrawn; is_withdrawn = is_yes withdrawn }

-- the row alone
abbrev pub as_listed : StockFound → StockRow
as_listed found = record { film = found.film; copies = found.copies }

-- what was found of the key is what the branch has under the key
abbrev pub IsKeptFor : ℕ → Command → Option KeptFound → Books → Type 0
IsKeptFor b command kept books =
    option_map seen_kept kept ≡ head (map (kept_for command) (filter (λ it. bytes_eq it.command.key command.key) (owned_by b books.kept)))
