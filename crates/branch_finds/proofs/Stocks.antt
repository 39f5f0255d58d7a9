-- Lemmas about what is found of the films of a stock file.
use Rattle.shop_schema.proofs.Common.{◌≡◌, ◌∙◌, refl, sym, ap, ℕ, ◌+◌, ◌<◌, List, [], ◌∷◌, ◌++◌, length, map, take, get_or, replicate, Bool, Option, All}
use Rattle.shop_schema.proofs.Common.{map_more, map_push, take_more, at, Catalogue, head}
use Rattle.std.proofs.lemmas.List.Elements.{All-map, All-weaker}
use Rattle.stock_csv.specs.declared.StockRow.{StockRow}
use Rattle.stock_csv.specs.Stock.{films_of, IsStockRow, IsStock}
use Rattle.branch_core.specs.declared.found.StockFound.{StockFound}
use Rattle.branch_core.specs.StockLists.{films_of as films_found}
use Rattle.branch_core.specs.Agreed.{RowAgrees}
use Rattle.shop_store.specs.SharedSeen.{withdrawn_of}
use Rattle.branch_finds.proofs.OneFilm.{at_most_one}
use Rattle.consign_finds.proofs.Readings.{some_there}
use Rattle.branch_finds.specs.Commands.{as_listed, found_row, stock_found}

-- what the store returned for a row's film is what the catalogue has of the film
pub film_found : (catalogue : Catalogue) (row : StockRow) (withdrawn : Option Bool) → withdrawn ≡ head (map withdrawn_of (at row.film catalogue.films))
    → stock_found row withdrawn ≡ found_row catalogue row
film_found catalogue row withdrawn told =
    (λ i. stock_found row (told i))
    ∙ (λ i.
    record {
      film = row.film;
      copies = row.copies;
      is_there = some_there withdrawn_of (at row.film catalogue.films) i;
      is_withdrawn = sym (at_most_one row.film catalogue.films) i;
    })

-- one row of the file more
pub row_found : (catalogue : Catalogue) (rows : List StockRow) (i : ℕ) (row : StockRow) (found : List StockFound) (withdrawn : Option Bool)
    → i < length rows → row ≡ get_or rows i row
    → withdrawn ≡ head (map withdrawn_of (at row.film catalogue.films)) → found ≡ map (found_row catalogue) (take i rows)
    → found ++ stock_found row withdrawn ∷ [] ≡ map (found_row catalogue) (take (i + 1) rows)
row_found catalogue rows i row found withdrawn lt is told before =
    (λ i. before i ++ film_found catalogue row withdrawn told i ∷ [])
    ∙ ap (λ (r : StockRow). map (found_row catalogue) (take i rows) ++ found_row catalogue r ∷ []) is
    ∙ sym (map_more (found_row catalogue) rows i row lt)

pub row_listed : (rows : List StockRow) (i : ℕ) (row : StockRow) (found : List StockFound) (withdrawn : Option Bool) → i < length rows → row ≡ get_or rows i row
    → map as_listed found ≡ take i rows → map as_listed (found ++ stock_found row withdrawn ∷ []) ≡ take (i + 1) rows
row_listed rows i row found withdrawn lt is before =
    map_push as_listed found (stock_found row withdrawn) ∙ (λ i. before i ++ is i ∷ []) ∙ sym (take_more rows i row lt)

-- ---- a whole file

pub same_films : (found : List StockFound) → films_found found ≡ films_of (map as_listed found)
same_films [] = refl
same_films (row ∷ rows) = ap (λ (more : List ℕ). replicate row.copies row.film ++ more) (same_films rows)

row_agrees : (catalogue : Catalogue) (row : StockRow) → IsStockRow row → RowAgrees catalogue (found_row catalogue row)
row_agrees catalogue row is = record { some = is.copies_low; there = refl; withdrawn = refl }

pub rows_agree : (catalogue : Catalogue) (rows : List StockRow) → IsStock rows → All (RowAgrees catalogue) (map (found_row catalogue) rows)
rows_agree catalogue rows is =
    All-map (RowAgrees catalogue) (found_row catalogue) rows
    (All-weaker IsStockRow (λ (row : StockRow). RowAgrees catalogue (found_row catalogue row)) (row_agrees catalogue) rows is.each)
