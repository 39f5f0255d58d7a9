-- The copies of a film that are found row by row are the copies in the branch's shop.
use Rattle.shop_schema.proofs.Common.{◌≡◌, ◌∙◌, refl, sym, ap, ℕ, ◌+◌, Bool, List, [], ◌∷◌, map, filter, Row, is_of, of, numbered, numbered_from, IsCounted}
use Rattle.shop_schema.proofs.Common.{AreNumbered, Copy, Rental, is_here, in_stock, BookCopy, Books, shop_of, unmarked, map_map, filter-map}
use Rattle.std.specs.Prelude.{◌==◌, ◌&&◌}
use Rattle.shop_store.specs.declared.copies.CopyRow.{CopyRow}
use Rattle.shop_store.specs.Seen.{seen_copy_row}
use Rattle.shop_schema.proofs.Lists.{filter_twice}
use Rattle.branch_core.specs.declared.film_copies.FilmCopy.{FilmCopy}
use Rattle.branch_core.specs.Agreed.{seen_film_copy, AreOfFilm}
use Rattle.branch_finds.specs.Finds.{copy_shown}

-- a copy with its number
abbrev pair_of : Row BookCopy → ℕ × Copy
pair_of row = (row.number, unmarked row.it)

-- a copy's number, whether the copy is here, and whether it is in stock
abbrev told : List Rental → ℕ × Copy → ℕ × Bool × Bool
told rentals it = (it.0, is_here it.1, in_stock it.0 rentals)

counted_pairs : (k : ℕ) (rows : List (Row BookCopy)) → IsCounted k (map (λ (row : Row BookCopy). row.number) rows)
    → map pair_of rows ≡ numbered_from k (map (λ (row : Row BookCopy). unmarked row.it) rows)
counted_pairs k [] counted = refl
counted_pairs k (row ∷ rows) counted =
    let first : ℕ → ℕ × Copy = λ n. (n, unmarked row.it) in
    (λ i. first (counted.0 i) ∷ counted_pairs (k + 1) rows counted.1 i)

film_rows : (b film : ℕ) (rentals : List Rental) (rows : List (Row BookCopy)) → AreNumbered (is_of b) (λ (row : Row BookCopy). row.number) rows
    → map (λ (row : Row BookCopy). told rentals (pair_of row)) (filter (λ (row : Row BookCopy). is_of b row && row.it.film == film) rows)
    ≡ map (told rentals) (filter (λ (it : ℕ × Copy). it.1.film == film) (numbered (map unmarked (of b rows))))
film_rows b film rentals rows counted =
    let own : List (Row BookCopy) = filter (is_of b) rows in
    let q : ℕ × Copy → Bool = λ it. it.1.film == film in
    let pairs : map pair_of own ≡ numbered (map unmarked (of b rows)) =
    counted_pairs 1 own counted ∙ ap (λ (copies : List Copy). numbered copies) (sym (map_map unmarked (λ (row : Row BookCopy). row.it) own)) in
    sym (map_map (told rentals) pair_of (filter (λ (row : Row BookCopy). is_of b row && q (pair_of row)) rows))
    ∙ ap (λ (found : List (Row BookCopy)). map (told rentals) (map pair_of found)) (filter_twice (is_of b) (λ (row : Row BookCopy). q (pair_of row)) rows)
    ∙ ap (map (told rentals)) (sym (filter-map q pair_of own) ∙ ap (filter q) pairs)

-- rows of the branch's copies of the film
pub of_film : (b film : ℕ) (books : Books) (copies : List FilmCopy) (rows : List CopyRow)
    → AreNumbered (is_of b) (λ (row : Row BookCopy). row.number) books.copies
    → map (λ (row : CopyRow). seen_copy_row row) rows ≡ filter (λ (row : Row BookCopy). is_of b row && row.it.film == film) books.copies
    → map seen_film_copy copies ≡ map (copy_shown (shop_of b books).rentals) rows → AreOfFilm film (shop_of b books) copies
of_film b film books copies rows counted found shown =
    let rentals : List Rental = (shop_of b books).rentals in
    shown
    ∙ sym (map_map (λ (row : Row BookCopy). told rentals (pair_of row)) seen_copy_row rows)
    ∙ ap (map (λ (row : Row BookCopy). told rentals (pair_of row))) found
    ∙ film_rows b film rentals books.copies counted
