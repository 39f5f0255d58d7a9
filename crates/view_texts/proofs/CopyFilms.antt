-- The film of a copy. The copy is joined by its number, and the film after the copy.
use Rattle.shop_schema.proofs.Common.{◌≡◌, ◌&&◌, ℕ, List, [], ◌∷◌, filter, true, refl, sym, ap, ◌∙◌, append-nil, flat_map, Value, Null, column, Trees, or_nulls}
use Rattle.shop_schema.proofs.Common.{columns_of, number_value, equals, left_no_pair, PicksOne, Row, at, is_row, Film, Books, BookCopy, film_columns}
use Rattle.shop_schema.proofs.Common.{copy_columns, StandsFor}
use Rattle.sqlite_value.specs.Order as sql
use Rattle.shop_schema.proofs.Numbers.{left_null}
use Rattle.view_texts.proofs.Lefts.{by_number, by_pair}

abbrev pub copy_films : Books → List (Row BookCopy) → List Film
copy_films books copies = flat_map (λ (copy : Row BookCopy). at copy.it.film books.catalogue.films) copies

-- `out` is what is shown with a value of the film; the value is in the column `place`
module _ {Z : Type 0} (books : Books) (db : Trees) (s : StandsFor db books) (place : ℕ)
    (value : List Film → Value) (blank : column (columns_of 12 []) place ≡ value [])
    (one : (n : ℕ) (film : Film) → column (film_columns (n, film)) place ≡ value (film ∷ [])) (gives : sql.Row → List Z) (out : Value → List Z)
    (is : (c : sql.Row) → gives (Null ∷ c) ≡ out (column c place)) (only : (r : sql.Row) → gives r ≡ gives (Null ∷ columns_of 12 r)) (b : ℕ) where
  abbrev with_film_of : sql.Row → List Z
  with_film_of copy = flat_map gives (or_nulls (filter (λ r. equals (column r 1) (column copy 3) && true) (db 14)))

  copy_there : (copy : Row BookCopy) → with_film_of (Null ∷ copy_columns copy) ≡ out (value (at copy.it.film books.catalogue.films))
  copy_there copy =
      by_number 12 film_columns (db 14) books.catalogue.films s.films (λ it. refl)
      (λ r. refl) gives only copy.it.film (λ l given. given ≡ out (value l)) (is (columns_of 12 []) ∙ ap out blank)
      (λ film. is (film_columns (copy.it.film, film)) ∙ ap out (one copy.it.film film))

  no_copy : with_film_of (Null ∷ columns_of 6 []) ≡ out (value [])
  no_copy =
      left_null 12 film_columns (db 14) books.catalogue.films s.films (λ it. refl) (λ r. refl) gives only ∙ append-nil _ ∙ is (columns_of 12 []) ∙ ap out blank

  pub of_copy : ((n : ℕ) → PicksOne (is_row b n) books.copies) → (n : ℕ)
      → flat_map with_film_of (or_nulls (filter (λ r. equals (column r 1) (number_value b) && (equals (column r 2) (number_value n) && true)) (db 25)))
      ≡ out (value (copy_films books (filter (is_row b n) books.copies)))
  of_copy once =
      by_pair 6 copy_columns (db 25) books.copies s.copies with_film_of (λ r. refl) (λ it. refl)
      (λ it. refl) (λ r. refl) (λ r. refl) b once (λ copies. out (value (copy_films books copies))) no_copy
      (λ copy. copy_there copy ∙ ap (λ films. out (value films)) (sym (append-nil (at copy.it.film books.catalogue.films))))

  pub of_no_copy : flat_map with_film_of (or_nulls (filter (λ r. equals (column r 1) (number_value b) && (equals (column r 2) Null && true)) (db 25)))
      ≡ out (value [])
  of_no_copy =
      left_no_pair 6 copy_columns (db 25) books.copies s.copies with_film_of (λ r. refl)
      (λ it. it.branch) (λ it. it.number) (λ it. refl) (λ it. refl) (λ r. refl) (λ r. refl) b
      ∙ append-nil _ ∙ no_copy
