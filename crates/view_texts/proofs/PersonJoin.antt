-- The names of a row's city and country, as they are joined.
use Rattle.shop_schema.proofs.Common.{◌≡◌, ◌&&◌, ℕ, List, [], ◌∷◌, map, filter, true, refl, sym, ap, ◌∙◌, append-nil, flat_map, Value, Null, column, Trees}
use Rattle.shop_schema.proofs.Common.{Query, Join, left, col, are_equal, or_nulls, Output, overlay, flat_map_same_on, HasRows, columns_of, number_value}
use Rattle.shop_schema.proofs.Common.{shown_of, equals, at, numbered, City, Catalogue, named_columns, city_columns}
use Rattle.sqlite.specs.declared.types.Value.TheVariants.{Text}
use Rattle.sqlite_value.specs.Order as sql
use Rattle.view_texts.specs.Shown.{name_or_null}
use Rattle.shop_schema.proofs.Numbers.{left_null}
use Rattle.view_texts.proofs.Lefts.{by_number}
use Rattle.shop_schema.specs.Trees.{city_tree, country_tree}

-- what is joined to a city, and to a row that has a city in this column
abbrev pub country_then : Join → Join
country_then more = left country_tree (are_equal (col 3 1) (col 2 3) ∷ []) more

abbrev pub city_then : ℕ → Join → Join
city_then at more = left city_tree (are_equal (col 2 1) (col 1 at) ∷ []) (country_then more)

-- `its` is the row, with the city's number in the column `place`; `more` is joined after the country; `out` is what the query shows with the two names
module _ (place : ℕ) (more : Join) (q : Query) (catalogue : Catalogue) (db : Trees) (cities : HasRows 3 (db 10) (map city_columns (numbered catalogue.cities)))
    (countries : HasRows 2 (db 1) (map named_columns (numbered catalogue.countries)))
    (params its : sql.Row) (n : ℕ) (city : column its place ≡ number_value n)
    (out : Value → Value → List Output)
    (ends : (r2 r3 : sql.Row) → shown_of q (overlay db []) more (params ∷ its ∷ r2 ∷ r3 ∷ []) ≡ out (column r2 2) (column r3 2)) where
  abbrev last : sql.Row → sql.Row → List Output
  last r2 r3 = shown_of q (overlay db []) more (params ∷ its ∷ r2 ∷ r3 ∷ [])

  abbrev shows : sql.Row → List Output
  shows r2 = shown_of q (overlay db []) (country_then more) (params ∷ its ∷ r2 ∷ [])

  only : (r2 r : sql.Row) → last r2 r ≡ last r2 (Null ∷ columns_of 2 r)
  only r2 r = ends r2 r ∙ sym (ends r2 (Null ∷ columns_of 2 r))

  same_city : (r : sql.Row) → shows r ≡ shows (Null ∷ columns_of 3 r)
  same_city r =
      flat_map_same_on (last r) (last (Null ∷ columns_of 3 r)) (λ r3. ends r r3 ∙ sym (ends (Null ∷ columns_of 3 r) r3))
      (or_nulls (filter (λ r3. equals (column r3 1) (column r 3) && true) (db 1)))

  city_there : (m : ℕ) (c : City) → shows (Null ∷ city_columns (m, c)) ≡ out (Text c.name) (name_or_null (at c.country catalogue.countries))
  city_there m c =
      by_number 2 named_columns (db 1) catalogue.countries countries (λ it. refl) (λ r. refl)
      (last (Null ∷ city_columns (m, c))) (only (Null ∷ city_columns (m, c))) c.country
      (λ l given. given ≡ out (Text c.name) (name_or_null l)) (ends (Null ∷ city_columns (m, c)) (Null ∷ columns_of 2 []))
      (λ name. ends (Null ∷ city_columns (m, c)) (Null ∷ named_columns (c.country, name)))

  city_missing : shows (Null ∷ columns_of 3 []) ≡ out Null Null
  city_missing =
      left_null 2 named_columns (db 1) catalogue.countries countries (λ it. refl) (λ r. refl) (last (Null ∷ columns_of 3 [])) (only (Null ∷ columns_of 3 []))
      ∙ append-nil _ ∙ ends (Null ∷ columns_of 3 []) (Null ∷ columns_of 2 [])

  pub person_brings : shown_of q (overlay db []) (city_then place more) (params ∷ its ∷ [])
      ≡ out (name_or_null (map (λ (it : City). it.name) (at n catalogue.cities)))
      (name_or_null (flat_map (λ (it : City). at it.country catalogue.countries) (at n catalogue.cities)))
  person_brings =
      ap (λ v. flat_map shows (or_nulls (filter (λ r. equals (column r 1) v && true) (db 10)))) city
      ∙ by_number 3 city_columns (db 10) catalogue.cities cities (λ it. refl) (λ r. refl) shows same_city n
      (λ l given. given ≡ out (name_or_null (map (λ (it : City). it.name) l)) (name_or_null (flat_map (λ (it : City). at it.country catalogue.countries) l)))
      city_missing
      (λ c. city_there n c ∙ ap (λ l. out (Text c.name) (name_or_null l)) (sym (append-nil (at c.country catalogue.countries))))
