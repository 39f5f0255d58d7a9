-- A row of the people's joins, read and listed.
use Rattle.shop_schema.proofs.Common.{◌≡◌, ◌+◌, ℕ, List, [], ◌∷◌, ◌++◌, map, refl, sym, ap, ◌∙◌, append-nil, ◌⊎◌, flat_map, column, Row, at, numbered_from}
use Rattle.shop_schema.proofs.Common.{IsCounted, Person, City, Customer, Catalogue, PersonRow, full_name, city_name, country_name, person_row, at_one}
use Rattle.sqlite.specs.declared.types.Value.TheVariants.{Text}
use Rattle.sqlite_value.specs.Order as sql
use Rattle.shop_model.specs.Values as model
use Rattle.shop_views.specs.People.{seen_person}
use Rattle.shop_views.specs.declared.people.ListedPerson.{ListedPerson}
use Rattle.view_texts.specs.Shown.{name_or_null, text_or_empty, shown_person, listed_customer}
use Rattle.view_texts.proofs.Lefts.{one_at_most}

-- ---- names that may be missing

-- the name of a row that is there, or none
pub name_read : (l : List model.Text) → (l ≡ []) ⊎ ((t : model.Text) × (l ≡ t ∷ [])) → text_or_empty (name_or_null l) ≡ flat_map (λ (name : model.Text). name) l
name_read = one_at_most (λ l. text_or_empty (name_or_null l) ≡ flat_map (λ (name : model.Text). name) l) refl (λ t. sym (append-nil t))

pub city_read : (catalogue : Catalogue) (n : ℕ) → text_or_empty (name_or_null (map (λ (it : City). it.name) (at n catalogue.cities))) ≡ city_name catalogue n
city_read catalogue n =
    one_at_most (λ l. text_or_empty (name_or_null (map (λ (it : City). it.name) l)) ≡ flat_map (λ (it : City). it.name) l) refl
    (λ city. sym (append-nil city.name))
    (at n catalogue.cities) (at_one n catalogue.cities)

pub country_read : (catalogue : Catalogue) (n : ℕ)
    → text_or_empty (name_or_null (flat_map (λ (it : City). at it.country catalogue.countries) (at n catalogue.cities))) ≡ country_name catalogue n
country_read catalogue n =
    one_at_most
    (λ l.
    text_or_empty (name_or_null (flat_map (λ (it : City). at it.country catalogue.countries) l))
    ≡ flat_map (λ (it : City). flat_map (λ (name : model.Text). name) (at it.country catalogue.countries)) l)
    refl
    (λ city. let countries = at city.country catalogue.countries in
    ap (λ k. text_or_empty (name_or_null k)) (append-nil countries) ∙ name_read countries (at_one city.country catalogue.countries)
    ∙ sym (append-nil (flat_map (λ (name : model.Text). name) countries)))
    (at n catalogue.cities) (at_one n catalogue.cities)

-- ---- a row

pub same_words : (s t : model.Text) → Text s ≡ Text t → s ≡ t
same_words s t e = cc

pub person_is : (row : sql.Row) (it : ListedPerson) (branch : ℕ) → it.branch ≡ branch
    → column row 1 ≡ Text it.name.first → column row 2 ≡ Text it.name.last → column row 3 ≡ Text it.address
    → column row 4 ≡ Text it.postal → column row 5 ≡ Text it.phone → it.city ≡ text_or_empty (column row 6) → it.country ≡ text_or_empty (column row 7)
    → (catalogue : Catalogue) (n : ℕ) (person : Person) (rest : sql.Row)
    → row ≡ shown_person catalogue n person ++ rest → seen_person n it ≡ person_row catalogue branch n person
person_is row it branch mine first last address postal phone city country catalogue n person rest is =
    let firsts : it.name.first ≡ person.first = same_words _ _ (sym first ∙ ap (λ r. column r 1) is) in
    let lasts : it.name.last ≡ person.last = same_words _ _ (sym last ∙ ap (λ r. column r 2) is) in
    let addresses : it.address ≡ person.address = same_words _ _ (sym address ∙ ap (λ r. column r 3) is) in
    let postals : it.postal ≡ person.postal = same_words _ _ (sym postal ∙ ap (λ r. column r 4) is) in
    let phones : it.phone ≡ person.phone = same_words _ _ (sym phone ∙ ap (λ r. column r 5) is) in
    let cities : it.city ≡ city_name catalogue person.city = city ∙ ap (λ r. text_or_empty (column r 6)) is ∙ city_read catalogue person.city in
    let countries : it.country ≡ country_name catalogue person.city = country ∙ ap (λ r. text_or_empty (column r 7)) is ∙ country_read catalogue person.city in
    (λ i. record {
      branch = mine i;
      number = n;
      name = full_name (firsts i) (lasts i);
      address = addresses i;
      postal = postals i;
      phone = phones i;
      city = cities i;
      country = countries i;
    })

-- the person by the number that was read
pub numbered_person : (m n : ℕ) (it : ListedPerson) (row : PersonRow) → m ≡ n → seen_person n it ≡ row → seen_person m it ≡ row
numbered_person m n it row same is = ap (λ k. seen_person k it) same ∙ is

-- ---- the whole list

pub customers_are : (branch : ℕ) (catalogue : Catalogue) (k : ℕ) (mine : List (Row Customer)) → IsCounted k (map (λ row. row.number) mine)
    → map (listed_customer branch catalogue) mine
    ≡ map (λ (it : ℕ × Customer). (person_row catalogue branch it.0 it.1.person, it.1.active)) (numbered_from k (map (λ row. row.it) mine))
customers_are branch catalogue k [] counted = refl
customers_are branch catalogue k (x ∷ mine) counted =
    (λ i. (person_row catalogue branch (counted.0 i) x.it.person, x.it.active) ∷ customers_are branch catalogue (k + 1) mine counted.1 i)
