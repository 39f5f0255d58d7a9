-- The manual's views over the catalogue and one shop, as typed rows, and the text of each row. Rows are ordered by their numbers if nothing else is said (our
-- own, since a view has no order). Texts are ordered by their bytes (our own). The members of a row's text stand in the byte order of their names, which are
-- our own.
use Rattle.std.specs.Prelude.{ℕ, ◌==◌, ◌&&◌, ◌||◌, nat_lt, Bool, not, if◌then◌else◌, List, [], ◌∷◌, ◌++◌, codes, decimal, map, filter, flat_map, Option}
use Rattle.std.specs.Option.{option_to_list}
use Rattle.std.specs.Ordering.{is_le, nat_cmp}
use Rattle.std.specs.Cmp.Lexicographic.{slice_cmp}
use Rattle.std.specs.List.{list_any, join_by}
use Rattle.shop_model.specs.Rows.{at, is_empty, numbered, total}
use Rattle.shop_model.specs.Calendar.{Moment}
use Rattle.shop_model.specs.Values.{Text, Person, City, Actor, Film, Cast, Branch, Staff, Customer, Rental, Payment, View, CustomerList, StaffList, FilmList}
use Rattle.shop_model.specs.Values.{ActorInfo, SalesByStore, SalesByCategory}
use Rattle.shop_model.specs.Json.{quoted, number_or_null, object}
use Rattle.shop_model.specs.Shop.{Catalogue, Shop}
use Rattle.shop_model.specs.Stock.{film_of, overdue}

abbrev pub insert_by : {A : Type 0} → (A → A → Bool) → A → List A → List A
insert_by before x [] = x ∷ []
insert_by before x (y ∷ ys) = if before x y then x ∷ y ∷ ys else y ∷ insert_by before x ys

-- those that are alike keep their order
abbrev pub sorted_by : {A : Type 0} → (A → A → Bool) → List A → List A
sorted_by before [] = []
sorted_by before (x ∷ xs) = insert_by before x (sorted_by before xs)

abbrev pub is_before_text : Text → Text → Bool
is_before_text a b = is_le (slice_cmp nat_cmp a b)

abbrev pub full_name : Text → Text → Text
full_name first last = first ++ codes " " ++ last

abbrev pub person_name : Person → Text
person_name person = full_name person.first person.last

abbrev pub city_name : Catalogue → ℕ → Text
city_name catalogue city = flat_map (λ (it : City). it.name) (at city catalogue.cities)

abbrev pub country_name : Catalogue → ℕ → Text
country_name catalogue city = flat_map (λ (it : City). flat_map (λ name. name) (at it.country catalogue.countries)) (at city catalogue.cities)

abbrev pub category_name : Catalogue → ℕ → Text
category_name catalogue category = flat_map (λ name. name) (at category catalogue.categories)

-- ---- people

pub record PersonRow : Type 0 where
  pub branch : ℕ
  pub number : ℕ
  pub name : Text
  pub address : Text
  pub postal : Text
  pub phone : Text
  pub city : Text
  pub country : Text

abbrev pub person_row : Catalogue → ℕ → ℕ → Person → PersonRow
person_row catalogue b number person = record {
  branch = b;
  number = number;
  name = person_name person;
  address = person.address;
  postal = person.postal;
  phone = person.phone;
  city = city_name catalogue person.city;
  country = country_name catalogue person.city;
}

-- the members of a person's row, with those that stand between name and phone
abbrev pub person_text : List (Text × Text) → PersonRow → Text
person_text note it = object (
    (codes "address", quoted it.address)
    ∷ (codes "branch", decimal it.branch)
    ∷ (codes "city", quoted it.city)
    ∷ (codes "country", quoted it.country)
    ∷ (codes "id", decimal it.number)
    ∷ (codes "name", quoted it.name)
    ∷ (note ++ (codes "phone", quoted it.phone)
    ∷ (codes "postal", quoted it.postal)
    ∷ []))

abbrev pub listed_customer : PersonRow × Bool → Text
listed_customer it = person_text ((codes "note", quoted (if it.1 then codes "active" else [])) ∷ []) it.0

-- `customer_list` of the manual: all customers of the branch; a row, and whether the note is `active`
abbrev pub customer_list : ℕ → Catalogue → Shop → List (PersonRow × Bool)
customer_list b catalogue shop = map (λ (it : ℕ × Customer). (person_row catalogue b it.0 it.1.person, it.1.active)) (numbered shop.customers)

-- `staff_list` of the manual: all staff of the branch, those who left too (the last is our own)
abbrev pub staff_list : ℕ → Catalogue → List PersonRow
staff_list b catalogue =
    map (λ (it : ℕ × Staff). person_row catalogue b it.0 it.1.person) (filter (λ (it : ℕ × Staff). it.1.branch == b) (numbered catalogue.staff))

-- ---- overdue rentals

pub record OverdueRow : Type 0 where
  pub customer : Text
  pub phone : Text
  pub title : Text

-- the renter as "LAST, FIRST" with the phone, and the film's title
abbrev pub overdue_row : Catalogue → Shop → Rental → OverdueRow
overdue_row catalogue shop rental = record {
  customer = flat_map (λ (it : Customer). it.person.last ++ codes ", " ++ it.person.first) (at rental.customer shop.customers);
  phone = flat_map (λ (it : Customer). it.person.phone) (at rental.customer shop.customers);
  title = flat_map (λ (film : Film). film.title) (film_of catalogue shop rental);
}

-- the manual's example of overdue rentals, with the members that it shows
abbrev pub overdue_list : Catalogue → Shop → Moment → List OverdueRow
overdue_list catalogue shop moment = map (overdue_row catalogue shop) (overdue shop moment)

abbrev pub overdue_text : OverdueRow → Text
overdue_text it = object ((codes "customer", quoted it.customer) ∷ (codes "phone", quoted it.phone) ∷ (codes "title", quoted it.title) ∷ [])

-- ---- films

-- whether the actor plays in the film
abbrev pub is_cast : Catalogue → ℕ → ℕ → Bool
is_cast catalogue film actor = list_any (λ (it : Cast). it.film == film && it.actor == actor) catalogue.casts

-- the actors as "first last", by their numbers
abbrev pub actors_text : Catalogue → ℕ → Text
actors_text catalogue film =
    join_by (λ (it : ℕ × Actor). full_name it.1.first it.1.last) (codes ", ")
    (filter (λ (it : ℕ × Actor). is_cast catalogue film it.0) (numbered catalogue.actors))

pub record FilmRow : Type 0 where
  pub number : ℕ
  pub title : Text
  pub description : Text
  pub category : Text
  pub price : ℕ
  pub minutes : Option ℕ
  pub rating : Text
  pub actors : Text

abbrev pub film_row : Catalogue → ℕ × Film → FilmRow
film_row catalogue it = record {
  number = it.0;
  title = it.1.title;
  description = it.1.description;
  category = category_name catalogue it.1.category;
  price = it.1.rate;
  minutes = it.1.minutes;
  rating = it.1.rating;
  actors = actors_text catalogue it.0;
}

-- `film_list` of the manual: all films, withdrawn ones and those without actors too (both our own)
abbrev pub film_list : Catalogue → List FilmRow
film_list catalogue = map (film_row catalogue) (numbered catalogue.films)

abbrev pub listed_film : FilmRow → Text
listed_film it = object (
    (codes "actors", quoted it.actors)
    ∷ (codes "category", quoted it.category)
    ∷ (codes "description", quoted it.description)
    ∷ (codes "film", decimal it.number)
    ∷ (codes "length", number_or_null it.minutes)
    ∷ (codes "price", decimal it.price)
    ∷ (codes "rating", quoted it.rating)
    ∷ (codes "title", quoted it.title)
    ∷ [])

-- the categories by name
abbrev pub categories_by_name : Catalogue → List (ℕ × Text)
categories_by_name catalogue = sorted_by (λ (a b : ℕ × Text). is_before_text a.1 b.1) (numbered catalogue.categories)

-- an actor's films of a category, by title and then number
abbrev pub films_of : Catalogue → ℕ → ℕ → List (ℕ × Film)
films_of catalogue actor category =
    sorted_by (λ (a b : ℕ × Film). is_before_text a.1.title b.1.title)
    (filter (λ (it : ℕ × Film). it.1.category == category && is_cast catalogue it.0 actor) (numbered catalogue.films))

-- "Category: Title, Title"
abbrev pub group_text : Catalogue → ℕ → ℕ × Text → Text
group_text catalogue actor category = category.1 ++ codes ": " ++ join_by (λ (it : ℕ × Film). it.1.title) (codes ", ") (films_of catalogue actor category.0)

pub record ActorRow : Type 0 where
  pub number : ℕ
  pub first : Text
  pub last : Text
  pub films : Text

-- the films by category, those categories alone in which the actor has one
abbrev pub actor_row : Catalogue → ℕ × Actor → ActorRow
actor_row catalogue it = record {
  number = it.0;
  first = it.1.first;
  last = it.1.last;
  films =
      join_by (group_text catalogue it.0) (codes "; ") (filter (λ (c : ℕ × Text). not (is_empty (films_of catalogue it.0 c.0))) (categories_by_name catalogue));
}

-- `actor_info` of the manual: all actors, those without a film too (the last is our own)
abbrev pub actor_info : Catalogue → List ActorRow
actor_info catalogue = map (actor_row catalogue) (numbered catalogue.actors)

abbrev pub listed_actor : ActorRow → Text
listed_actor it =
    object ((codes "actor", decimal it.number) ∷ (codes "film_info", quoted it.films) ∷ (codes "first", quoted it.first) ∷ (codes "last", quoted it.last) ∷ [])

-- ---- sales

-- each payment that names a rental, with that rental: a payment without one counts in no sales (the manual's join)
abbrev pub paid_rentals : Shop → List (Payment × Rental)
paid_rentals shop = flat_map (λ (p : Payment). map (λ r. (p, r)) (flat_map (λ n. at n shop.rentals) (option_to_list p.rental))) shop.payments

abbrev pub takings : List (Payment × Rental) → ℕ
takings pairs = total (λ (it : Payment × Rental). it.0.amount) pairs

pub record StoreRow : Type 0 where
  pub store : Text
  pub manager : Text
  pub total : ℕ

abbrev pub manager_name : Catalogue → Branch → Text
manager_name catalogue branch = flat_map (λ (it : Staff). person_name it.person) (flat_map (λ s. at s catalogue.staff) (option_to_list branch.manager))

-- "city,country" and the manager's "first last", empty where none is set (the last is our own)
abbrev pub store_row : Catalogue → Shop → Branch → StoreRow
store_row catalogue shop branch = record {
  store = city_name catalogue branch.city ++ codes "," ++ country_name catalogue branch.city;
  manager = manager_name catalogue branch;
  total = takings (paid_rentals shop);
}

-- `sales_by_store` of the manual, for a branch: its own row (our own), or none where no such payment is
abbrev pub sales_by_store : ℕ → Catalogue → Shop → List StoreRow
sales_by_store b catalogue shop = if is_empty (paid_rentals shop) then [] else map (store_row catalogue shop) (at b catalogue.branches)

abbrev pub listed_store : StoreRow → Text
listed_store it = object ((codes "manager", quoted it.manager) ∷ (codes "store", quoted it.store) ∷ (codes "total", decimal it.total) ∷ [])

abbrev pub sales_of : Catalogue → Shop → ℕ → List (Payment × Rental)
sales_of catalogue shop category =
    filter (λ (it : Payment × Rental). list_any (λ (f : Film). f.category == category) (film_of catalogue shop it.1)) (paid_rentals shop)

-- the greatest total first (the manual), and then by name (our own)
abbrev pub sells_more : Text × ℕ → Text × ℕ → Bool
sells_more a b = nat_lt b.1 a.1 || a.1 == b.1 && is_before_text a.0 b.0

-- `sales_by_film_category` of the manual: the payments of a rental by the film's category; a category without such a payment isn't shown
abbrev pub sales_by_category : Catalogue → Shop → List (Text × ℕ)
sales_by_category catalogue shop =
    sorted_by sells_more (map (λ (c : ℕ × Text). (c.1, takings (sales_of catalogue shop c.0)))
    (filter (λ (c : ℕ × Text). not (is_empty (sales_of catalogue shop c.0))) (numbered catalogue.categories)))

abbrev pub listed_category : Text × ℕ → Text
listed_category it = object ((codes "category", quoted it.0) ∷ (codes "total", decimal it.1) ∷ [])

-- ---- any of them

-- its rows, by their texts
abbrev pub view_rows : ℕ → Catalogue → Shop → View → List Text
view_rows b catalogue shop CustomerList = map listed_customer (customer_list b catalogue shop)
view_rows b catalogue shop StaffList = map (person_text []) (staff_list b catalogue)
view_rows b catalogue shop FilmList = map listed_film (film_list catalogue)
view_rows b catalogue shop ActorInfo = map listed_actor (actor_info catalogue)
view_rows b catalogue shop SalesByStore = map listed_store (sales_by_store b catalogue shop)
view_rows b catalogue shop SalesByCategory = map listed_category (sales_by_category catalogue shop)
