-- What the two views of sales read of a branch, and what they have from the rows so far.
use Rattle.std.specs.Prelude.{◌≡◌, ℕ, List, [], ◌∷◌, ◌++◌, codes, map, flat_map, if◌then◌else◌, Option, None, Some, option_map}
use Rattle.std.specs.Option.{option_to_list}
use Rattle.sqlite.specs.declared.types.Value.TheVariants.{Text}
use Rattle.sqlite.specs.Values.{or_null}
use Rattle.sqlite_value.specs.Order as sql
use Rattle.sql_rows.specs.Rows.{number_value}
use Rattle.shop_model.specs.Rows.{at, is_empty, numbered, total}
use Rattle.shop_model.specs.Values.{City, Branch, Staff}
use Rattle.shop_model.specs.Shop.{Catalogue, Shop}
use Rattle.shop_model.specs.Books.{Books, head, shop_of}
use Rattle.shop_model.specs.Views.{StoreRow, city_name, country_name, manager_name, paid_rentals, takings, sales_by_store}
use Rattle.shop_views.specs.Sales.{seen_store}
use Rattle.view_texts.specs.Shown.{name_or_null}
use Rattle.view_texts.specs.Payments.{PaidLine, shown_line, Sale, sale_in}
use Rattle.view_texts.specs.declared.stores.SalesSum.{SalesSum}
use Rattle.view_texts.specs.declared.stores.FoundStore.{FoundStore}

-- ---- sums

-- the sum of the sales, if there are any
abbrev pub sum_of : List Sale → Option ℕ
sum_of sales = if is_empty sales then None else Some (total (λ (it : Sale). it.amount) sales)

-- the sum of the payments that name a rental, if there are any
abbrev pub rental_sum : Shop → Option ℕ
rental_sum shop = if is_empty (paid_rentals shop) then None else Some (takings (paid_rentals shop))

-- `sum` is the sum of the rows' sales
abbrev pub HasSold : SalesSum → SalesSum → List sql.Row → Type 0
HasSold start it given = (lines : List PaidLine) → given ≡ map shown_line lines → it.sum ≡ sum_of (flat_map sale_in lines)

-- ---- branches

abbrev pub manager_of : Catalogue → Branch → Option Staff
manager_of catalogue branch = head (flat_map (λ n. at n catalogue.staff) (option_to_list branch.manager))

abbrev pub shown_store : Catalogue → ℕ × Branch → sql.Row
shown_store catalogue it =
    number_value it.0 ∷ name_or_null (map (λ (city : City). city.name) (at it.1.city catalogue.cities))
    ∷ name_or_null (flat_map (λ (city : City). at city.country catalogue.countries) (at it.1.city catalogue.cities))
    ∷ or_null (λ (staff : Staff). Text staff.person.first) (manager_of catalogue it.1)
    ∷ or_null (λ (staff : Staff). Text staff.person.last) (manager_of catalogue it.1) ∷ []

-- a branch with any sum
abbrev pub store_with : Catalogue → ℕ → Branch → StoreRow
store_with catalogue sum branch = record {
  store = city_name catalogue branch.city ++ codes "," ++ country_name catalogue branch.city;
  manager = manager_name catalogue branch;
  total = sum;
}

-- the branch, if one was found
abbrev pub HasFound : FoundStore → FoundStore → List sql.Row → Type 0
HasFound start it given =
    (catalogue : Catalogue) (found : Option (ℕ × Branch)) → given ≡ map (shown_store catalogue) (option_to_list found)
    → option_map seen_store it.row ≡ option_map (λ (it : ℕ × Branch). store_with catalogue 0 it.1) found

-- ---- all branches

abbrev pub sales_of_branch : Books → ℕ → List StoreRow
sales_of_branch books b = sales_by_store b books.catalogue (shop_of b books)

-- the rows of `branches`, which are the first branches
abbrev pub sales_of_first : Books → List Branch → List StoreRow
sales_of_first books branches = flat_map (λ (it : ℕ × Branch). sales_of_branch books it.0) (numbered branches)
