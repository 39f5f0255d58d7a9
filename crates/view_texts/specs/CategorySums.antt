-- What the view of sales by category has of the rows so far.
use Rattle.std.specs.Prelude.{◌≡◌, ℕ, ◌+◌, List, [], ◌∷◌, map, filter, flat_map, Option, Some, unwrap_or}
use Rattle.std.specs.Option.{option_to_list}
use Rattle.sqlite.specs.declared.types.Value.TheVariants as sql_values
use Rattle.sqlite_value.specs.Order as sql
use Rattle.sql_rows.specs.Rows.{number_value}
use Rattle.shop_model.specs.Rows.{numbered}
use Rattle.shop_model.specs.Values.{Text}
use Rattle.shop_model.specs.Books.{Books}
use Rattle.view_texts.specs.Payments.{PaidLine, shown_line, paid_lines, Sale, sale_in, is_sale_of}
use Rattle.view_texts.specs.Sales.{sum_of}
use Rattle.view_texts.specs.declared.categories.CategorySum.{CategorySum}
use Rattle.view_texts.specs.declared.categories.CategoryNames.{CategoryNames}
use Rattle.view_texts.specs.declared.categories.CategorySums.{CategorySums}

abbrev pub shown_category : ℕ × Text → sql.Row
shown_category it = number_value it.0 ∷ sql_values.Text it.1 ∷ []

abbrev pub seen_sum : CategorySum → Text × Option ℕ
seen_sum it = (it.name, it.sum)

-- a category with the sum of the sales of its films, if there are any
abbrev pub sum_in : List Sale → ℕ × Text → Text × Option ℕ
sum_in sales it = (it.1, sum_of (filter (is_sale_of it.0) sales))

abbrev pub summed : List Text → List Sale → List (Text × Option ℕ)
summed names sales = map (sum_in sales) (numbered names)

abbrev pub with_amount : ℕ → Text × Option ℕ → Text × Option ℕ
with_amount amount it = (it.0, Some (unwrap_or it.1 0 + amount))

-- the categories that have a sum
abbrev pub sold : List (Text × Option ℕ) → List (Text × ℕ)
sold sums = flat_map (λ (it : Text × Option ℕ). map (λ total. (it.0, total)) (option_to_list it.1)) sums

-- the sales of the branch's payments
abbrev pub sales_of_branch : ℕ → Books → List Sale
sales_of_branch b books = flat_map sale_in (paid_lines b books)

-- the list has the categories of the rows, without sums
abbrev pub HasNames : CategoryNames → CategoryNames → List sql.Row → Type 0
HasNames start it given = (categories : List (ℕ × Text)) → given ≡ map shown_category categories → map seen_sum it.sums.items ≡ map (sum_in []) categories

-- the categories had no sums at first; now they have the sums of the rows
abbrev pub HasSums : CategorySums → CategorySums → List sql.Row → Type 0
HasSums start it given =
    (names : List Text) (lines : List PaidLine) → given ≡ map shown_line lines → map seen_sum start.sums.items ≡ summed names []
    → map seen_sum it.sums.items ≡ summed names (flat_map sale_in lines)
