-- What lists take from the rows of a query, row by row.
use Rattle.std.specs.Prelude.{◌≡◌, List, [], ◌∷◌, ◌++◌}
use Rattle.sqlite_value.specs.Order as sql
use Rattle.shop_model.specs.Values.{Text}
use Rattle.shop_views.specs.Page.{Page, HasTexts}

-- the texts are read from the rows; `reads` says which texts are read from one row
unfoldable pub IsRead : (sql.Row → List Text → Type 0) → List sql.Row → List Text → Type 0
IsRead reads [] texts = texts ≡ []
IsRead reads (row ∷ rows) texts = (first : List Text) × (rest : List Text) × reads row first × IsRead reads rows rest × (texts ≡ first ++ rest)

-- the page has the texts that were read from the rows
abbrev pub HasRead : (sql.Row → List Text → Type 0) → List sql.Row → Page → Type 0
HasRead reads rows page = (texts : List Text) × IsRead reads rows texts × HasTexts page texts
