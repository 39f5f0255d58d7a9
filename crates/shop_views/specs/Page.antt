-- A JSON list, some of whose values are written.
use Rattle.std.specs.Prelude.{◌≡◌, Bool, not, if◌then◌else◌, List, [], ◌∷◌, ◌++◌, codes}
use Rattle.shop_model.specs.Rows.{is_empty}
use Rattle.shop_model.specs.Values.{Text}

-- what comes before an item: the bracket that opens the list, or a comma
abbrev pub opening : Bool → Text
opening later = if later then codes "," else codes "["

-- what ends a list: the closing bracket, or both brackets if the list has no item
abbrev pub closing : Bool → Text
closing some = if some then codes "]" else codes "[]"

-- the text of items that come after other items
abbrev pub later_text : List Text → Text
later_text [] = []
later_text (item ∷ items) = 44 ∷ (item ++ later_text items)

-- a list without its closing bracket; an empty text if the list has no item
abbrev pub open_text : List Text → Text
open_text [] = []
open_text (item ∷ items) = 91 ∷ (item ++ later_text items)

pub record Page : Type 0 where
  pub text : Text
  pub has_items : Bool

-- the page that has the items
abbrev pub page_of : List Text → Page
page_of items = record { text = open_text items; has_items = not (is_empty items) }

-- the page has the texts as its items, in their order
abbrev pub HasTexts : Page → List Text → Type 0
HasTexts page texts = page ≡ page_of texts
