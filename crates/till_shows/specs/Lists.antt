-- The tables of the lists in bodies, and the look-up of one number in a list.
use Rattle.std.specs.Prelude.{ℕ, ◌==◌, ◌&&◌, ◌||◌, Bool, true, false, not, List, [], ◌∷◌, ◌++◌, map, filter, length, Option, Some, None, option_map}
use Rattle.std.specs.Prelude.{option_and_then, codes, if◌then◌else◌}
use Rattle.std.specs.Prelude.{chars, encode_utf8_all}
use Rattle.std.specs.List.{list_all, slice_split}
use Rattle.std.specs.Option.{option_to_list}
use Rattle.caseless.specs.Caseless.{default_case_fold}
use Rattle.serde_json.specs.Data.{Data}
use Rattle.shop_model.specs.Values.{Text}
use Rattle.till_shows.specs.Bodies.{body_of, each, rows_in, text_at, has_number}
use Rattle.till_shows.specs.Fields.{Field, plain_field, number_field, money_field, searched_field, row_of}
use Rattle.till_shows.specs.Lines.{Table}

-- ---- what is looked for

-- a hyphen (45) of the text that the part leaves out
abbrev pub is_left_out : ℕ → ℕ → Bool
is_left_out p t = t == 45 && not (p == 45)

-- The text begins with the part. The part may leave out hyphens: `55512` begins `555-12`.
abbrev pub begins_with : Text → Text → Bool
begins_with [] text = true
begins_with (p ∷ part) [] = false
begins_with (p ∷ part) (t ∷ text) = if is_left_out p t then begins_with (p ∷ part) text
    else (p == t && begins_with part text)

-- the text contains the part; each text contains an empty part
abbrev pub stands_in : Text → Text → Bool
stands_in part [] = length part == 0
stands_in part (x ∷ text) = begins_with part (x ∷ text) || stands_in part text

-- the text without upper and lower case, of any script (Unicode's default case folding)
abbrev pub folded : Text → Text
folded text = encode_utf8_all (default_case_fold (chars text))

-- the object's text of this field, if the field is searched and the object has it
abbrev pub searched_text : Data → Field → Option Text
searched_text d field = if field.is_searched then option_map folded (text_at field.name d) else None

abbrev pub searched_texts : List Field → Data → List Text
searched_texts [] d = []
searched_texts (field ∷ fields) d = option_to_list (searched_text d field) ++ searched_texts fields d

-- one of the texts contains the part
abbrev pub is_found : List Text → Text → Bool
is_found [] part = length part == 0
is_found (text ∷ texts) part = stands_in part text || is_found texts part

-- each word of the text is found; commas (44) separate the words
abbrev pub are_found : List Text → Text → Bool
are_found texts text = list_all (is_found texts) (slice_split (λ b. b == 44) text)

-- Each word of the text is found, in any order; blanks (32) and commas separate the words. An empty word is found in any texts.
abbrev pub is_sought : List Text → Text → Bool
is_sought texts text = list_all (are_found texts) (slice_split (λ b. b == 32) text)

-- the words are found in the object
abbrev pub has_words : Text → List Field → Data → Bool
has_words text fields d = is_sought (searched_texts fields d) text

-- ---- tables

-- the table with its headings and no row
abbrev pub headed : List Field → Table
headed fields = record { sides = map (λ (field : Field). field.side) fields; rows = map (λ (field : Field). field.heading) fields ∷ [] }

abbrev pub more_rows : Table → List (List Text) → Table
more_rows table rows = record { sides = table.sides; rows = table.rows ++ rows }

-- a row for each object in which the text's words are found, in their order, and no other row
abbrev pub found_rows : List Field → Text → List Data → Option (List (List Text))
found_rows fields part ds = each (row_of fields) (filter (has_words part fields) ds)

-- the rows of the body's objects in which the part's words are found, below their headings
abbrev pub table_in : List Field → Text → Text → Option Table
table_in fields part body = option_map (more_rows (headed fields)) (option_and_then (found_rows fields part) (option_and_then rows_in (body_of body)))

-- the rows of all objects of the body, below their headings
abbrev pub whole_table : List Field → Text → Option Table
whole_table fields body = option_map (more_rows (headed fields)) (option_and_then (each (row_of fields)) (option_and_then rows_in (body_of body)))

abbrev pub customer_fields : List Field
customer_fields =
    number_field (codes "id") (codes "customer")
    ∷ searched_field (codes "name") (codes "name")
    ∷ searched_field (codes "phone") (codes "phone")
    ∷ plain_field (codes "address") (codes "address")
    ∷ plain_field (codes "city") (codes "city")
    ∷ plain_field (codes "note") (codes "note")
    ∷ []

abbrev pub film_fields : List Field
film_fields =
    number_field (codes "film") (codes "film")
    ∷ searched_field (codes "title") (codes "title")
    ∷ plain_field (codes "rating") (codes "rating")
    ∷ money_field (codes "price") (codes "price")
    ∷ plain_field (codes "category") (codes "category")
    ∷ []

abbrev pub overdue_fields : List Field
overdue_fields =
    plain_field (codes "customer") (codes "customer")
    ∷ plain_field (codes "phone") (codes "phone")
    ∷ plain_field (codes "title") (codes "title")
    ∷ []

abbrev pub arrival_fields : List Field
arrival_fields =
    number_field (codes "from") (codes "from")
    ∷ number_field (codes "number") (codes "number")
    ∷ plain_field (codes "films") (codes "films")
    ∷ plain_field (codes "received") (codes "received")
    ∷ []

abbrev pub sent_fields : List Field
sent_fields =
    number_field (codes "to") (codes "to")
    ∷ number_field (codes "number") (codes "number")
    ∷ plain_field (codes "films") (codes "films")
    ∷ []

abbrev pub store_fields : List Field
store_fields =
    plain_field (codes "store") (codes "store")
    ∷ plain_field (codes "manager") (codes "manager")
    ∷ money_field (codes "total") (codes "total")
    ∷ []

abbrev pub category_fields : List Field
category_fields = plain_field (codes "category") (codes "category") ∷ money_field (codes "total") (codes "total") ∷ []

-- ---- one number

-- the text `name` of the first object whose number `by` is `n`, or none if there is no such object
abbrev pub first_named : Text → ℕ → Text → List Data → Option (Option Text)
first_named by n name [] = Some None
first_named by n name (d ∷ ds) = if has_number by n d then option_map Some (text_at name d) else first_named by n name ds

abbrev pub named_in : Text → ℕ → Text → Text → Option (Option Text)
named_in by n name body = option_and_then (first_named by n name) (option_and_then rows_in (body_of body))
