-- JSON texts with no white space (RFC 8259), as bodies of replies are. A value stands here as its text.
use Rattle.std.specs.Prelude.{ℕ, ◌/◌, ◌%◌, ◌==◌, ◌||◌, nat_lt, Bool, true, false, cond, if◌then◌else◌, List, [], ◌∷◌, ◌++◌, map, flat_map, codes, decimal}
use Rattle.std.specs.Prelude.{Option, Some, None}
use Rattle.std.specs.Char.{digit_char}
use Rattle.shop_model.specs.Values.{Text}

-- the letter of a byte's short escape, or 0 where it has none
abbrev pub escape_letter : ℕ → ℕ
escape_letter x = cond ((x == 34) || (x == 92)) x (cond (x == 8) 98 (cond (x == 12) 102 (cond (x == 10) 110 (cond (x == 13) 114 (cond (x == 9) 116 0)))))

-- what stands in a string for a byte: the shortest escape of a quote, a backslash or a control byte, else the byte
unfoldable pub escape_byte : ℕ → Text
escape_byte x =
    cond (nat_lt 0 (escape_letter x)) (92 ∷ escape_letter x ∷ [])
    (cond (nat_lt x 32) (92 ∷ 117 ∷ 48 ∷ 48 ∷ digit_char (x / 16) ∷ digit_char (x % 16) ∷ []) (x ∷ []))

abbrev pub quoted : Text → Text
quoted text = 34 ∷ (flat_map escape_byte text ++ 34 ∷ [])

abbrev pub flag_text : Bool → Text
flag_text true = codes "true"
flag_text false = codes "false"

abbrev pub number_or_null : Option ℕ → Text
number_or_null None = codes "null"
number_or_null (Some n) = decimal n

-- a comma, where something stands before
abbrev pub comma_if : Bool → Text
comma_if later = if later then 44 ∷ [] else []

-- the items of a list, with its closing bracket
abbrev pub items_text : Bool → List Text → Text
items_text later [] = 93 ∷ []
items_text later (item ∷ items) = comma_if later ++ (item ++ items_text true items)

abbrev pub array : List Text → Text
array items = 91 ∷ items_text false items

abbrev pub numbers_text : List ℕ → Text
numbers_text ns = array (map decimal ns)

-- the members of an object, each a name and a value, with its closing brace
abbrev pub members_text : Bool → List (Text × Text) → Text
members_text later [] = 125 ∷ []
members_text later (member ∷ members) = comma_if later ++ (quoted member.0 ++ 58 ∷ (member.1 ++ members_text true members))

-- members stand in the byte order of their names
abbrev pub object : List (Text × Text) → Text
object members = 123 ∷ members_text false members
