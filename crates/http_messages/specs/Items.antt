-- Lists in a field's value, and the parts of a path.
use Rattle.std.specs.Prelude.{ℕ, Bool, ◌==◌, List, codes}
use Rattle.std.specs.List.{list_any, slice_split}
use Rattle.std.specs.Str.{str_eq_ignore_ascii_case}
use Rattle.httparse.specs.Grammar.{trim_ows}

-- the items of a list in a field's value stand between commas (RFC 9110, section 5.6.1)
abbrev pub items : List ℕ → List (List ℕ)
items value = slice_split (λ b. b == 44) value

-- the item, without the blanks and tabs at its ends, is `close` in any case
abbrev pub is_close : List ℕ → Bool
is_close item = str_eq_ignore_ascii_case (trim_ows item) (codes "close")

-- some item of a `connection` field's value is `close` (RFC 9112, section 9.6)
abbrev pub says_close : List ℕ → Bool
says_close value = list_any is_close (items value)

-- the parts of a path stand between its slashes; none is decoded (our own profile)
abbrev pub parts : List ℕ → List (List ℕ)
parts path = slice_split (λ b. b == 47) path
