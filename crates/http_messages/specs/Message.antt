-- What a request says: the parts of its head that the service looks at, and its body.
-- The head is one of RFC 9112 in httparse's grammar. All other fields are ignored, and a missing `host`
-- is not refused (our own profile).
use Rattle.std.specs.Prelude.{ℕ, ◌&&◌, ◌||◌, ◌==◌, Bool, true, false, List, [], ◌∷◌, length, map, if◌then◌else◌, Option, Some, None, codes}
use Rattle.std.specs.List.{list_any}
use Rattle.std.specs.Str.{bytes_eq, str_eq_ignore_ascii_case}
use Rattle.httparse.specs.Grammar.{RequestHead}
use Rattle.httparse.specs.Spans.{name_and_value}
use Rattle.shop_types.specs.Digits.{decimal_value}
use Rattle.http_messages.specs.Items.{says_close}

-- a request: POST or else GET, the target's bytes, the caller's token if there is exactly one, whether the
-- connection ends after it, and the body's bytes
pub record Message : Type 0 where
  pub posts : Bool
  pub target : List ℕ
  pub token : Option (List ℕ)
  pub closes : Bool
  pub body : List ℕ

-- a field's name, and its value without the blanks and tabs at both ends
abbrev pub Pair : Type 0
Pair = List ℕ × List ℕ

-- two names that differ in the case of ASCII letters at most (RFC 9110, section 5.1)
abbrev pub same_name : List ℕ → List ℕ → Bool
same_name = str_eq_ignore_ascii_case

-- the values of the fields of this name, in order
abbrev pub values_of : List ℕ → List Pair → List (List ℕ)
values_of name [] = []
values_of name (p ∷ ps) = if same_name p.0 name then p.1 ∷ values_of name ps else values_of name ps

-- the fields of a head
abbrev pub pairs_of : RequestHead → List Pair
pairs_of h = map name_and_value h.fields

-- The body's size by the values of `content-length`: 0 if there is none (RFC 9112, section 6.3). It has no size if
-- there is more than one, even equal ones (our own profile), or one that is no size.
abbrev pub size_in : List (List ℕ) → Option ℕ
size_in [] = Some 0
size_in (v ∷ []) = decimal_value v
size_in (v ∷ w ∷ vs) = None

-- the value, where there is exactly one
abbrev pub only_one : List (List ℕ) → Option (List ℕ)
only_one [] = None
only_one (v ∷ []) = Some v
only_one (v ∷ w ∷ vs) = None

-- methods are compared with their case (RFC 9110, section 9.1)
abbrev pub is_get : List ℕ → Bool
is_get method = bytes_eq method (codes "GET")

abbrev pub is_post : List ℕ → Bool
is_post method = bytes_eq method (codes "POST")

-- there is no value
abbrev pub is_absent : List (List ℕ) → Bool
is_absent [] = true
is_absent (v ∷ vs) = false

-- The body's size by a head's method and fields. A head without one is refused. It has none if the method is
-- neither GET nor POST, if there is a `transfer-encoding` field, or if `content-length` gives none (our own profile).
abbrev pub size_of_pairs : List ℕ → List Pair → Option ℕ
size_of_pairs method pairs =
    if (is_get method || is_post method) && is_absent (values_of (codes "transfer-encoding") pairs)
    then size_in (values_of (codes "content-length") pairs)
    else None

-- the body's size by a head
abbrev pub body_size : RequestHead → Option ℕ
body_size h = size_of_pairs h.method (pairs_of h)

-- the connection ends after the reply to HTTP/1.0, and to a request with an item `close` in a
-- `connection` field (RFC 9112, section 9.3; `keep-alive` changes nothing, by our own profile)
abbrev pub asks_close : ℕ → List Pair → Bool
asks_close minor pairs =
    minor == 0 || list_any says_close (values_of (codes "connection") pairs)

-- the message of a head and a body
abbrev pub message : RequestHead → List ℕ → Message
message h body = record {
  posts = is_post h.method;
  target = h.target;
  token = only_one (values_of (codes "counter-token") (pairs_of h));
  closes = asks_close h.minor (pairs_of h);
  body = body;
}
