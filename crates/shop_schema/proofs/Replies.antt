-- A reply is a text: an object whose names are plain and whose values are ASCII.
use Rattle.shop_schema.proofs.Common.{◌<◌, ◌/◌, ◌%◌, ◌==◌, ◌+◌, ℕ, zero, suc, List, [], ◌∷◌, ◌++◌, map, Bool, true, false, if◌then◌else◌, ◌≡◌, refl, arith}
use Rattle.shop_schema.proofs.Common.{nat_lt, list_all, and_parts, ltb-true, codes, decimal, IsUtf8, IsAscii, IsAscii-nil, IsAscii-cons, IsAscii-append}
use Rattle.shop_schema.proofs.Common.{IsUtf8-from_ascii, AllByRecursion, Text, comma_if, flag_text, items_text, numbers_text, object}
use Rattle.std.specs.Fmt.{digits, digits_onto, digit_glyph}
use Rattle.shop_model.specs.Json.{members_text, quoted}

abbrev pub is_plain : List ℕ → Bool
is_plain = list_all (λ b. nat_lt b 128)

pub ascii_bytes : (bytes : List ℕ) → is_plain bytes ≡ true → IsAscii bytes
ascii_bytes [] low = IsAscii-nil
ascii_bytes (b ∷ bytes) low =
    let each = and_parts (nat_lt b 128) (is_plain bytes) low in
    IsAscii-cons b bytes (ltb-true b 128 each.0) (ascii_bytes bytes each.1)

-- ---- values

glyph_low : (d : ℕ) → d < 10 → (small : Bool) → (if small then 48 + d else 87 + d) < 128
glyph_low d h true = omega (arith, h)
glyph_low d h false = omega (arith, h)

either_ascii : (b : Bool) (xs ys : List ℕ) → IsAscii xs → IsAscii ys → IsAscii (if b then xs else ys)
either_ascii true xs ys x y = x
either_ascii false xs ys x y = y

-- whatever the number: of one that is too long the last digits are digits all the same
digits_ascii : (k n : ℕ) (more : List ℕ) → IsAscii more → IsAscii (digits_onto k 10 false n more)
digits_ascii zero n more ascii = ascii
digits_ascii (suc k) n more ascii =
    let d = digit_glyph false (n % 10) in
    let one = IsAscii-cons d more (glyph_low (n % 10) (omega arith) (nat_lt (n % 10) 10)) ascii in
    either_ascii (n / 10 == 0) (d ∷ more) (digits_onto k 10 false (n / 10) (d ∷ more)) one (digits_ascii k (n / 10) (d ∷ more) one)

pub number_ascii : (n : ℕ) → IsAscii (decimal n)
unfolding digits
number_ascii n = digits_ascii 64 n [] IsAscii-nil

pub flag_ascii : (flag : Bool) → IsAscii (flag_text flag)
flag_ascii true = ascii_bytes (codes "true") refl
flag_ascii false = ascii_bytes (codes "false") refl

comma_ascii : (later : Bool) → IsAscii (comma_if later)
comma_ascii true = ascii_bytes (44 ∷ []) refl
comma_ascii false = IsAscii-nil

items_ascii : (later : Bool) (ns : List ℕ) → IsAscii (items_text later (map decimal ns))
items_ascii later [] = ascii_bytes (93 ∷ []) refl
items_ascii later (n ∷ ns) =
    IsAscii-append (comma_if later) (decimal n ++ items_text true (map decimal ns)) (comma_ascii later)
    (IsAscii-append (decimal n) (items_text true (map decimal ns)) (number_ascii n) (items_ascii true ns))

pub numbers_ascii : (ns : List ℕ) → IsAscii (numbers_text ns)
numbers_ascii ns = IsAscii-cons 91 (items_text false (map decimal ns)) (omega arith) (items_ascii false ns)

-- ---- members

abbrev pub AreAscii : List (Text × Text) → Type 0
AreAscii members = AllByRecursion (λ (it : Text × Text). IsAscii it.1) members

abbrev pub have_names : List (Text × Text) → Bool
have_names = list_all (λ (it : Text × Text). is_plain (quoted it.0))

members_ascii : (later : Bool) (members : List (Text × Text)) → have_names members ≡ true → AreAscii members → IsAscii (members_text later members)
members_ascii later [] names values = ascii_bytes (125 ∷ []) refl
members_ascii later (it ∷ members) names values =
    let parts = and_parts (is_plain (quoted it.0)) (have_names members) names in
    let behind = it.1 ++ members_text true members in
    IsAscii-append (comma_if later) (quoted it.0 ++ 58 ∷ behind) (comma_ascii later)
    (IsAscii-append (quoted it.0) (58 ∷ behind) (ascii_bytes (quoted it.0) parts.0)
    (IsAscii-cons 58 behind (omega arith) (IsAscii-append it.1 (members_text true members) values.0 (members_ascii true members parts.1 values.1))))

-- an object's text is UTF-8; the names of its members compute, so `have_names` is `refl` if `escape_byte` unfolds
pub object_utf8 : (members : List (Text × Text)) → have_names members ≡ true → AreAscii members → IsUtf8 (object members)
object_utf8 members names values = IsUtf8-from_ascii _ (IsAscii-cons 123 (members_text false members) (omega arith) (members_ascii false members names values))
