-- Consignments from the rows of their two tables.
use Rattle.std.specs.Prelude.{ℕ, Bool, if◌then◌else◌, List, [], ◌∷◌, map, Option, Some, None}
use Rattle.std.specs.Str.{bytes_eq}
use Rattle.shop_model.specs.Rows.{numbered}
use Rattle.shop_model.specs.Books.{Line, Consignment}
use Rattle.audit_rows.specs.Lists.{Key, counts_from, front_of, back_of}

-- a row of the table `consignment`
pub record Header : Type 0 where
  pub source : ℕ
  pub addressee : ℕ
  pub number : ℕ
  pub place : ℕ
  pub received : Bool

-- a row of the table `consignment_line`
pub record Placed : Type 0 where
  pub source : ℕ
  pub addressee : ℕ
  pub number : ℕ
  pub at : ℕ
  pub line : Line

abbrev pub header_key : Header → Key
header_key h = h.source ∷ h.addressee ∷ h.number ∷ []

-- the key of the consignment, and that of the line
abbrev pub group_key : Placed → Key
group_key p = p.source ∷ p.addressee ∷ p.number ∷ []

abbrev pub placed_key : Placed → Key
placed_key p = p.source ∷ p.addressee ∷ p.number ∷ p.at ∷ []

abbrev pub header : Consignment → Header
header it = record { source = it.source; addressee = it.addressee; number = it.number; place = it.place; received = it.received }

abbrev pub put_line : Header → ℕ × Line → Placed
put_line h it = record { source = h.source; addressee = h.addressee; number = h.number; at = it.0; line = it.1 }

abbrev pub placed : Consignment → List Placed
placed it = map (put_line (header it)) (numbered it.lines)

abbrev pub whole : Header → List Placed → Consignment
whole h ps = record { source = h.source; addressee = h.addressee; number = h.number; place = h.place; received = h.received; lines = map (λ p. p.line) ps }

abbrev pub is_line_of : Header → Placed → Bool
is_line_of h p = bytes_eq (group_key p) (header_key h)

abbrev pub with_first : Consignment → Option (List Consignment) → Option (List Consignment)
with_first it None = None
with_first it (Some its) = Some (it ∷ its)

-- in the order of the keys, each consignment's lines come first, from 1 on without a gap, and no line is left over
abbrev pub join : List Header → List Placed → Option (List Consignment)
join [] [] = Some []
join [] (p ∷ ps) = None
join (h ∷ hs) ps =
    if counts_from 1 (map (λ p. p.at) (front_of (is_line_of h) ps))
    then with_first (whole h (front_of (is_line_of h) ps)) (join hs (back_of (is_line_of h) ps))
    else None
