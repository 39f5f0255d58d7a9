-- What is found of listed copies and of a consignment is what the books have of them.
use Rattle.std.proofs.Common.{flat_map}
use Rattle.std.specs.Prelude.{◌||◌}
use Rattle.shop_schema.proofs.Common.{◌≡◌, ◌∙◌, refl, sym, ap, ℕ, ◌+◌, ◌<◌, Bool, true, false, not, List, [], ◌∷◌, ◌++◌, length, map, take, get_or, Option}
use Rattle.shop_schema.proofs.Common.{Some, None, append-nil, IfSome, if◌then◌else◌, list_any, map_push, take_more, at, lacks, numbered_from, of, in_stock}
use Rattle.shop_schema.proofs.Common.{Books, Mark, Consignment, shop_of, map_map, ParcelLine, seen_parcel_line}
use Rattle.shop_types.specs.NumberLists.{are_few}
use Rattle.shop_store.specs.declared.copies.CopyRow.{CopyRow}
use Rattle.shop_store.specs.Seen.{seen_copy_row}
use Rattle.consign_store.specs.declared.headers.HeaderRow.{HeaderRow}
use Rattle.consign_store.specs.declared.lines.LineRow.{LineRow}
use Rattle.consign_store.specs.Seen.{seen_header, seen_line}
use Rattle.consign_store.specs.Parts.{Header, Placed, header_of, placed_at, placed_in}
use Rattle.branch_core.specs.Marked.{copy_parts, line_parts, consignment_parts, listed_at, parts_at}
use Rattle.branch_core.proofs.MarkLemmas.{is_gone, listed_more, listed_agrees}
use Rattle.consign_finds.specs.Finds.{AreListed, copy_parcel, line_parcel}

-- ---- listed copies

-- one copy more
pub one_listed : (b : ℕ) (xs : List ℕ) (i x : ℕ) (books : Books) (row : CopyRow) (away outs out : Bool) (lines : List ParcelLine)
    → i < length xs → x ≡ get_or xs i x
    → ◌≡◌ {A = Bool × Bool × Bool × List (ℕ × Mark)} (false, away, outs, map seen_parcel_line lines) (listed_at b (take i xs) books)
    → (seen_copy_row row).it ∷ [] ≡ at x (of b books.copies) → out ≡ not (in_stock x (shop_of b books).rentals)
    → ◌≡◌ {A = Bool × Bool × Bool × List (ℕ × Mark)}
    (false, away || is_gone (Some (seen_copy_row row).it), outs || out, map seen_parcel_line (lines ++ copy_parcel row ∷ []))
    (listed_at b (take (i + 1) xs) books)
one_listed b xs i x books row away outs out lines lt is before read is_out =
    let grown : Bool × Bool × Bool × List (ℕ × Mark) → Bool × Bool × Bool × List (ℕ × Mark) =
    λ p. (p.0 || false, p.1 || is_gone (Some (seen_copy_row row).it), p.2 || out, p.3 ++ copy_parts (seen_copy_row row).it ∷ []) in
    (λ j. (false, away || is_gone (Some (seen_copy_row row).it), outs || out, map_push seen_parcel_line lines (copy_parcel row) j))
    ∙ ap grown before
    ∙ sym (listed_more b books (take i xs) x (Some (seen_copy_row row).it) out read is_out)
    ∙ ap (λ (ys : List ℕ). listed_at b ys books) (ap (λ (n : ℕ). take i xs ++ n ∷ []) is ∙ sym (take_more xs i x lt))

few_lines : (lines : List ParcelLine) (P : List ParcelLine → Type 0) (few : Bool) → P lines → IfSome (if few then Some lines else None) P
few_lines lines P true is = is
few_lines lines P false is = tt

-- if each of the listed copies was read
pub each_listed : (b : ℕ) (xs : List ℕ) (books : Books) (away outs : Bool) (lines : List ParcelLine) (told : Option (List ParcelLine))
    → ◌≡◌ {A = Bool × Bool × Bool × List (ℕ × Mark)} (false, away, outs, map seen_parcel_line lines) (listed_at b xs books)
    → told ≡ (if are_few lines then Some lines else None)
    → AreListed b xs (record { has_unknown = false; has_away = away; has_out = outs; lines = told }) books
each_listed b xs books away outs lines told is few = (
  listed_agrees b xs books (record { has_unknown = false; has_away = away; has_out = outs; lines = told }) (map seen_parcel_line lines) is,
  rw few
      (few_lines lines (λ these. map seen_parcel_line these ≡ parts_at b xs books) (are_few lines) (ap (λ (p : Bool × Bool × Bool × List (ℕ × Mark)). p.3) is)),
)

-- if one of the listed copies is unknown, nothing more is found
pub unknown_listed : (b : ℕ) (xs : List ℕ) (books : Books) → true ≡ list_any (lacks (shop_of b books).copies) xs
    → AreListed b xs (record { has_unknown = true; has_away = false; has_out = false; lines = None }) books
unknown_listed b xs books is = (record { unknown = is; away = λ known. absurd (differ known); out = λ known. absurd (differ known) }, tt)
  where
    differ : ◌≡◌ {A = Bool} true false → ⊥
    differ e = cc

-- ---- a consignment

-- numbered lines without their numbers are the list
unnumbered : {A B : Type 0} (g : A → B) (k : ℕ) (xs : List A) → map (λ (it : ℕ × A). g it.1) (numbered_from k xs) ≡ map g xs
unnumbered g k [] = refl
unnumbered g k (x ∷ xs) = ap (λ ys. g x ∷ ys) (unnumbered g (k + 1) xs)

lines_placed : (c : Consignment) → map (λ (p : Placed). line_parts p.it) (placed_in c) ≡ map line_parts c.lines
lines_placed c = map_map (λ (p : Placed). line_parts p.it) (placed_at c) (numbered_from 1 c.lines) ∙ unnumbered line_parts 1 c.lines

parcels_placed : (rows : List LineRow) → map seen_parcel_line (map line_parcel rows) ≡ map (λ (p : Placed). line_parts p.it) (map seen_line rows)
parcels_placed rows = map_map seen_parcel_line line_parcel rows ∙ sym (map_map (λ (p : Placed). line_parts p.it) seen_line rows)

-- no header
pub none_read : (found : List Consignment) → ◌≡◌ {A = List Header} [] (map header_of found)
    → ◌≡◌ {A = List (Bool × List (ℕ × Mark))} [] (map consignment_parts found)
none_read [] none = refl
none_read (c ∷ cs) none = absurd (some none)
  where
    some : {x : Header} {hs : List Header} → ◌≡◌ {A = List Header} [] (x ∷ hs) → ⊥
    some e = cc

abbrev first_received : List Header → Bool
first_received [] = false
first_received (h ∷ hs) = h.received

-- one header, and the lines
pub arrival_read : (header : HeaderRow) (rows : List LineRow) (found : List Consignment)
    → seen_header header ∷ [] ≡ map header_of found → map seen_line rows ≡ flat_map placed_in found
    → ◌≡◌ {A = List (Bool × List (ℕ × Mark))} ((header.received, map seen_parcel_line (map line_parcel rows)) ∷ []) (map consignment_parts found)
arrival_read header rows [] one lines = absurd (none one)
  where
    none : {x : Header} → ◌≡◌ {A = List Header} (x ∷ []) [] → ⊥
    none e = cc
arrival_read header rows (c ∷ []) one lines =
    let received : header.received ≡ c.received = ap first_received one in
    let parts = parcels_placed rows ∙ ap (map (λ (p : Placed). line_parts p.it)) (lines ∙ append-nil (placed_in c)) ∙ lines_placed c in
    λ i. (received i, parts i) ∷ []
arrival_read header rows (c ∷ d ∷ cs) one lines = absurd (two one)
  where
    two : {x y z : Header} {hs : List Header} → ◌≡◌ {A = List Header} (x ∷ []) (y ∷ z ∷ hs) → ⊥
    two e = cc
