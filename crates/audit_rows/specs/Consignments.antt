-- Tests of consignments, over the rows of their two tables in the order of the keys.
use Rattle.std.specs.Prelude.{ℕ, ◌+◌, ◌==◌, ◌&&◌, nat_lt, nat_le, Bool, true, not, if◌then◌else◌, List, [], ◌∷◌, length, map}
use Rattle.std.specs.List.{list_all}
use Rattle.shop_model.specs.Books.{Line, UnderWay, Consignment}
use Rattle.shop_model.specs.Sound.{line_is}
use Rattle.audit_rows.specs.Lists.{front_of, back_of}
use Rattle.audit_rows.specs.Joins.{Header, Placed, is_line_of}
use Rattle.audit_rows.specs.Shops.{is_among}

-- under way or not, as the consignment says, and of one of so many films
abbrev pub is_good_line : ℕ → Bool → Line → Bool
is_good_line films received line = (if received then not (line_is line.state UnderWay) else line_is line.state UnderWay) && is_among films line.film

abbrev pub are_good_lines : ℕ → Bool → List Line → Bool
are_good_lines films received lines = nat_lt 0 (length lines) && nat_le (length lines) 100 && list_all (is_good_line films received) lines

abbrev pub is_good_consignment : ℕ → Consignment → Bool
is_good_consignment films it = are_good_lines films it.received it.lines

-- each header with the lines that stand in front
abbrev pub are_settled : ℕ → List Header → List Placed → Bool
are_settled films [] ps = true
are_settled films (h ∷ hs) ps =
    are_good_lines films h.received (map (λ p. p.line) (front_of (is_line_of h) ps)) && are_settled films hs (back_of (is_line_of h) ps)

-- ---- numbers of a sender and an addressee

abbrev pub is_pair : ℕ → ℕ → Header → Bool
is_pair source addressee h = h.source == source && h.addressee == addressee

-- the next of the same two has the next number and a later place, and the first of any two has number 1
abbrev pub follows : Header → Header → Bool
follows last h = if is_pair h.source h.addressee last then h.number == last.number + 1 && nat_lt last.place h.place else h.number == 1

abbrev pub pairs_follow_from : Header → List Header → Bool
pairs_follow_from last [] = true
pairs_follow_from last (h ∷ hs) = follows last h && pairs_follow_from h hs

abbrev pub pairs_follow : List Header → Bool
pairs_follow [] = true
pairs_follow (h ∷ hs) = h.number == 1 && pairs_follow_from h hs
