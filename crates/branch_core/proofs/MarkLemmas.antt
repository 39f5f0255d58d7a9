-- What was found of copies and of a consignment in the books is what the branch's shop has of them.
use Rattle.std.proofs.Common.{option_map}
use Rattle.std.specs.Prelude.{◌||◌, option_to_list}
use Rattle.shop_types.proofs.Common.{arith, Copy, ◌≡◌, ◌∙◌, refl, sym, ap, ℕ, Bool, false, not, List, [], ◌∷◌, ◌++◌, map, filter, Option, Some, None}
use Rattle.shop_types.proofs.Common.{append-nil, is_none, list_any, or-false, list_any-append, flat_map-append, at, lacks, of, Arrival, is_here, in_stock}
use Rattle.shop_types.proofs.Common.{is_away, HasNumbers, Books, BookCopy, Mark, Consignment, as_arrival, head, is_consignment, shop_of, unmarked, map_map}
use Rattle.shop_types.proofs.Common.{map_at, arrival_of, seen_parcel_line}
use Rattle.branch_core.specs.declared.found.ArrivalFound.{ArrivalFound}
use Rattle.branch_core.specs.declared.found.ListedFound.{ListedFound}
use Rattle.branch_core.specs.Agreed.{ListedAgrees, seen_arrival, arrival_at}
use Rattle.branch_core.specs.Marked.{copy_parts, line_parts, parts_at, listed_at, arrival_parts, consignment_parts, IsArrival}

-- ---- copies that are listed

-- if all of the copies were read
pub listed_agrees : (b : ℕ) (xs : List ℕ) (books : Books) (it : ListedFound) (parts : List (ℕ × Mark))
    → ◌≡◌ {A = Bool × Bool × Bool × List (ℕ × Mark)} (it.has_unknown, it.has_away, it.has_out, parts) (listed_at b xs books)
    → ListedAgrees (shop_of b books) xs it
listed_agrees b xs books it parts is = record {
  unknown = ap (λ (p : Bool × Bool × Bool × List (ℕ × Mark)). p.0) is;
  away = λ known. ap (λ (p : Bool × Bool × Bool × List (ℕ × Mark)). p.1) is;
  out = λ known here. ap (λ (p : Bool × Bool × Bool × List (ℕ × Mark)). p.2) is;
}

any_more : (p : ℕ → Bool) (xs : List ℕ) (x : ℕ) → list_any p (xs ++ x ∷ []) ≡ (list_any p xs || p x)
any_more p xs x = list_any-append p xs (x ∷ []) ∙ ap (λ (b : Bool). list_any p xs || b) (or-false (p x))

-- not here, where there is a copy
abbrev pub is_gone : Option BookCopy → Bool
is_gone None = false
is_gone (Some copy) = not (is_here (unmarked copy))

module _ (b : ℕ) (books : Books) where
  parts_more : (xs : List ℕ) (x : ℕ) → parts_at b (xs ++ x ∷ []) books ≡ parts_at b xs books ++ map copy_parts (at x (of b books.copies))
  parts_more xs x =
      flat_map-append (λ (y : ℕ). map copy_parts (at y (of b books.copies))) xs (x ∷ [])
      ∙ ap (λ (parts : List (ℕ × Mark)). parts_at b xs books ++ parts) (append-nil (map copy_parts (at x (of b books.copies))))

  -- one number more, whose copy was read
  module _ (xs : List ℕ) (x : ℕ) (copy : Option BookCopy) (out : Bool) (read : option_to_list copy ≡ at x (of b books.copies))
      (is_out : out ≡ not (in_stock x (shop_of b books).rentals)) where
    there : at x (shop_of b books).copies ≡ map unmarked (option_to_list copy)
    there = sym (map_at unmarked x (of b books.copies)) ∙ ap (map unmarked) (sym read)

    unknown_is : lacks (shop_of b books).copies x ≡ is_none copy
    unknown_is = let rows = there in grind (arith, rows)

    away_is : is_away (shop_of b books).copies x ≡ is_gone copy
    away_is =
        ap (list_any (λ (it : Copy). not (is_here it))) there
        ∙ elim copy as (λ it. list_any (λ (c : Copy). not (is_here c)) (map unmarked (option_to_list it)) ≡ is_gone it) [
          | None ↦ refl
          | Some it ↦ or-false (not (is_here (unmarked it)))
        ]

    pub listed_more : ◌≡◌ {A = Bool × Bool × Bool × List (ℕ × Mark)} (listed_at b (xs ++ x ∷ []) books) (
      list_any (lacks (shop_of b books).copies) xs || is_none copy,
      list_any (is_away (shop_of b books).copies) xs || is_gone copy,
      list_any (λ y. not (in_stock y (shop_of b books).rentals)) xs || out,
      parts_at b xs books ++ map copy_parts (option_to_list copy),
    )
    listed_more =
        let shop = shop_of b books in
        let unknown = any_more (lacks shop.copies) xs x ∙ ap (λ (t : Bool). list_any (lacks shop.copies) xs || t) unknown_is in
        let away = any_more (is_away shop.copies) xs x ∙ ap (λ (t : Bool). list_any (is_away shop.copies) xs || t) away_is in
        let outs = any_more (λ y. not (in_stock y shop.rentals)) xs x ∙ ap (λ (t : Bool). list_any (λ y. not (in_stock y shop.rentals)) xs || t) (sym is_out) in
        let parts = parts_more xs x ∙ ap (λ (copies : List BookCopy). parts_at b xs books ++ map copy_parts copies) (sym read) in
        λ i. (unknown i, away i, outs i, parts i)

-- ---- a consignment

-- its films alone
abbrev films_of : Bool × List (ℕ × Mark) → Bool × List ℕ
films_of p = (p.0, map (λ (part : ℕ × Mark). part.0) p.1)

seen_of : (found : Option ArrivalFound) → option_map seen_arrival found ≡ head (map films_of (option_to_list (option_map arrival_parts found)))
seen_of None = refl
seen_of (Some it) = let films = map_map (λ (part : ℕ × Mark). part.0) seen_parcel_line it.lines in λ i. Some (it.is_received, sym films i)

told_of : (cs : List Consignment)
    → map films_of (map consignment_parts cs) ≡ map (λ (it : Arrival). let p : Bool × List ℕ = (it.received, it.films) in p) (map as_arrival cs)
told_of [] = refl
told_of (c ∷ cs) = let films = map_map (λ (part : ℕ × Mark). part.0) line_parts c.lines in λ i. (c.received, films i) ∷ told_of cs i

pub arrival_agrees : (b source number : ℕ) (books : Books) (found : Option ArrivalFound) → HasNumbers books
    → IsArrival b source number found books → option_map seen_arrival found ≡ arrival_at source number (shop_of b books)
arrival_agrees b source number books found numbers is =
    seen_of found
    ∙ ap (λ (ps : List (Bool × List (ℕ × Mark))). head (map films_of ps)) is
    ∙ ap head (told_of (filter (is_consignment source b number) books.consignments))
    ∙ ap (λ (arrivals : List Arrival). head (map (λ (it : Arrival). let p : Bool × List ℕ = (it.received, it.films) in p) arrivals))
    (sym (arrival_of source b number books.consignments (numbers.consignments source b)))
