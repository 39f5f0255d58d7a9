-- The rows of a dispatch and of a receipt make the books in which it acted, and what is replied of them is its reply.
use Rattle.shop_types.proofs.Common.{◌≡◌, ◌∙◌, refl, sym, ap, ℕ, ◌+◌, Bool, false, List, [], ◌∷◌, ◌++◌, map, filter, length, Some, codes, append-nil}
use Rattle.shop_types.proofs.Common.{map-append, numbers_text, object, Row, arrived, at, is_row, next, of, put_all, set_rows, update_where, Rules, Command}
use Rattle.shop_types.proofs.Common.{Arrival, Parcel, Here, Sent, arrival, numbers_from, incoming, HasNumbers, Books, BookCopy, Mark, Line, UnderWay}
use Rattle.shop_types.proofs.Common.{Consignment, as_arrival, as_parcel, between, book_acted, checked, is_consignment, put_state, rows_at, shop_of, under_way}
use Rattle.shop_types.proofs.Common.{unmarked, unpacked, map_at, map_map, length_map, row_at, arrival_of, arrived_map, seen_parcel_line, CopyRows, arith}
use Rattle.shop_types.specs.declared.parcel.ParcelLine.{ParcelLine}
use Rattle.std.specs.Prelude.{◌==◌, flat_map}
use Rattle.shop_model.specs.Acts.{told}
use Rattle.branch_core.specs.declared.found.ArrivalFound.{ArrivalFound}
use Rattle.branch_core.specs.Marked.{copy_parts, line_parts, parts_at, arrival_parts, consignment_parts, IsArrival}
use Rattle.branch_core.specs.Consigned.{sent_line, with_dispatch, dispatch_text, come_copy, with_receipt, receipt_text}
use Rattle.shop_model.specs.Values as model

-- ---- a dispatch

-- a line of this film and mark that is under way
abbrev way : ℕ × Mark → Line
way parts = record { film = parts.0; mark = parts.1; state = UnderWay }

lines_at : (b : ℕ) (xs : List ℕ) (books : Books) → HasNumbers books → map way (parts_at b xs books) ≡ map (λ row. under_way row.it) (rows_at b xs books.copies)
lines_at b [] books numbers = refl
lines_at b (x ∷ xs) books numbers =
    let copies = at x (of b books.copies) in
    let one : map way (map copy_parts copies) ≡ map (λ row. under_way row.it) (filter (is_row b x) books.copies) =
    map_map way copy_parts copies ∙ map_at under_way x (of b books.copies) ∙ sym (row_at under_way b x books.copies (numbers.rows CopyRows b)) in
    map-append way (map copy_parts copies) (parts_at b xs books)
    ∙ (λ i. one i ++ lines_at b xs books numbers i)
    ∙ sym (map-append (λ (row : Row BookCopy). under_way row.it) (filter (is_row b x) books.copies) (rows_at b xs books.copies))

-- the books after a consignment of the given lines is sent
abbrev sending : ℕ → ℕ → List ℕ → List Line → Books → Books
sending b to xs lines books = record books {
  copies = set_rows b xs (put_state Sent) books.copies;
  consignments = books.consignments ++ record {
    source = b;
    addressee = to;
    number = length (between b to books.consignments) + 1;
    place = length books.consignments + 1;
    received = false;
    lines = lines;
  } ∷ [];
}

pub dispatch_acted : (rules : Rules) (b : ℕ) (command : Command) (to : ℕ) (xs : List ℕ) (lines : List ParcelLine) (books : Books)
    → HasNumbers books → map seen_parcel_line lines ≡ parts_at b xs books
    → with_dispatch b to xs lines books ≡ book_acted rules b command (model.Dispatch to xs) books
dispatch_acted rules b command to xs lines books numbers are =
    let same : map sent_line lines ≡ map (λ row. under_way row.it) (rows_at b xs books.copies) =
    sym (map_map way seen_parcel_line lines) ∙ ap (map way) are ∙ lines_at b xs books numbers in
    ap (λ (ls : List Line). sending b to xs ls books) same

-- a branch's consignments to an addressee
as_many : (b to : ℕ) (cs : List Consignment)
    → length (between b to cs) ≡ length (filter (λ (it : Parcel). it.addressee == to) (map as_parcel (filter (λ (it : Consignment). it.source == b) cs)))
as_many b to [] = refl
as_many b to (c ∷ cs) = let more = as_many b to cs in grind (arith, more)

pub dispatch_told : (rules : Rules) (b to : ℕ) (xs : List ℕ) (books : Books)
    → dispatch_text (length (between b to books.consignments) + 1) to ≡ object (told rules (model.Dispatch to xs) (shop_of b books))
dispatch_told rules b to xs books = ap (λ (n : ℕ). dispatch_text (n + 1) to) (as_many b to books.consignments)

-- ---- a receipt

-- a copy with this film and mark
abbrev copy_of : ℕ × Mark → ℕ → BookCopy
copy_of parts number = record { film = parts.0; state = Here; mark = parts.1 }

-- the one consignment that was found, with its lines
one_found : (cs : List Consignment) (found : ArrivalFound) → arrival_parts found ∷ [] ≡ map consignment_parts cs
    → (c : Consignment) × (cs ≡ c ∷ []) × (map line_parts c.lines ≡ map seen_parcel_line found.lines)
one_found [] found is = absurd (let none = is in cc)
one_found (c ∷ []) found is = let same : arrival_parts found ≡ consignment_parts c = cc in (c, refl, ap (λ (p : Bool × List (ℕ × Mark)). p.1) (sym same))
one_found (c ∷ d ∷ ds) found is = absurd (let two = is in cc)

lines_come : (missing : List ℕ) (c : Consignment) (lines : List ParcelLine) → map line_parts c.lines ≡ map seen_parcel_line lines
    → map unpacked (arrived missing c.lines) ≡ map come_copy (arrived missing lines)
lines_come missing c lines same =
    sym (map_map copy_of line_parts (arrived missing c.lines))
    ∙ ap (map copy_of) (sym (arrived_map line_parts missing c.lines) ∙ ap (arrived missing) same ∙ arrived_map seen_parcel_line missing lines)
    ∙ map_map copy_of seen_parcel_line (arrived missing lines)

-- the books with these copies and the consignment received
abbrev receiving : ℕ → ℕ → ℕ → List (ℕ → BookCopy) → List ℕ → Books → Books
receiving b source number makes missing books = record books {
  copies = put_all b makes books.copies;
  consignments = update_where (is_consignment source b number) (checked missing) books.consignments;
}

-- lists of the same length are given the same numbers
same_numbers : {A B : Type 0} (n : ℕ) (xs : List A) (ys : List B) → length xs ≡ length ys → numbers_from n xs ≡ numbers_from n ys
same_numbers n [] [] is = refl
same_numbers n [] (y ∷ ys) is = absurd (let no = is in cc)
same_numbers n (x ∷ xs) [] is = absurd (let no = is in cc)
same_numbers n (x ∷ xs) (y ∷ ys) is = let less : length xs ≡ length ys = cc in ap (λ (ns : List ℕ). n ∷ ns) (same_numbers (n + 1) xs ys less)

module _ (rules : Rules) (b source number : ℕ) (missing : List ℕ) (books : Books)
    (found : ArrivalFound) (is : IsArrival b source number (Some found) books) where
  pub receipt_acted : (command : Command)
      → with_receipt b source number found.lines missing books ≡ book_acted rules b command (model.Receive source number missing) books
  receipt_acted command =
      let one = one_found (filter (is_consignment source b number) books.consignments) found is in
      let makes : map come_copy (arrived missing found.lines)
      ≡ map unpacked (flat_map (λ (it : Consignment). arrived missing it.lines) (filter (is_consignment source b number) books.consignments)) =
      sym (ap (λ (cs : List Consignment). map unpacked (flat_map (λ (it : Consignment). arrived missing it.lines) cs)) one.1
      ∙ ap (map unpacked) (append-nil (arrived missing one.0.lines))
      ∙ lines_come missing one.0 found.lines one.2) in
      ap (λ (ms : List (ℕ → BookCopy)). receiving b source number ms missing books) makes

  -- as many films come in as lines come
  many_come : HasNumbers books → length (incoming missing (arrival source number (shop_of b books))) ≡ length (arrived missing found.lines)
  many_come numbers =
      let one = one_found (filter (is_consignment source b number) books.consignments) found is in
      ap (λ (its : List Arrival). length (incoming missing its))
      (arrival_of source b number books.consignments (numbers.consignments source b) ∙ ap (map as_arrival) one.1)
      ∙ ap (λ (ns : List ℕ). length ns)
      (append-nil (arrived missing (map (λ (line : Line). line.film) one.0.lines)) ∙ arrived_map (λ (line : Line). line.film) missing one.0.lines)
      ∙ length_map (λ (line : Line). line.film) (arrived missing one.0.lines)
      ∙ sym (length_map line_parts (arrived missing one.0.lines))
      ∙ ap (λ (ps : List (ℕ × Mark)). length ps)
      (sym (arrived_map line_parts missing one.0.lines) ∙ ap (arrived missing) one.2 ∙ arrived_map seen_parcel_line missing found.lines)
      ∙ length_map seen_parcel_line (arrived missing found.lines)

  pub receipt_told : HasNumbers books → (films : List ℕ) → length films ≡ length (arrived missing found.lines)
      → receipt_text (next b books.copies) films ≡ object (told rules (model.Receive source number missing) (shop_of b books))
  receipt_told numbers films many =
      let first : next b books.copies ≡ length (shop_of b books).copies + 1 = ap (λ (n : ℕ). n + 1) (sym (length_map unmarked (of b books.copies))) in
      let all = same_numbers (next b books.copies) films (incoming missing (arrival source number (shop_of b books))) (many ∙ sym (many_come numbers)) in
      ap (λ (ns : List ℕ). object ((codes "copies", numbers_text ns) ∷ []))
      (all ∙ ap (λ (n : ℕ). numbers_from n (incoming missing (arrival source number (shop_of b books)))) first)
