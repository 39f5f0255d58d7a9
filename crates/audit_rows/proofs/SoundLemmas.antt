-- Rows in order pass the checks exactly if the books that have the rows are sound.
use Rattle.shop_types.proofs.Common.{◌≡◌, ◌&&◌, ◌+◌, ◌≤◌, ◌==◌, ◌++◌, inl, inr, ℕ, suc, zero, List, [], ◌∷◌, map, filter, length, not, Bool, true, false, cond}
use Rattle.shop_types.proofs.Common.{refl, sym, ap, subst, ◌∙◌, arith, nat_lt, nat_le, IsPermutation, None, list_all, flat_map, bytes_eq, nat_tests}
use Rattle.shop_types.proofs.Common.{IsPermutation-map, IsPermutation-refl, IsPermutation-sym, Moment, Row, Owned, at, is_empty, owned_by, numbered_from}
use Rattle.shop_types.proofs.Common.{IsCounted, AreNumbered, Text, Arrival, Rules, Kept, has_row, are_different, is_parcel, Books, BookCopy, Line, UnderWay}
use Rattle.shop_types.proofs.Common.{Consignment, shop_of, as_arrival, as_parcel, head, HasOwners, IsSound, widest, all_lines, is_settled, line_is, at_zero}
use Rattle.shop_types.proofs.Common.{Table, CopyRows, RowOf, rows_of}
use Rattle.sqlite_keyed.proofs.ListLemmas.{IsPermutation-flat_map}
use Rattle.audit_rows.specs.declared.books.OrderedBooks.{OrderedBooks}
use Rattle.audit_rows.specs.declared.rows.CheckedBranch.{CheckedBranch}
use Rattle.audit_rows.specs.declared.rows.CheckedLot.{CheckedLot}
use Rattle.audit_rows.specs.declared.rows.CheckedKept.{CheckedKept}
use Rattle.audit_rows.specs.declared.rows.CheckedHeader.{CheckedHeader}
use Rattle.audit_rows.specs.Lists.{counts_from}
use Rattle.audit_rows.specs.Joins.{Header, Placed, header, put_line, placed}
use Rattle.audit_rows.specs.Seen.{seen_copy, seen_header, seen_placed, seen_line}
use Rattle.audit_rows.specs.Shops.{is_among}
use Rattle.audit_rows.specs.Marked.{AreInCustody}
use Rattle.audit_rows.specs.Consignments.{is_good_consignment, are_settled, is_pair, pairs_follow}
use Rattle.audit_rows.specs.Parts.{PartRows, branch_rows, is_good_part, are_good_from, is_owned, are_rows_owned, are_others_owned, are_consignments_owned}
use Rattle.audit_rows.specs.Ordered.{AreOrdered, HaveOrderedRows, lot_row, kept_row, lasts_from}
use Rattle.audit_rows.specs.Tables.{CheckedOf, checked_rows, all_tables}
use Rattle.audit_rows.specs.Checked.{AreChecked}
use Rattle.audit_rows.proofs.Keys.{both, bytes_eq_symm, different-map, different_from_climbs}
use Rattle.audit_rows.proofs.Maps.{map-twice, all-map, filter-map, length-map}
use Rattle.audit_rows.proofs.Tests.{all_congr, all_and, all_parts, moved, different_congr, all_from, all_from_at, at_all_from, counted_is, is_counted, alone}
use Rattle.audit_rows.proofs.Transfer.{all_along}
use Rattle.audit_rows.proofs.CustodyLemmas.{custody_of_all, origins_of_rows, origins_of_lines, custody_moved}
use Rattle.audit_rows.proofs.OfBooks.{of_books}
use Rattle.audit_rows.proofs.OrderedLemmas.{each_passes, all_passing, copies_seen, rows_test, rows_climb, headers_climb}
use Rattle.shop_model.proofs.Soundness.{in_custody}
use Rattle.audit_rows.proofs.ShopLemmas.{has_row_is}
use Rattle.audit_rows.proofs.JoinLemmas.{join_sound}
use Rattle.audit_rows.proofs.ConsignmentLemmas.{settled_join, numbered_from_pairs, pairs_from_numbered}
use Rattle.audit_rows.proofs.PlaceLemmas.{headers_are}
use Rattle.audit_rows.proofs.CatalogueLemmas.{branch_named, film_named, catalogue_from_rows, rows_from_catalogue}
use Rattle.audit_rows.proofs.LastLemmas.{last_in, none_before, last_at, lasts_owned, lasts_apart}
use Rattle.audit_rows.proofs.OwnLemmas.{at_case, none_owned, all_filter, all_from_owners, own_different}
use Rattle.audit_rows.proofs.BranchLemmas.{BranchFacts, BranchLinks, facts_from_part, part_from_facts}

-- ---- lines

put_back : (h : Header) (k : ℕ) (lines : List Line) → map (λ (p : Placed). p.line) (map (put_line h) (numbered_from k lines)) ≡ lines
put_back h k [] = refl
put_back h k (line ∷ lines) = ap (λ l. line ∷ l) (put_back h (k + 1) lines)

map-append : {X Y : Type 0} (f : X → Y) (xs ys : List X) → map f (xs ++ ys) ≡ map f xs ++ map f ys
map-append f [] ys = refl
map-append f (x ∷ xs) ys = ap (λ l. f x ∷ l) (map-append f xs ys)

lines_of : (its : List Consignment) → map (λ (p : Placed). p.line) (flat_map placed its) ≡ flat_map (λ (it : Consignment). it.lines) its
lines_of [] = refl
lines_of (it ∷ its) = map-append (λ (p : Placed). p.line) (placed it) (flat_map placed its) ∙ (λ i. put_back (header it) 1 it.lines i ++ lines_of its i)

-- ---- tests of consignments

abbrev is_filled : Consignment → Bool
is_filled it = nat_lt 0 (length it.lines) && nat_le (length it.lines) 100

abbrev has_films : ℕ → Consignment → Bool
has_films n it = list_all (λ (line : Line). is_among n line.film) it.lines

good_is : (n : ℕ) (it : Consignment) → is_good_consignment n it ≡ (is_filled it && (is_settled it && has_films n it))
good_is n it =
    ap (λ b. is_filled it && b)
    (all_and (λ (line : Line). cond it.received (not (line_is line.state UnderWay)) (line_is line.state UnderWay))
    (λ (line : Line). is_among n line.film) it.lines)

all_good : (n : ℕ) (its : List Consignment)
    → list_all (is_good_consignment n) its ≡ (list_all is_filled its && (list_all is_settled its && list_all (has_films n) its))
all_good n its =
    all_congr _ _ (good_is n) its ∙ all_and is_filled (λ it. is_settled it && has_films n it) its
    ∙ ap (λ b. list_all is_filled its && b) (all_and is_settled (has_films n) its)

module _ (rows : OrderedBooks) (books : Books) (o : AreOrdered rows) (s : HaveOrderedRows rows books) (rules : Rules) where
  abbrev count : ℕ
  count = length rows.branches.items

  abbrev its : List Consignment
  its = books.consignments

  abbrev by_key : List Consignment
  by_key = s.consignments.by_key

  branch_is : (n : ℕ) → has_row books.catalogue.branches n ≡ is_among count n
  branch_is n = branch_named rows books o s.shared n

  -- ---- branch columns

  own_rows : (t : Table)
      → list_all (λ (row : Row (RowOf t)). has_row books.catalogue.branches row.branch) (rows_of books t)
      ≡ list_all (λ (row : CheckedOf t). is_among count row.branch) (checked_rows rows t)
  own_rows t = rows_test rows books s t _ _ (λ row. branch_is row.branch)

  own_lots : list_all (λ (row : Owned Text). has_row books.catalogue.branches row.owner) books.lots
      ≡ list_all (λ (row : CheckedLot). is_among count row.branch) rows.lots.items
  own_lots = moved lot_row books.lots rows.lots.items s.lots _ _ (λ row. branch_is row.owner)

  own_kept : list_all (λ (row : Owned Kept). has_row books.catalogue.branches row.owner) books.kept
      ≡ list_all (λ (row : CheckedKept). is_among count row.branch) rows.kept.items
  own_kept = moved kept_row books.kept rows.kept.items s.kept _ _ (λ row. branch_is row.owner)

  -- a test of consignments is one of their headers
  of_headers : (p : Consignment → Bool) (q : Header → Bool) → ((it : Consignment) → p it ≡ q (header it))
      → list_all p its ≡ list_all (λ (row : CheckedHeader). q (seen_header row)) rows.headers.items
  of_headers p q h =
      sym (all_along p by_key its s.consignments.all)
      ∙ moved header by_key (map seen_header rows.headers.items) (headers_are rows its s.consignments) p q h ∙ all-map q seen_header rows.headers.items

  own_sources : list_all (λ (it : Consignment). has_row books.catalogue.branches it.source) its
      ≡ list_all (λ (row : CheckedHeader). is_among count row.source) rows.headers.items
  own_sources = of_headers _ (λ (h : Header). is_among count h.source) (λ it. branch_is it.source)

  own_addressees : list_all (λ (it : Consignment). has_row books.catalogue.branches it.addressee) its
      ≡ list_all (λ (row : CheckedHeader). is_among count row.addressee) rows.headers.items
  own_addressees = of_headers _ (λ (h : Header). is_among count h.addressee) (λ it. branch_is it.addressee)

  own_lasts : list_all (λ (row : Owned Moment). has_row books.catalogue.branches row.owner) books.lasts ≡ true
  own_lasts =
      ap (list_all (λ (row : Owned Moment). has_row books.catalogue.branches row.owner)) s.lasts
      ∙ all_congr _ _ (λ row. branch_is row.owner) (lasts_from 1 rows.branches.items)
      ∙ lasts_owned count 1 (omega arith) rows.branches.items (omega arith)

  pub record Owners : Type 0 where
    pub tables : (t : Table) → list_all (λ (row : CheckedOf t). is_among count row.branch) (checked_rows rows t) ≡ true
    pub lots : list_all (λ (row : CheckedLot). is_among count row.branch) rows.lots.items ≡ true
    pub kept : list_all (λ (row : CheckedKept). is_among count row.branch) rows.kept.items ≡ true
    pub sources : list_all (λ (row : CheckedHeader). is_among count row.source) rows.headers.items ≡ true
    pub addressees : list_all (λ (row : CheckedHeader). is_among count row.addressee) rows.headers.items ≡ true

  owners_open : is_owned rows ≡ true → Owners
  owners_open h =
      let all = all_parts (are_rows_owned rows) (are_others_owned rows ∷ are_consignments_owned rows ∷ []) h in
      let others =
      both (list_all (λ (row : CheckedLot). is_among count row.branch) rows.lots.items)
      (list_all (λ (row : CheckedKept). is_among count row.branch) rows.kept.items) all.1.0 in
      let sent =
      both (list_all (λ (row : CheckedHeader). is_among count row.source) rows.headers.items)
      (list_all (λ (row : CheckedHeader). is_among count row.addressee) rows.headers.items) all.1.1.0 in
      record {
        tables = each_passes (λ t. list_all (λ (row : CheckedOf t). is_among count row.branch) (checked_rows rows t)) all.0;
        lots = others.0;
        kept = others.1;
        sources = sent.0;
        addressees = sent.1;
      }

  owners_from_rows : is_owned rows ≡ true → HasOwners books.catalogue.branches books
  owners_from_rows h =
      let p = owners_open h in
      record {
        rows = λ t. own_rows t ∙ p.tables t;
        lots = own_lots ∙ p.lots;
        kept = own_kept ∙ p.kept;
        sources = own_sources ∙ p.sources;
        addressees = own_addressees ∙ p.addressees;
        lasts = own_lasts;
      }

  rows_from_owners : HasOwners books.catalogue.branches books → is_owned rows ≡ true
  rows_from_owners g =
      let tables : are_rows_owned rows ≡ true = all_passing _ (λ t. sym (own_rows t) ∙ g.rows t) all_tables in
      let lots = sym own_lots ∙ g.lots in
      let kept = sym own_kept ∙ g.kept in
      let sources = sym own_sources ∙ g.sources in
      let addressees = sym own_addressees ∙ g.addressees in
      (λ i. tables i && (lots i && kept i) && (sources i && addressees i))

  -- ---- custody

  lines_are : flat_map (λ (it : Consignment). it.lines) by_key ≡ map seen_line rows.lines.items
  lines_are =
      sym (lines_of by_key) ∙ ap (map (λ (p : Placed). p.line)) (join_sound _ _ by_key s.consignments.joined).1
      ∙ map-twice (λ (p : Placed). p.line) seen_placed rows.lines.items

  lines_bag : IsPermutation (map seen_line rows.lines.items) (all_lines books)
  lines_bag =
      subst (λ (lines : List Line). IsPermutation lines (all_lines books)) lines_are
      (IsPermutation-flat_map (λ (it : Consignment). it.lines) by_key its s.consignments.all)

  books_from_rows : AreInCustody (map seen_copy rows.copies.items) (map seen_line rows.lines.items) → AreInCustody books.copies (all_lines books)
  books_from_rows h =
      subst (λ (copies : List (Row BookCopy)). AreInCustody copies (all_lines books)) (sym (copies_seen rows books s))
      (custody_moved (map seen_copy rows.copies.items) (map seen_copy rows.copies.items)
      (map seen_line rows.lines.items) (all_lines books) (IsPermutation-refl _) lines_bag h)

  rows_from_books : AreInCustody books.copies (all_lines books) → AreInCustody (map seen_copy rows.copies.items) (map seen_line rows.lines.items)
  rows_from_books h =
      custody_moved (map seen_copy rows.copies.items) (map seen_copy rows.copies.items) (all_lines books)
      (map seen_line rows.lines.items) (IsPermutation-refl _) (IsPermutation-sym _ _ lines_bag)
      (subst (λ (copies : List (Row BookCopy)). AreInCustody copies (all_lines books)) (copies_seen rows books s) h)

  -- ---- consignments

  settled_is : are_settled (length rows.films.items) (map seen_header rows.headers.items) (map seen_placed rows.lines.items)
      ≡ (list_all is_filled its && (list_all is_settled its && list_all (has_films (length rows.films.items)) its))
  settled_is =
      settled_join (length rows.films.items) (map seen_header rows.headers.items) (map seen_placed rows.lines.items) by_key s.consignments.joined
      ∙ all_along (is_good_consignment (length rows.films.items)) by_key its s.consignments.all
      ∙ all_good (length rows.films.items) its

  parcel_is : (b : ℕ) → list_all is_parcel (shop_of b books).sent ≡ list_all is_filled (filter (λ (it : Consignment). it.source == b) its)
  parcel_is b =
      all-map is_parcel as_parcel (filter (λ (it : Consignment). it.source == b) its)
      ∙ all_congr _ is_filled
      (λ it i. nat_lt 0 (length-map (λ (line : Line). line.film) it.lines i) && nat_le (length-map (λ (line : Line). line.film) it.lines i) 100)
      (filter (λ (it : Consignment). it.source == b) its)

  arrival_is : (b : ℕ)
      → list_all (λ (a : Arrival). list_all (has_row books.catalogue.films) a.films) (shop_of b books).arrivals
      ≡ list_all (has_films (length rows.films.items)) (filter (λ (it : Consignment). it.addressee == b) its)
  arrival_is b =
      all-map (λ (a : Arrival). list_all (has_row books.catalogue.films) a.films) as_arrival (filter (λ (it : Consignment). it.addressee == b) its)
      ∙ all_congr _ (has_films (length rows.films.items))
      (λ it.
      all-map (has_row books.catalogue.films) (λ (line : Line). line.film) it.lines
      ∙ all_congr _ _ (λ line. film_named rows books o s.shared line.film) it.lines)
      (filter (λ (it : Consignment). it.addressee == b) its)

  abbrev headers : List Header
  headers = map header by_key

  headers_bag : IsPermutation headers (map header its)
  headers_bag = IsPermutation-map header by_key its s.consignments.all

  placed_so : IsCounted 1 (map (λ (it : Consignment). it.place) its) → IsCounted 1 (map (λ (h : Header). h.place) (map header its))
  placed_so c = subst (IsCounted 1) (sym (map-twice (λ (h : Header). h.place) header its)) c

  numbers_are : (a b : ℕ)
      → map (λ (h : Header). h.number) (filter (is_pair a b) (map header its))
      ≡ map (λ (it : Consignment). it.number) (filter (λ (it : Consignment). it.source == a && it.addressee == b) its)
  numbers_are a b =
      ap (map (λ (h : Header). h.number)) (filter-map (is_pair a b) header its)
      ∙ map-twice (λ (h : Header). h.number) header (filter (λ (it : Consignment). it.source == a && it.addressee == b) its)

  numbers_from_rows : IsCounted 1 (map (λ (it : Consignment). it.place) its) → pairs_follow (map seen_header rows.headers.items) ≡ true
      → (a b : ℕ) → AreNumbered (λ (it : Consignment). it.source == a && it.addressee == b) (λ it. it.number) its
  numbers_from_rows c h a b =
      subst (IsCounted 1) (numbers_are a b)
      (numbered_from_pairs headers (map header its) headers_bag (headers_climb rows books s o)
      (placed_so c) (ap pairs_follow (headers_are rows its s.consignments) ∙ h) a b)

  rows_from_numbers : IsCounted 1 (map (λ (it : Consignment). it.place) its)
      → ((a b : ℕ) → AreNumbered (λ (it : Consignment). it.source == a && it.addressee == b) (λ it. it.number) its)
      → pairs_follow (map seen_header rows.headers.items) ≡ true
  rows_from_numbers c h =
      sym (ap pairs_follow (headers_are rows its s.consignments))
      ∙ pairs_from_numbered headers (map header its) headers_bag (headers_climb rows books s o)
      (placed_so c) (λ a b. subst (IsCounted 1) (sym (numbers_are a b)) (h a b))

  -- ---- lots and keys of a branch

  lots_differ : (b : ℕ) → are_different (λ (earlier later : Text). bytes_eq later earlier) (owned_by b books.lots) ≡ true
  lots_differ b =
      different_congr _ _ (λ x y. bytes_eq_symm y x) (owned_by b books.lots)
      ∙ own_different (λ (t : Text). t) b books.lots
      (sym (different-map (λ (x y : CheckedLot). bytes_eq (x.branch ∷ x.name) (y.branch ∷ y.name)) lot_row books.lots)
      ∙ ap (are_different (λ (x y : CheckedLot). bytes_eq (x.branch ∷ x.name) (y.branch ∷ y.name))) s.lots
      ∙ sym (different-map bytes_eq (λ (x : CheckedLot). x.branch ∷ x.name) rows.lots.items)
      ∙ different_from_climbs (map (λ (x : CheckedLot). x.branch ∷ x.name) rows.lots.items) o.lots)

  keys_differ : (b : ℕ) → are_different (λ (earlier later : Kept). bytes_eq earlier.command.key later.command.key) (owned_by b books.kept) ≡ true
  keys_differ b =
      own_different (λ (k : Kept). k.command.key) b books.kept
      (sym (different-map (λ (x y : CheckedKept). bytes_eq (x.branch ∷ x.key) (y.branch ∷ y.key)) kept_row books.kept)
      ∙ ap (are_different (λ (x y : CheckedKept). bytes_eq (x.branch ∷ x.key) (y.branch ∷ y.key))) s.kept
      ∙ sym (different-map bytes_eq (λ (x : CheckedKept). x.branch ∷ x.key) rows.kept.items)
      ∙ different_from_climbs (map (λ (x : CheckedKept). x.branch ∷ x.key) rows.kept.items) o.kept)

  -- ---- each branch

  abbrev good_at : ℕ → CheckedBranch → Bool
  good_at b row = is_good_part rows b row.last (branch_rows rows b)

  parts_are : (k : ℕ) (xs : List CheckedBranch) → are_good_from rows k xs ≡ all_from good_at k xs
  parts_are k [] = refl
  parts_are k (x ∷ xs) = ap (λ t. good_at k x && t) (parts_are (k + 1) xs)

  abbrev empty_part : PartRows
  empty_part = record { rows = λ t. []; lots = 0; kept = 0; sent = 0 }

  nothing_owned : is_owned rows ≡ true → (b : ℕ) → is_among count b ≡ false → branch_rows rows b ≡ empty_part
  nothing_owned h b none =
      let p = owners_open h in
      λ i. record {
        rows = λ t. none_owned (λ (row : CheckedOf t). row.branch) count b none (checked_rows rows t) (p.tables t) i;
        lots = length (none_owned (λ (row : CheckedLot). row.branch) count b none rows.lots.items p.lots i);
        kept = length (none_owned (λ (row : CheckedKept). row.branch) count b none rows.kept.items p.kept i);
        sent = length (none_owned (λ (row : CheckedHeader). row.source) count b none rows.headers.items p.sources i);
      }

  nothing_is_good : (b : ℕ) → is_good_part rows b None empty_part ≡ true
  nothing_is_good b = refl

  last_is : (b : ℕ) → (shop_of b books).last ≡ last_in (at b rows.branches.items)
  last_is zero = ap (λ (ls : List (Owned Moment)). head (owned_by 0 ls)) s.lasts ∙ no_last
    where
      no_last : head (owned_by 0 (lasts_from 1 rows.branches.items)) ≡ last_in (at 0 rows.branches.items)
      no_last = ap head (none_before 0 1 (omega arith) rows.branches.items) ∙ sym (ap last_in (at_zero rows.branches.items))
  last_is (suc b) = ap (λ (ls : List (Owned Moment)). head (owned_by (suc b) ls)) s.lasts ∙ last_at 1 rows.branches.items (suc b) (suc b) refl (omega arith)

  not_there : (b : ℕ) → at b rows.branches.items ≡ [] → is_among count b ≡ false
  not_there b e = sym (has_row_is rows.branches.items b) ∙ ap (λ (xs : List CheckedBranch). not (is_empty xs)) e

  low : (b : ℕ) (row : CheckedBranch) → at b rows.branches.items ≡ row ∷ [] → 1 ≤ b
  low b row e = least b (sym (has_row_is rows.branches.items b) ∙ ap (λ (xs : List CheckedBranch). not (is_empty xs)) e)
    where
      least : (m : ℕ) → is_among count m ≡ true → 1 ≤ m
      least m h = grind (arith, nat_tests)

  facts : is_owned rows ≡ true → are_good_from rows 1 rows.branches.items ≡ true → ((b : ℕ) → BranchLinks b books) → (b : ℕ) → BranchFacts rules b books
  facts owned good more b = elim (at_case b rows.branches.items) [
    | inl e ↦
        facts_from_part rows books o s b None (last_is b ∙ ap last_in e) rules (more b)
        (ap (is_good_part rows b None) (nothing_owned owned b (not_there b e)) ∙ nothing_is_good b)
    | inr it ↦
        facts_from_part rows books o s b it.0.last (last_is b ∙ ap last_in it.1) rules (more b)
        (both (good_at b it.0) true (subst (λ (xs : List CheckedBranch). list_all (good_at b) xs ≡ true) it.1
        (all_from_at good_at 1 rows.branches.items (sym (parts_are 1 rows.branches.items) ∙ good) b b refl (low b it.0 it.1)))).0
  ]

  goods : ((b : ℕ) → BranchFacts rules b books) → are_good_from rows 1 rows.branches.items ≡ true
  goods all =
      parts_are 1 rows.branches.items
      ∙ at_all_from good_at 1 rows.branches.items (λ n m e low. subst (λ j. list_all (good_at j) (at n rows.branches.items) ≡ true) (same n m e) (here n))
    where
      same : (n m : ℕ) → m + 1 ≡ n + 1 → n ≡ m
      same n m e = omega (arith, e)

      here : (n : ℕ) → list_all (good_at n) (at n rows.branches.items) ≡ true
      here n = elim (at_case n rows.branches.items) [
        | inl e ↦ ap (list_all (good_at n)) e
        | inr it ↦
            ap (list_all (good_at n)) it.1 ∙ alone (good_at n it.0) (part_from_facts rows books o s n it.0.last (last_is n ∙ ap last_in it.1) rules (all n))
      ]

  -- ---- all of it

  pub sound_from_checks : AreChecked rows books.consignments → IsSound (widest rules) books
  sound_from_checks h =
      let sent =
      all_parts (are_settled (length rows.films.items) (map seen_header rows.headers.items) (map seen_placed rows.lines.items))
      (pairs_follow (map seen_header rows.headers.items) ∷ counts_from 1 (map (λ (it : Consignment). it.place) its) ∷ []) h.consignments in
      let places = counted_is 1 _ sent.1.1.0 in
      let filled = both (list_all is_filled its) (list_all is_settled its && list_all (has_films (length rows.films.items)) its) (sym settled_is ∙ sent.0) in
      let settled = both (list_all is_settled its) (list_all (has_films (length rows.films.items)) its) filled.1 in
      let custody = books_from_rows h.custody in
      let up = rows_climb rows books s o CopyRows in
      let more : (b : ℕ) → BranchLinks b books = λ b. record {
        arrival_films = arrival_is b ∙ all_filter (has_films (length rows.films.items)) (λ (it : Consignment). it.addressee == b) its settled.1;
        parcels = parcel_is b ∙ all_filter is_filled (λ (it : Consignment). it.source == b) its filled.0;
        lots = lots_differ b;
        keys = keys_differ b;
      } in
      let each = facts h.owned h.parts more in
      record {
        catalogue = catalogue_from_rows rows books o s.shared rules h.catalogue;
        owners = owners_from_rows h.owned;
        numbers = record { rows = λ t b. (each b).numbers t; consignments = numbers_from_rows places sent.1.0 };
        places = places;
        custody = custody_of_all books.copies (all_lines books) up custody;
        origins = record {
          rows = origins_of_rows books.copies (all_lines books) up custody;
          lines = origins_of_lines books.copies (all_lines books) up custody;
        };
        settled = settled.0;
        lasts = ap (are_different (λ (earlier later : Owned Moment). earlier.owner == later.owner)) s.lasts ∙ lasts_apart 1 rows.branches.items;
        held = λ b. (each b).held;
        shops = λ b. (each b).shop;
        links = λ b. (each b).links;
        terms = λ b. (each b).termed;
      }

  pub checks_from_sound : IsSound (widest rules) books → AreChecked rows books.consignments
  checks_from_sound g =
      let filled = all_from_owners is_filled (λ (it : Consignment). it.source) its (λ b. sym (parcel_is b) ∙ (g.links b).parcels) in
      let films =
      all_from_owners (has_films (length rows.films.items)) (λ (it : Consignment). it.addressee) its
      (λ b. sym (arrival_is b) ∙ (g.links b).arrival_films) in
      let settled : are_settled (length rows.films.items) (map seen_header rows.headers.items) (map seen_placed rows.lines.items) ≡ true =
      settled_is ∙ (λ i. filled i && (g.settled i && films i)) in
      let pairs = rows_from_numbers g.places g.numbers.consignments in
      let places = is_counted 1 _ g.places in
      record {
        catalogue = rows_from_catalogue rows books o s.shared rules g.catalogue;
        owned = rows_from_owners g.owners;
        consignments = (λ i. settled i && pairs i && places i);
        custody = rows_from_books ((of_books books).0 (in_custody (widest rules) books g));
        parts = goods (λ b. record { numbers = λ t. g.numbers.rows t b; termed = g.terms b; held = g.held b; shop = g.shops b; links = g.links b });
      }
