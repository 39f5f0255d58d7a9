-- The counts of books are the counts of their rows in order.
use Rattle.std.proofs.Common.{is_none}
use Rattle.shop_schema.proofs.Common.{◌≡◌, ◌+◌, ◌==◌, ℕ, List, [], ◌∷◌, ◌++◌, map, filter, length, refl, sym, ap, subst, ◌∙◌, arith, IsPermutation}
use Rattle.shop_schema.proofs.Common.{flat_map, fold, map-map, Row, Owned, of, numbered_from, Branch, Kept, OfficeKept, Books, Customers, CopyRows, Rentals}
use Rattle.shop_schema.proofs.Common.{Payments, rows_of, Consignment, Pair, count_pair, pairs_of, branch_counts, counts_of, is_open, out_of}
use Rattle.shop_model.specs.Books.{Table, RowOf}
use Rattle.shop_types.specs.declared.rental.Rental.{Rental}
use Rattle.audit_rows.specs.Ordered.{HaveOrderedRows, kept_row, branch_row, without_last}
use Rattle.audit_rows.specs.Joins.{header}
use Rattle.audit_rows.specs.Seen.{seen_rental_row, seen_header, seen_placed}
use Rattle.audit_rows.specs.Tables.{is_in, checked_row, checked_rows}
use Rattle.audit_rows.specs.declared.books.OrderedBooks.{OrderedBooks}
use Rattle.audit_rows.specs.declared.rows.CheckedRow.{CheckedRow}
use Rattle.audit_rows.specs.declared.rows.CheckedHeader.{CheckedHeader}
use Rattle.audit_rows.proofs.JoinLemmas.{join_sound}
use Rattle.audit_rows.proofs.Maps.{filter-map, length-map, many_kept}
use Rattle.audit_rows.proofs.OrderedLemmas.{rentals_seen}
use Rattle.books_audit.specs.Read.{counters_in, outs_in, pairs_in, counts_of_branch}
use Rattle.books_audit.proofs.PairLemmas.{pairs_along}
use Rattle.std.specs.Prelude.{None}

by_numbers : {X Y C : Type 0} (f : ℕ × X → List C) (g : ℕ × Y → List C) → ((n : ℕ) (x : X) (y : Y) → f (n, x) ≡ g (n, y))
    → (k : ℕ) (xs : List X) (ys : List Y) → length xs ≡ length ys → flat_map f (numbered_from k xs) ≡ flat_map g (numbered_from k ys)
by_numbers f g h k [] [] e = refl
by_numbers f g h k [] (y ∷ ys) e = absurd (omega (arith, e))
by_numbers f g h k (x ∷ xs) [] e = absurd (omega (arith, e))
by_numbers f g h k (x ∷ xs) (y ∷ ys) e = λ i. h k x y i ++ by_numbers f g h (k + 1) xs ys (omega (arith, e)) i

counted_headers : (pairs : List Pair) (its : List Consignment) (headers : List CheckedHeader) → map header its ≡ map seen_header headers
    → fold (λ pairs it. count_pair it.source it.addressee pairs) pairs its
    ≡ fold (λ pairs (it : CheckedHeader). count_pair it.source it.addressee pairs) pairs headers
counted_headers pairs [] [] h = refl
counted_headers pairs [] (x ∷ headers) h = cc
counted_headers pairs (it ∷ its) [] h = cc
counted_headers pairs (it ∷ its) (x ∷ headers) h =
    let first : header it ≡ seen_header x = cc in
    let rest : map header its ≡ map seen_header headers = cc in
    counted_headers (count_pair it.source it.addressee pairs) its headers rest
    ∙ (λ i. fold (λ pairs (it : CheckedHeader). count_pair it.source it.addressee pairs) (count_pair (first i).source (first i).addressee pairs) headers)

module _ (rows : OrderedBooks) (c : Books) (has : HaveOrderedRows rows c) where
  one_branch : (b : ℕ) (it : Branch) → branch_counts c (b, it) ≡ counts_of_branch rows b
  one_branch b it = λ i.
      record { caller = b; kind = 0; last = many Customers i }
      ∷ record { caller = b; kind = 1; last = many CopyRows i }
      ∷ record { caller = b; kind = 2; last = many Rentals i }
      ∷ record { caller = b; kind = 3; last = many Payments i }
      ∷ record { caller = b; kind = 4; last = many_kept kept_row (λ (row : Owned Kept). row.it) (λ x. x.branch == b) c.kept rows.kept.items has.kept i }
      ∷ []
    where
      many : (t : Table) → length (of b (rows_of c t)) ≡ length (filter (is_in b) (checked_rows rows t))
      many t = many_kept (checked_row t) (λ (row : Row (RowOf t)). row.it) (is_in b) (rows_of c t) (checked_rows rows t) (has.rows t)

  pub branch_count : length c.catalogue.branches ≡ length rows.branches.items
  branch_count = sym (length-map (branch_row None) c.catalogue.branches) ∙ ap length has.shared.branches ∙ length-map without_last rows.branches.items

  office_many : length c.catalogue.kept ≡ length rows.office_keys.items
  office_many = sym (length-map (λ (it : OfficeKept). it.command.key) c.catalogue.kept) ∙ ap length has.shared.office_keys

  pub counters_same : (counts_of c).counters ≡ counters_in rows
  counters_same = λ i.
      record { caller = 0; kind = 4; last = office_many i }
      ∷ by_numbers (branch_counts c) (λ it. counts_of_branch rows it.0) (λ n x y. one_branch n x) 1 c.catalogue.branches rows.branches.items branch_count i

  pub outs_same : (counts_of c).outs ≡ outs_in rows
  outs_same =
      ap (λ l. map out_of (filter is_open l)) (rentals_seen rows c has) ∙ ap (map out_of) (filter-map is_open seen_rental_row rows.rentals.items)
      ∙ map-map out_of seen_rental_row (filter (λ (x : CheckedRow Rental). is_none x.it.returned) rows.rentals.items)

  -- its consignments in the order of their keys are the headers
  pub pairs_same : IsPermutation (pairs_in rows) (counts_of c).pairs
  pairs_same =
      let sent = has.consignments in
      let headers = (join_sound (map seen_header rows.headers.items) (map seen_placed rows.lines.items) sent.by_key sent.joined).0 in
      subst (λ l. IsPermutation l (pairs_of c.consignments))
      (counted_headers [] sent.by_key rows.headers.items headers) (pairs_along sent.by_key c.consignments sent.all)
