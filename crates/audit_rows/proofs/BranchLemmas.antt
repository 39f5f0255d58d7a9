-- The checks of one branch's rows mean what the definitions say of the branch's shop.
use Rattle.shop_types.proofs.Common.{◌≡◌, ◌&&◌, ◌==◌, ℕ, List, [], ◌∷◌, map, filter, length, Bool, true, refl, sym, ap, subst, ◌∙◌, arith, ◌≤◌, nat_le, Option}
use Rattle.shop_types.proofs.Common.{list_all, bytes_eq, length_permutation, Moment, Row, Owned, is_of, of, IsCounted, AreNumbered, Text, Customer, Copy}
use Rattle.shop_types.proofs.Common.{Rental, Payment, Arrival, Rules, Kept, Shop, is_within, rental_by, are_apart, rises, IsGoodShop, has_row, IsLinkedShop}
use Rattle.shop_types.proofs.Common.{are_different, is_parcel, is_staff_of, pays_for, Books, Consignment, shop_of, unmarked, as_parcel, HasOneHolder, HasTerms}
use Rattle.shop_types.proofs.Common.{widest, seen_rental, seen_payment, same_if, equal_test, Table, Customers, CopyRows, Rentals, TermRows, Payments, RowOf}
use Rattle.shop_types.proofs.Common.{rows_of}
use Rattle.sqlite_keyed.proofs.ListLemmas.{IsPermutation-filter}
use Rattle.shop_model.specs.Calendar.{seconds_of}
use Rattle.audit_rows.specs.declared.books.OrderedBooks.{OrderedBooks}
use Rattle.audit_rows.specs.declared.rows.CheckedLot.{CheckedLot}
use Rattle.audit_rows.specs.declared.rows.CheckedKept.{CheckedKept}
use Rattle.audit_rows.specs.declared.rows.CheckedHeader.{CheckedHeader}
use Rattle.audit_rows.specs.Lists.{counts_from, rises_from}
use Rattle.audit_rows.specs.Joins.{Header, header}
use Rattle.audit_rows.specs.Seen.{seen_book_copy, seen_header, shop_copy}
use Rattle.audit_rows.specs.Shops.{is_among, open_keys, is_held_here}
use Rattle.audit_rows.specs.Tables.{ColumnsOf, CheckedOf, checked_columns, checked_row, checked_rows, is_in, all_tables}
use Rattle.audit_rows.specs.Parts.{PartRows, branch_rows, is_numbered, is_termed, is_sized, is_timely, has_places, has_people, has_payers, has_links, is_held}
use Rattle.audit_rows.specs.Parts.{is_good_part}
use Rattle.audit_rows.specs.Ordered.{AreOrdered, HaveOrderedRows, lot_row, kept_row}
use Rattle.audit_rows.proofs.Keys.{both}
use Rattle.audit_rows.proofs.Maps.{map-twice, map-undone, all-map, filter-map, length-map, many_kept}
use Rattle.audit_rows.proofs.Tests.{all_parts, all_and, moved, le_from, le_to, counted_is, is_counted}
use Rattle.audit_rows.proofs.OrderedLemmas.{each_passes, all_passing, book_copy_again}
use Rattle.audit_rows.proofs.ShopLemmas.{has_row_is, rises_is, held_from_different, different_from_held, here_from_all, all_from_here}
use Rattle.audit_rows.proofs.CatalogueLemmas.{city_named, film_named, staff_is}
use Rattle.audit_rows.proofs.PlaceLemmas.{headers_are}

-- what soundness says of one branch
pub record BranchFacts (rules : Rules) (b : ℕ) (books : Books) : Type 0 where
  pub numbers : (t : Table) → AreNumbered (is_of b) (λ (row : Row (RowOf t)). row.number) (rows_of books t)
  pub termed : HasTerms (shop_of b books)
  pub held : HasOneHolder (shop_of b books)
  pub shop : IsGoodShop (widest rules) (shop_of b books)
  pub links : IsLinkedShop b books.catalogue (shop_of b books)

-- what it says of the branch's consignments, lots and keys, which its own rows don't show
pub record BranchLinks (b : ℕ) (books : Books) : Type 0 where
  pub arrival_films : list_all (λ (it : Arrival). list_all (has_row books.catalogue.films) it.films) (shop_of b books).arrivals ≡ true
  pub parcels : list_all is_parcel (shop_of b books).sent ≡ true
  pub lots : are_different (λ (earlier later : Text). bytes_eq later earlier) (shop_of b books).lots ≡ true
  pub keys : are_different (λ (earlier later : Kept). bytes_eq earlier.command.key later.command.key) (shop_of b books).kept ≡ true

-- moments that are seen of rows
rising : {X Y : Type 0} (moment : Y → Moment) (f : X → Y) (xs : List X) → rises (map moment (map f xs)) ≡ rises_from 0 (map (λ x. seconds_of (moment (f x))) xs)
rising moment f xs =
    sym (rises_is (map moment (map f xs))) ∙ ap (rises_from 0) (ap (map seconds_of) (map-twice moment f xs) ∙ map-twice seconds_of (λ x. moment (f x)) xs)

module _ (rows : OrderedBooks) (books : Books) (o : AreOrdered rows) (s : HaveOrderedRows rows books) (b : ℕ) where
  abbrev part : PartRows
  part = branch_rows rows b

  abbrev shop : Shop
  shop = shop_of b books

  -- ---- the shop's lists and the branch's rows

  own : (t : Table) → map (checked_row t) (filter (is_of b) (rows_of books t)) ≡ part.rows t
  own t = sym (filter-map (is_in b) (checked_row t) (rows_of books t)) ∙ ap (filter (is_in b)) (s.rows t)

  columns_are : (t : Table) → map (checked_columns t) (of b (rows_of books t)) ≡ map (λ (row : CheckedOf t). row.it) (part.rows t)
  columns_are t =
      map-twice (checked_columns t) (λ (row : Row (RowOf t)). row.it) (filter (is_of b) (rows_of books t))
      ∙ sym (map-twice (λ (row : CheckedOf t). row.it) (checked_row t) (filter (is_of b) (rows_of books t))) ∙ ap (map (λ (row : CheckedOf t). row.it)) (own t)

  -- if `seen` recovers a row from its checked columns, the shop has the rows that `seen` recovers
  told : (t : Table) (seen : ColumnsOf t → RowOf t) → ((it : RowOf t) → seen (checked_columns t it) ≡ it)
      → of b (rows_of books t) ≡ map (λ (row : CheckedOf t). seen row.it) (part.rows t)
  told t seen again =
      sym (map-undone seen (checked_columns t) again (of b (rows_of books t)))
      ∙ ap (map seen) (columns_are t) ∙ map-twice seen (λ (row : CheckedOf t). row.it) (part.rows t)

  copies_are : shop.copies ≡ map shop_copy (part.rows CopyRows)
  copies_are =
      ap (map unmarked) (told CopyRows seen_book_copy book_copy_again)
      ∙ map-twice unmarked (λ (row : CheckedOf CopyRows). seen_book_copy row.it) (part.rows CopyRows)

  rentals_are : shop.rentals ≡ map (λ (row : CheckedOf Rentals). seen_rental row.it) (part.rows Rentals)
  rentals_are = told Rentals seen_rental (λ it. refl)

  payments_are : shop.payments ≡ map (λ (row : CheckedOf Payments). seen_payment row.it) (part.rows Payments)
  payments_are = told Payments seen_payment (λ it. refl)

  all_rows : (t : Table) (p : RowOf t → Bool) (q : CheckedOf t → Bool)
      → ((row : Row (RowOf t)) → p row.it ≡ q (checked_row t row)) → list_all p (of b (rows_of books t)) ≡ list_all q (part.rows t)
  all_rows t p q h =
      all-map p (λ (row : Row (RowOf t)). row.it) (filter (is_of b) (rows_of books t))
      ∙ moved (checked_row t) (filter (is_of b) (rows_of books t)) (part.rows t) (own t) (λ row. p row.it) q h

  numbers_are : (t : Table)
      → map (λ (row : CheckedOf t). row.number) (part.rows t) ≡ map (λ (row : Row (RowOf t)). row.number) (filter (is_of b) (rows_of books t))
  numbers_are t =
      ap (map (λ (row : CheckedOf t). row.number)) (sym (own t))
      ∙ map-twice (λ (row : CheckedOf t). row.number) (checked_row t) (filter (is_of b) (rows_of books t))

  -- ---- lengths

  length_is : (t : Table) → length (part.rows t) ≡ length (of b (rows_of books t))
  length_is t = sym (many_kept (checked_row t) (λ (row : Row (RowOf t)). row.it) (is_in b) (rows_of books t) (checked_rows rows t) (s.rows t))

  copies_length : length (part.rows CopyRows) ≡ length shop.copies
  copies_length = length_is CopyRows ∙ sym (length-map unmarked (of b books.copies))

  lots_length : part.lots ≡ length shop.lots
  lots_length = sym (many_kept lot_row (λ (row : Owned Text). row.it) (λ (row : CheckedLot). row.branch == b) books.lots rows.lots.items s.lots)

  kept_length : part.kept ≡ length shop.kept
  kept_length = sym (many_kept kept_row (λ (row : Owned Kept). row.it) (λ (row : CheckedKept). row.branch == b) books.kept rows.kept.items s.kept)

  by_source : map header (filter (λ (it : Consignment). it.source == b) s.consignments.by_key)
      ≡ map seen_header (filter (λ (row : CheckedHeader). row.source == b) rows.headers.items)
  by_source =
      sym (filter-map (λ (h : Header). h.source == b) header s.consignments.by_key)
      ∙ ap (filter (λ (h : Header). h.source == b)) (headers_are rows books.consignments s.consignments)
      ∙ filter-map (λ (h : Header). h.source == b) seen_header rows.headers.items

  sent_length : part.sent ≡ length shop.sent
  sent_length =
      sym (length-map seen_header (filter (λ (row : CheckedHeader). row.source == b) rows.headers.items)) ∙ sym (ap length by_source)
      ∙ length-map header (filter (λ (it : Consignment). it.source == b) s.consignments.by_key)
      ∙ sym (length_permutation _ _ (IsPermutation-filter (λ (it : Consignment). it.source == b) s.consignments.by_key books.consignments s.consignments.all))
      ∙ sym (length-map as_parcel (filter (λ (it : Consignment). it.source == b) books.consignments))

  -- ---- references

  customer_named : (n : ℕ) → has_row shop.customers n ≡ is_among (length (part.rows Customers)) n
  customer_named n = has_row_is shop.customers n ∙ ap (λ m. is_among m n) (sym (length_is Customers))

  copy_named : (n : ℕ) → has_row shop.copies n ≡ is_among (length (part.rows CopyRows)) n
  copy_named n = has_row_is shop.copies n ∙ ap (λ m. is_among m n) (sym copies_length)

  cities : list_all (λ (it : Customer). has_row books.catalogue.cities it.person.city) shop.customers
      ≡ list_all (λ (row : CheckedOf Customers). is_among (length rows.cities.items) row.it.city) (part.rows Customers)
  cities = all_rows Customers _ _ (λ row. city_named rows books o s.shared row.it.person.city)

  films : list_all (λ (it : Copy). has_row books.catalogue.films it.film) shop.copies
      ≡ list_all (λ (row : CheckedOf CopyRows). is_among (length rows.films.items) row.it.film) (part.rows CopyRows)
  films = all-map _ unmarked (of b books.copies) ∙ all_rows CopyRows _ _ (λ row. film_named rows books o s.shared row.it.film)

  people : (list_all (λ (it : Rental). has_row shop.copies it.copy) shop.rentals && list_all (λ (it : Rental). has_row shop.customers it.customer) shop.rentals
      && list_all (λ (it : Rental). is_staff_of b books.catalogue.staff it.staff) shop.rentals) ≡ has_people b rows.staff.items part
  people =
      (λ i. sym (all_and (λ (it : Rental). has_row shop.copies it.copy) (λ (it : Rental). has_row shop.customers it.customer) shop.rentals) i
      && list_all (λ (it : Rental). is_staff_of b books.catalogue.staff it.staff) shop.rentals)
      ∙ sym (all_and (λ (it : Rental). has_row shop.copies it.copy && has_row shop.customers it.customer)
      (λ (it : Rental). is_staff_of b books.catalogue.staff it.staff) shop.rentals)
      ∙ all_rows Rentals _ _ (λ row i. copy_named row.it.copy i && customer_named row.it.customer i && staff_is rows books o s.shared b row.it.staff i)

  payers :
      (list_all (λ (it : Payment). has_row shop.customers it.customer) shop.payments
      && list_all (λ (it : Payment). is_staff_of b books.catalogue.staff it.staff) shop.payments
      && list_all (pays_for shop.rentals) shop.payments) ≡ has_payers b rows.staff.items part
  payers =
      (λ i.
      sym (all_and (λ (it : Payment). has_row shop.customers it.customer) (λ (it : Payment). is_staff_of b books.catalogue.staff it.staff) shop.payments) i
      && list_all (pays_for shop.rentals) shop.payments)
      ∙ sym
      (all_and (λ (it : Payment). has_row shop.customers it.customer && is_staff_of b books.catalogue.staff it.staff) (pays_for shop.rentals) shop.payments)
      ∙ all_rows Payments _ _ (λ row i. customer_named row.it.customer i && staff_is rows books o s.shared b row.it.staff i && pays_for (rentals_are i) row.it)

  -- ---- sizes

  few_of : (n : ℕ) {m : ℕ} → n ≡ m → nat_le n part.kept ≡ true → m ≤ length shop.kept
  few_of n e h = let l = le_from n part.kept h in let k = kept_length in omega (arith, e, k, l)

  of_few : (n : ℕ) {m : ℕ} → n ≡ m → m ≤ length shop.kept → nat_le n part.kept ≡ true
  of_few n e h = le_to n part.kept (let k = kept_length in omega (arith, e, k, h))

  -- ---- rentals

  held_here : list_all (is_held_here shop.copies) shop.rentals
      ≡ list_all (λ (row : CheckedOf Rentals). is_held_here (map shop_copy (part.rows CopyRows)) (seen_rental row.it)) (part.rows Rentals)
  held_here = all_rows Rentals _ _ (λ row i. is_held_here (copies_are i) row.it)

  held_once : are_different bytes_eq (open_keys shop.rentals)
      ≡ are_different bytes_eq (open_keys (map (λ (row : CheckedOf Rentals). seen_rental row.it) (part.rows Rentals)))
  held_once = ap (λ (rs : List Rental). are_different bytes_eq (open_keys rs)) rentals_are

  -- ---- moments

  module _ (last : Option Moment) (is : shop.last ≡ last) where
    created : list_all (λ (c : Customer). is_within shop.last c.created) shop.customers
        ≡ list_all (λ (row : CheckedOf Customers). is_within last row.it.created) (part.rows Customers)
    created = all_rows Customers _ _ (λ row i. is_within (is i) row.it.created)

    rented : list_all (rental_by shop.last) shop.rentals ≡ list_all (λ (row : CheckedOf Rentals). rental_by last (seen_rental row.it)) (part.rows Rentals)
    rented = all_rows Rentals _ _ (λ row i. rental_by (is i) row.it)

    paid : list_all (λ (p : Payment). is_within shop.last p.paid) shop.payments
        ≡ list_all (λ (row : CheckedOf Payments). is_within last row.it.paid) (part.rows Payments)
    paid = all_rows Payments _ _ (λ row i. is_within (is i) row.it.paid)

    rentals_rise : rises (map (λ (r : Rental). r.rented) shop.rentals)
        ≡ rises_from 0 (map (λ (row : CheckedOf Rentals). seconds_of row.it.rented) (part.rows Rentals))
    rentals_rise =
        ap (λ (rs : List Rental). rises (map (λ (r : Rental). r.rented) rs)) rentals_are
        ∙ rising (λ (r : Rental). r.rented) (λ (row : CheckedOf Rentals). seen_rental row.it) (part.rows Rentals)

    payments_rise : rises (map (λ (p : Payment). p.paid) shop.payments)
        ≡ rises_from 0 (map (λ (row : CheckedOf Payments). seconds_of row.it.paid) (part.rows Payments))
    payments_rise =
        ap (λ (ps : List Payment). rises (map (λ (p : Payment). p.paid) ps)) payments_are
        ∙ rising (λ (p : Payment). p.paid) (λ (row : CheckedOf Payments). seen_payment row.it) (part.rows Payments)

    pub facts_from_part : (rules : Rules) → BranchLinks b books → is_good_part rows b last part ≡ true → BranchFacts rules b books
    facts_from_part rules more h =
        let all = all_parts (is_numbered part) (is_termed part ∷ is_sized part ∷ is_timely last part ∷ has_links rows b part ∷ is_held part ∷ []) h in
        let links = all_parts (has_places rows part) (has_people b rows.staff.items part ∷ has_payers b rows.staff.items part ∷ []) all.1.1.1.1.0 in
        let few =
        all_parts (nat_le part.kept 1000000)
        (nat_le (length (part.rows CopyRows)) 1000000 ∷ nat_le (length (part.rows Customers)) part.kept ∷ nat_le (length (part.rows Rentals)) part.kept
        ∷ nat_le (length (part.rows Payments)) part.kept ∷ nat_le part.lots part.kept ∷ nat_le part.sent part.kept ∷ [])
        all.1.1.0 in
        let by =
        all_parts (list_all (λ (row : CheckedOf Customers). is_within last row.it.created) (part.rows Customers))
        (list_all (λ (row : CheckedOf Rentals). rental_by last (seen_rental row.it)) (part.rows Rentals)
        ∷ list_all (λ (row : CheckedOf Payments). is_within last row.it.paid) (part.rows Payments)
        ∷ rises_from 0 (map (λ (row : CheckedOf Rentals). seconds_of row.it.rented) (part.rows Rentals))
        ∷ rises_from 0 (map (λ (row : CheckedOf Payments). seconds_of row.it.paid) (part.rows Payments)) ∷ [])
        all.1.1.1.0 in
        let places =
        both (list_all (λ (row : CheckedOf Customers). is_among (length rows.cities.items) row.it.city) (part.rows Customers))
        (list_all (λ (row : CheckedOf CopyRows). is_among (length rows.films.items) row.it.film) (part.rows CopyRows)) links.0 in
        let rents =
        all_parts (list_all (λ (it : Rental). has_row shop.copies it.copy) shop.rentals)
        (list_all (λ (it : Rental). has_row shop.customers it.customer) shop.rentals
        ∷ list_all (λ (it : Rental). is_staff_of b books.catalogue.staff it.staff) shop.rentals ∷ [])
        (people ∙ links.1.0) in
        let pays =
        all_parts (list_all (λ (it : Payment). has_row shop.customers it.customer) shop.payments)
        (list_all (λ (it : Payment). is_staff_of b books.catalogue.staff it.staff) shop.payments ∷ list_all (pays_for shop.rentals) shop.payments ∷ [])
        (payers ∙ links.1.1.0) in
        let held =
        all_parts (list_all (λ (row : CheckedOf Rentals). is_held_here (map shop_copy (part.rows CopyRows)) (seen_rental row.it)) (part.rows Rentals))
        (are_different bytes_eq (open_keys (map (λ (row : CheckedOf Rentals). seen_rental row.it) (part.rows Rentals)))
        ∷ are_apart (map (λ (row : CheckedOf Rentals). seen_rental row.it) (part.rows Rentals)) ∷ [])
        all.1.1.1.1.1.0 in
        record {
          numbers = λ t.
              subst (IsCounted 1) (numbers_are t)
              (counted_is 1 _ (each_passes (λ t. counts_from 1 (map (λ (row : CheckedOf t). row.number) (part.rows t))) all.0 t));
          termed = sym (length_is TermRows) ∙ same_if (length (part.rows TermRows)) (length (part.rows Rentals)) all.1.0 ∙ length_is Rentals;
          held = record {
            one = held_from_different shop.rentals (held_once ∙ held.1.0);
            here = here_from_all shop.copies shop.rentals (held_here ∙ held.0);
          };
          shop = record {
            apart = ap are_apart rentals_are ∙ held.1.1.0;
            created = created ∙ by.0;
            rented = rented ∙ by.1.0;
            paid = paid ∙ by.1.1.0;
            rentals_rise = rentals_rise ∙ by.1.1.1.0;
            payments_rise = payments_rise ∙ by.1.1.1.1.0;
            keys = subst (λ n. n ≤ 1000000) kept_length (le_from part.kept 1000000 few.0);
            copies = subst (λ n. n ≤ 1000000) copies_length (le_from (length (part.rows CopyRows)) 1000000 few.1.0);
            customers_fit = few_of (length (part.rows Customers)) (length_is Customers) few.1.1.0;
            rentals_fit = few_of (length (part.rows Rentals)) (length_is Rentals) few.1.1.1.0;
            payments_fit = few_of (length (part.rows Payments)) (length_is Payments) few.1.1.1.1.0;
            lots_fit = few_of part.lots lots_length few.1.1.1.1.1.0;
            sent_fit = few_of part.sent sent_length few.1.1.1.1.1.1.0;
          };
          links = record {
            customer_cities = cities ∙ places.0;
            copy_films = films ∙ places.1;
            rental_copies = rents.0;
            rental_customers = rents.1.0;
            rental_staff = rents.1.1.0;
            payment_customers = pays.0;
            payment_staff = pays.1.0;
            payment_rentals = pays.1.1.0;
            arrival_films = more.arrival_films;
            parcels = more.parcels;
            lots = more.lots;
            keys = more.keys;
          };
        }

    pub part_from_facts : (rules : Rules) → BranchFacts rules b books → is_good_part rows b last part ≡ true
    part_from_facts rules f =
        let numbered : is_numbered part ≡ true = all_passing _ (λ t. is_counted 1 _ (subst (IsCounted 1) (sym (numbers_are t)) (f.numbers t))) all_tables in
        let terms : is_termed part ≡ true =
        equal_test (length (part.rows TermRows)) (length (part.rows Rentals)) (length_is TermRows ∙ f.termed ∙ sym (length_is Rentals)) in
        let z0 : nat_le part.kept 1000000 ≡ true = le_to part.kept 1000000 (subst (λ n. n ≤ 1000000) (sym kept_length) f.shop.keys) in
        let z1 : nat_le (length (part.rows CopyRows)) 1000000 ≡ true =
        le_to (length (part.rows CopyRows)) 1000000 (subst (λ n. n ≤ 1000000) (sym copies_length) f.shop.copies) in
        let z2 : nat_le (length (part.rows Customers)) part.kept ≡ true = of_few (length (part.rows Customers)) (length_is Customers) f.shop.customers_fit in
        let z3 : nat_le (length (part.rows Rentals)) part.kept ≡ true = of_few (length (part.rows Rentals)) (length_is Rentals) f.shop.rentals_fit in
        let z4 : nat_le (length (part.rows Payments)) part.kept ≡ true = of_few (length (part.rows Payments)) (length_is Payments) f.shop.payments_fit in
        let z5 : nat_le part.lots part.kept ≡ true = of_few part.lots lots_length f.shop.lots_fit in
        let z6 : nat_le part.sent part.kept ≡ true = of_few part.sent sent_length f.shop.sent_fit in
        let places : has_places rows part ≡ true = (λ i. (sym cities ∙ f.links.customer_cities) i && (sym films ∙ f.links.copy_films) i) in
        let timely : is_timely last part ≡ true =
        (λ i.
        (sym created ∙ f.shop.created) i && (sym rented ∙ f.shop.rented) i && (sym paid ∙ f.shop.paid) i
        && (sym rentals_rise ∙ f.shop.rentals_rise) i && (sym payments_rise ∙ f.shop.payments_rise) i) in
        let rents : has_people b rows.staff.items part ≡ true =
        sym people ∙ (λ i. f.links.rental_copies i && f.links.rental_customers i && f.links.rental_staff i) in
        let pays : has_payers b rows.staff.items part ≡ true =
        sym payers ∙ (λ i. f.links.payment_customers i && f.links.payment_staff i && f.links.payment_rentals i) in
        let here = sym held_here ∙ all_from_here shop.copies shop.rentals f.held.here in
        let once = sym held_once ∙ different_from_held shop.rentals f.held.one in
        let apart = sym (ap are_apart rentals_are) ∙ f.shop.apart in
        (λ i.
        numbered i && terms i && (z0 i && z1 i && z2 i && z3 i && z4 i && z5 i && z6 i)
        && timely i && (places i && rents i && pays i) && (here i && once i && apart i))
