-- Sound books stay sound if they are put in the order of their keys.
use Rattle.shop_types.proofs.Common.{◌≡◌, ◌&&◌, ◌+◌, ◌≤◌, ◌==◌, ℕ, List, [], ◌∷◌, map, filter, length, Bool, true, false, cond, refl, sym, ap, subst, ◌∙◌}
use Rattle.shop_types.proofs.Common.{arith, true≢false, IsPermutation, Ordering, bytes_eq, nat_cmp, list_all, flat_map, nat_cmp_total, on_total, nat_eq_equiv}
use Rattle.shop_types.proofs.Common.{nat_tests, IsPermutation-map, length_permutation, list_any-IsPermutation, Moment, Row, Owned, owned_by, IsCounted}
use Rattle.shop_types.proofs.Common.{AreNumbered, total, Text, Branch, Cast, Rules, Here, Scrapped, Kept, OfficeKept, Catalogue, Shop, IsGoodShop, has_row}
use Rattle.shop_types.proofs.Common.{IsLinkedShop, IsGoodCatalogue, Books, BookCopy, Mark, Line, UnderWay, Missing, Consignment, shop_of, head, as_arrival}
use Rattle.shop_types.proofs.Common.{as_parcel, HasOneHolder, HasOwners, HasTerms, IsSound, is_made_as, is_origin, is_settled, one, copy_is, lines_in}
use Rattle.shop_types.proofs.Common.{all_lines, AreRowsNumbered, Table, CopyRows, RowOf, rows_of}
use Rattle.shop_model.specs.Books.{RowsOf}
use Rattle.sqlite_keyed.proofs.ListLemmas.{along_permutation, IsPermutation-filter}
use Rattle.sqlite_keyed.proofs.SortLemmas.{sorted_unique}
use Rattle.audit_rows.specs.Canons.{IsCanonOf, office_key}
use Rattle.audit_rows.specs.Tables.{shop_with}
use Rattle.audit_rows.proofs.Keys.{both, different_along, different-map, bytes_eq_symm}
use Rattle.audit_rows.proofs.Tests.{all_congr}
use Rattle.audit_rows.proofs.Canon.{counted_ascends, same_branch, same_items}

-- ---- lists in another order

pub all_along : {X : Type 0} (p : X → Bool) (xs ys : List X) → IsPermutation xs ys → list_all p xs ≡ list_all p ys
all_along {X} p =
    along_permutation (λ (xs ys : List X). list_all p xs ≡ list_all p ys) (λ xs. refl)
    (λ x us vs h. ap (λ b. p x && b) h) (λ x y us. swapped (p x) (p y) (list_all p us)) (λ us vs ws h k. h ∙ k)
  where
    swapped : (a b c : Bool) → (a && (b && c)) ≡ (b && (a && c))
    swapped true b c = refl
    swapped false true c = refl
    swapped false false c = refl

pub total_along : {X : Type 0} (w : X → ℕ) (xs ys : List X) → IsPermutation xs ys → total w xs ≡ total w ys
total_along {X} w =
    along_permutation (λ (xs ys : List X). total w xs ≡ total w ys) (λ xs. refl)
    (λ x us vs h. ap (λ n. w x + n) h) (λ x y us. omega arith) (λ us vs ws h k. h ∙ k)

owned_along : {A : Type 0} (b : ℕ) (xs ys : List (Owned A)) → IsPermutation xs ys → IsPermutation (owned_by b xs) (owned_by b ys)
owned_along {A} b xs ys h = IsPermutation-map (λ (row : Owned A). row.it) _ _ (IsPermutation-filter (λ (row : Owned A). row.owner == b) xs ys h)

-- ---- a shop whose keys and lots are in another order

module _ (s : Shop) (lots : List Text) (kept : List Kept) (p : IsPermutation s.lots lots) (q : IsPermutation s.kept kept) where
  few : {X : Type 0} (xs : List X) → length xs ≤ length s.kept → length xs ≤ length kept
  few xs h = let n = length_permutation s.kept kept q in omega (arith, h, n)

  good_shop : (rules : Rules) → IsGoodShop rules s → IsGoodShop rules (record s { lots = lots; kept = kept })
  good_shop rules g =
      let n = length_permutation s.kept kept q in
      let m = length_permutation s.lots lots p in
      let keys = g.keys in
      let lots_fit = g.lots_fit in
      record {
        apart = g.apart;
        created = g.created;
        rented = g.rented;
        paid = g.paid;
        rentals_rise = g.rentals_rise;
        payments_rise = g.payments_rise;
        keys = omega (arith, n, keys);
        copies = g.copies;
        customers_fit = few s.customers g.customers_fit;
        rentals_fit = few s.rentals g.rentals_fit;
        payments_fit = few s.payments g.payments_fit;
        lots_fit = omega (arith, n, m, lots_fit);
        sent_fit = few s.sent g.sent_fit;
      }

  linked_shop : (b : ℕ) (catalogue : Catalogue) (office : List OfficeKept) (casts : List Cast) → IsLinkedShop b catalogue s
      → IsLinkedShop b (record catalogue { kept = office; casts = casts }) (record s { lots = lots; kept = kept })
  linked_shop b catalogue office casts g = record {
    customer_cities = g.customer_cities;
    copy_films = g.copy_films;
    rental_copies = g.rental_copies;
    rental_customers = g.rental_customers;
    rental_staff = g.rental_staff;
    payment_customers = g.payment_customers;
    payment_staff = g.payment_staff;
    payment_rentals = g.payment_rentals;
    arrival_films = g.arrival_films;
    parcels = g.parcels;
    lots = sym (different_along (λ (earlier later : Text). bytes_eq later earlier) (λ x y. bytes_eq_symm y x) s.lots lots p) ∙ g.lots;
    keys =
        sym (different_along (λ (earlier later : Kept). bytes_eq earlier.command.key later.command.key)
        (λ x y. bytes_eq_symm x.command.key y.command.key) s.kept kept q)
        ∙ g.keys;
  }

  one_holder : HasOneHolder s → HasOneHolder (record s { lots = lots; kept = kept })
  one_holder g = record { one = g.one; here = g.here }

-- ---- a catalogue whose keys and casts are in another order

same_cast : (x y : Cast) → (x.film == y.film && x.actor == y.actor) ≡ (y.film == x.film && y.actor == x.actor)
same_cast x y = λ i. nat_eq_equiv.symm x.film y.film i && nat_eq_equiv.symm x.actor y.actor i

module _ (c : Catalogue) (kept : List OfficeKept) (casts : List Cast)
    (p : IsPermutation (map office_key c.kept) (map office_key kept)) (q : IsPermutation c.casts casts) where
  many : (xs : List OfficeKept) → length (map office_key xs) ≡ length xs
  many [] = refl
  many (x ∷ xs) = let more = many xs in omega (arith, more)

  good_catalogue : (rules : Rules) → IsGoodCatalogue rules c → IsGoodCatalogue rules (record c { kept = kept; casts = casts })
  good_catalogue rules g =
      let n : length c.kept ≡ length kept = sym (many c.kept) ∙ sym (length_permutation _ _ p) ∙ many kept in
      let m = length_permutation c.casts casts q in
      let keys_fit = g.keys_fit in
      let s = g.sizes in
      record {
        names = record {
          city_countries = g.names.city_countries;
          film_languages = g.names.film_languages;
          film_categories = g.names.film_categories;
          cast_films = sym (all_along (λ (it : Cast). has_row c.films it.film) c.casts casts q) ∙ g.names.cast_films;
          cast_actors = sym (all_along (λ (it : Cast). has_row c.actors it.actor) c.casts casts q) ∙ g.names.cast_actors;
          branch_cities = g.names.branch_cities;
          managers = g.names.managers;
          staff_branches = g.names.staff_branches;
          staff_cities = g.names.staff_cities;
        };
        sizes = record {
          casts = (let h = s.casts in omega (arith, n, m, h));
          countries = (let h = s.countries in omega (arith, n, h));
          cities = (let h = s.cities in omega (arith, n, h));
          languages = (let h = s.languages in omega (arith, n, h));
          categories = (let h = s.categories in omega (arith, n, h));
          actors = (let h = s.actors in omega (arith, n, h));
          films = (let h = s.films in omega (arith, n, h));
          branches = (let h = s.branches in omega (arith, n, h));
          staff = (let h = s.staff in omega (arith, n, h));
        };
        single = record {
          casts =
              sym (different_along (λ (earlier later : Cast). earlier.film == later.film && earlier.actor == later.actor) same_cast c.casts casts q)
              ∙ g.single.casts;
          countries = g.single.countries;
          languages = g.single.languages;
          categories = g.single.categories;
        };
        keys_fit = omega (arith, n, keys_fit);
        keys =
            sym (different-map bytes_eq office_key kept) ∙ sym (different_along bytes_eq bytes_eq_symm (map office_key c.kept) (map office_key kept) p)
            ∙ different-map bytes_eq office_key c.kept ∙ g.keys;
        tokens = g.tokens;
        office_token = g.office_token;
      }

-- ---- books

module _ (c b : Books) (canon : IsCanonOf c b) (rules : Rules) (sound : IsSound rules b) where
  abbrev by_place : Consignment → Consignment → Ordering
  by_place x y = nat_cmp x.place y.place

  consignments_same : c.consignments ≡ b.consignments
  consignments_same =
      sorted_unique by_place (on_total (λ (x : Consignment). x.place) nat_cmp_total) b.consignments c.consignments
      (counted_ascends (λ (x : Consignment). x.place) 1 b.consignments sound.places)
      canon.consignments canon.in_order

  -- the shop of a branch but for the order of its keys and lots, and the last moment
  shop_same : (n : ℕ) → head (owned_by n c.lasts) ≡ head (owned_by n b.lasts)
      → shop_of n c ≡ record (shop_of n b) { lots = owned_by n c.lots; kept = owned_by n c.kept }
  shop_same n last = λ i.
      record (shop_with (λ t. same_items n (rows_of c t) (rows_of b t) (canon.climb t) (canon.rows t) (sound.numbers.rows t n) i) (shop_of n c)) {
        arrivals = map as_arrival (filter (λ (it : Consignment). it.addressee == n) (consignments_same i));
        sent = map as_parcel (filter (λ (it : Consignment). it.source == n) (consignments_same i));
        last = last i;
      }

  no_owner : (p : ℕ → Bool) (n : ℕ) → p n ≡ false → (rows : List (Owned Moment))
      → list_all (λ (row : Owned Moment). p row.owner) rows ≡ true → owned_by n rows ≡ []
  no_owner p n h [] all = refl
  no_owner p n h (row ∷ rows) all =
      let parts = both (p row.owner) (list_all (λ (r : Owned Moment). p r.owner) rows) all in
      go (row.owner == n) refl parts.0 (no_owner p n h rows parts.1)
    where
      go : (t : Bool) → (row.owner == n) ≡ t → p row.owner ≡ true → owned_by n rows ≡ []
          → map (λ (r : Owned Moment). r.it)
          (cond t (row ∷ filter (λ (r : Owned Moment). r.owner == n) rows) (filter (λ (r : Owned Moment). r.owner == n) rows))
          ≡ []
      go true e q more = let same : row.owner ≡ n = grind (arith, nat_tests) in absurd (true≢false (sym q ∙ ap p same ∙ h))
      go false e q more = more

  last_same : (n : ℕ) → head (owned_by n c.lasts) ≡ head (owned_by n b.lasts)
  last_same n = go (has_row b.catalogue.branches n) refl
    where
      go : (t : Bool) → has_row b.catalogue.branches n ≡ t → head (owned_by n c.lasts) ≡ head (owned_by n b.lasts)
      go true e = canon.lasts n e
      go false e =
          ap head
          (no_owner (has_row b.catalogue.branches) n e c.lasts canon.owners ∙ sym (no_owner (has_row b.catalogue.branches) n e b.lasts sound.owners.lasts))

  abbrev shop_is : (n : ℕ) → shop_of n c ≡ record (shop_of n b) { lots = owned_by n c.lots; kept = owned_by n c.kept }
  shop_is n = shop_same n (last_same n)

  branches_same : c.catalogue.branches ≡ b.catalogue.branches
  branches_same = ap (λ (k : Catalogue). k.branches) canon.shared

  rows_same : (w : Row BookCopy → ℕ) → total w c.copies ≡ total w b.copies
  rows_same w = sym (total_along w b.copies c.copies (canon.rows CopyRows))

  lines_same : all_lines c ≡ all_lines b
  lines_same = ap (flat_map (λ (it : Consignment). it.lines)) consignments_same

  made_same : (film : ℕ) (mark : Mark) → is_made_as c.copies film mark ≡ is_made_as b.copies film mark
  made_same film mark =
      sym (list_any-IsPermutation
      (λ (row : Row BookCopy). is_origin row && row.it.film == film && row.it.mark.branch == mark.branch && row.it.mark.copy == mark.copy)
      b.copies c.copies (canon.rows CopyRows))

  owners : HasOwners b.catalogue.branches c
  owners = record {
    rows = λ t. sym (all_along _ (rows_of b t) (rows_of c t) (canon.rows t)) ∙ sound.owners.rows t;
    lots = sym (all_along _ b.lots c.lots canon.lots) ∙ sound.owners.lots;
    kept = sym (all_along _ b.kept c.kept canon.kept) ∙ sound.owners.kept;
    lasts = canon.owners;
    sources = ap (list_all (λ (it : Consignment). has_row b.catalogue.branches it.source)) consignments_same ∙ sound.owners.sources;
    addressees = ap (list_all (λ (it : Consignment). has_row b.catalogue.branches it.addressee)) consignments_same ∙ sound.owners.addressees;
  }

  rows_numbered : (t : Table) → AreRowsNumbered t (rows_of c t)
  rows_numbered t n =
      subst (λ (rows : RowsOf t). IsCounted 1 (map (λ (row : Row (RowOf t)). row.number) rows))
      (sym (same_branch n (rows_of c t) (rows_of b t) (canon.climb t) (canon.rows t) (sound.numbers.rows t n)))
      (sound.numbers.rows t n)

  -- sound books are sound in the order of their keys, too
  pub stays_sound : IsSound rules c
  stays_sound = record {
    catalogue =
        subst (IsGoodCatalogue rules) (sym canon.shared)
        (good_catalogue b.catalogue c.catalogue.kept c.catalogue.casts canon.office_kept canon.casts rules sound.catalogue);
    owners = subst (λ (branches : List Branch). HasOwners branches c) (sym branches_same) owners;
    numbers = record {
      rows = rows_numbered;
      consignments = λ source addressee.
          subst (λ (its : List Consignment).
          AreNumbered (λ (it : Consignment). it.source == source && it.addressee == addressee) (λ (it : Consignment). it.number) its)
          (sym consignments_same) (sound.numbers.consignments source addressee);
    };
    places = subst (λ (its : List Consignment). IsCounted 1 (map (λ (it : Consignment). it.place) its)) (sym consignments_same) sound.places;
    custody = λ test.
        rows_same (λ row. one (is_origin row && test row.it.mark)) ∙ sound.custody test
        ∙ (λ i. sym (rows_same (λ row. one (copy_is row.it.state Here && test row.it.mark))) i + lines_in UnderWay test (sym lines_same i)
        + (sym (rows_same (λ row. one (copy_is row.it.state Scrapped && test row.it.mark))) i + lines_in Missing test (sym lines_same i)));
    origins = record {
      rows =
          all_congr _ _ (λ row. made_same row.it.film row.it.mark) c.copies
          ∙ sym (all_along (λ (row : Row BookCopy). is_made_as b.copies row.it.film row.it.mark) b.copies c.copies (canon.rows CopyRows)) ∙ sound.origins.rows;
      lines =
          all_congr _ _ (λ (line : Line). made_same line.film line.mark) (all_lines c)
          ∙ ap (list_all (λ (line : Line). is_made_as b.copies line.film line.mark)) lines_same ∙ sound.origins.lines;
    };
    settled = ap (list_all is_settled) consignments_same ∙ sound.settled;
    lasts = canon.lasts_apart;
    held = λ n.
        subst HasOneHolder (sym (shop_is n))
        (one_holder (shop_of n b) _ _ (owned_along n b.lots c.lots canon.lots) (owned_along n b.kept c.kept canon.kept) (sound.held n));
    shops = λ n.
        subst (IsGoodShop rules) (sym (shop_is n))
        (good_shop (shop_of n b) _ _ (owned_along n b.lots c.lots canon.lots) (owned_along n b.kept c.kept canon.kept) rules (sound.shops n));
    links = λ n.
        subst (λ (k : Catalogue). IsLinkedShop n k (shop_of n c)) (sym canon.shared)
        (subst (IsLinkedShop n (record b.catalogue { kept = c.catalogue.kept; casts = c.catalogue.casts })) (sym (shop_is n))
        (linked_shop (shop_of n b) _ _ (owned_along n b.lots c.lots canon.lots)
        (owned_along n b.kept c.kept canon.kept) n b.catalogue c.catalogue.kept c.catalogue.casts (sound.links n)));
    terms = λ n. subst HasTerms (sym (shop_is n)) (sound.terms n);
  }
