-- Each step keeps what the rows of a shop name.
use Rattle.shop_model.proofs.Common.{◌≡◌, opening, inl, inr, ℕ, ◌-◌, List, [], ◌∷◌, ◌++◌, filter, map, Bool, true, false, refl, sym, subst, ap, ◌∙◌, ⊤, ◌==◌}
use Rattle.shop_model.proofs.Common.{◌&&◌, option_to_list, list_any, list_all, bytes_eq, cases_Bool, Row, Owned, of, owned_by, is_of, next, put_all, set_rows}
use Rattle.shop_model.proofs.Common.{AreNumbered, at, set_at, set_all, Text, Customer, Copy, Rental, Payment, Arrival, Act, Command, Rules, Kept, Shop}
use Rattle.shop_model.proofs.Common.{Catalogue, films_at, reply_text, Books, BookCopy, Line, Consignment, Table, Customers, CopyRows, Rentals, Payments, RowOf}
use Rattle.shop_model.proofs.Common.{rows_of, with_rows, Edit, Put, Set, PutLot, Append, Update, edited, edits_of, book_acted, book_done, shop_of, unmarked}
use Rattle.shop_model.proofs.Common.{as_arrival, as_parcel, has_row, are_different, is_staff_of, pays_for, is_parcel, IsLinkedShop, HasNumbers, AreRowsNumbered}
use Rattle.shop_model.proofs.Common.{Terms}
use mathlib.Core.Path.{fun_ext}
use Rattle.std.proofs.lemmas.List.Folds.{list_all-map}
use Rattle.shop_model.proofs.RowLemmas.{same_test, more_yes, more_no, set_same, put_all_counted, set_rows_own, set_rows_counted}
use Rattle.shop_model.proofs.ShopLemmas.{with_arrivals, arrived_or_same}
use Rattle.shop_model.proofs.EditLemmas.{by_table, AskedOfEach, each_keeps, new_its, put_all_its}
use Rattle.shop_model.proofs.Accepted.{catalogue_stays}
use Rattle.shop_model.proofs.GoodShops.{all_more, all_weaker}
use Rattle.shop_model.proofs.Origins.{all_append}
use Rattle.shop_model.proofs.LinkLemmas.{has_more, has_set_all, any_at_more, any_at_set, all_at, all_set_all, all_mapped, different_more}
use Rattle.shop_model.proofs.GoodCatalogues.{Grows}

-- ---- a branch's tables

pub has_mapped : {A B : Type 0} (g : A → B) (n : ℕ) (rows : List A) → has_row (map g rows) n ≡ has_row rows n
has_mapped g n [] = refl
has_mapped g n (row ∷ rows) = elim (cases_Bool (n == 1)) [ inl is ↦ rw is | inr isnt ↦ rw isnt (has_mapped g (n - 1) rows) ]

all_same : {A : Type 0} (p q : A → Bool) (xs : List A) → ((x : A) → p x ≡ q x) → list_all p xs ≡ list_all q xs
all_same p q xs same = ap (λ test. list_all test xs) (fun_ext same)

abbrev pub AreLinked : ℕ → Books → (t : Table) → List (RowOf t) → Type 0
AreLinked b books Customers its = list_all (λ (it : Customer). has_row books.catalogue.cities it.person.city) its ≡ true
AreLinked b books CopyRows its = list_all (λ (it : BookCopy). has_row books.catalogue.films it.film) its ≡ true
AreLinked b books Rentals its =
    (list_all (λ (it : Rental). has_row (of b books.copies) it.copy) its ≡ true)
    × (list_all (λ (it : Rental). has_row (of b books.customers) it.customer) its ≡ true)
    × (list_all (λ (it : Rental). is_staff_of b books.catalogue.staff it.staff) its ≡ true)
AreLinked b books Payments its =
    (list_all (λ (it : Payment). has_row (of b books.customers) it.customer) its ≡ true)
    × (list_all (λ (it : Payment). is_staff_of b books.catalogue.staff it.staff) its ≡ true)
    × (list_all (pays_for (of b books.rentals)) its ≡ true)
AreLinked b books t its = ⊤

linked_append : (b : ℕ) (books : Books) (t : Table) (xs ys : List (RowOf t)) → AreLinked b books t xs → AreLinked b books t ys → AreLinked b books t (xs ++ ys)
linked_append b books Customers xs ys is are = all_append _ xs ys is are
linked_append b books CopyRows xs ys is are = all_append _ xs ys is are
linked_append b books Rentals xs ys is are = (all_append _ xs ys is.0 are.0, all_append _ xs ys is.1 are.1, all_append _ xs ys is.2 are.2)
linked_append b books Payments xs ys is are = (all_append _ xs ys is.0 are.0, all_append _ xs ys is.1 are.1, all_append _ xs ys is.2 are.2)
linked_append b books t xs ys is are = tt

-- what a change of rows is asked
abbrev pub KeepsLinks : Books → (t : Table) → (RowOf t → RowOf t) → Type 0
KeepsLinks books Customers f = (it : Customer) → has_row books.catalogue.cities it.person.city ≡ true → has_row books.catalogue.cities (f it).person.city ≡ true
KeepsLinks books CopyRows f = (it : BookCopy) → (f it).film ≡ it.film
KeepsLinks books Rentals f = (it : Rental) → ((f it).copy ≡ it.copy) × ((f it).customer ≡ it.customer) × ((f it).staff ≡ it.staff)
KeepsLinks books Payments f = (it : Payment) → f it ≡ it
KeepsLinks books t f = ⊤

linked_set : (b : ℕ) (books : Books) (t : Table) (ns : List ℕ) (f : RowOf t → RowOf t) (its : List (RowOf t))
    → KeepsLinks books t f → AreLinked b books t its → AreLinked b books t (set_all ns f its)
linked_set b books Customers ns f its keeps is = all_set_all _ ns f its is keeps
linked_set b books CopyRows ns f its keeps is = all_set_all _ ns f its is (λ it has. rw (keeps it) has)
linked_set b books Rentals ns f its keeps is = (
  all_set_all _ ns f its is.0 (λ it has. rw (keeps it).0 has),
  all_set_all _ ns f its is.1 (λ it has. rw (keeps it).1 has),
  all_set_all _ ns f its is.2 (λ it has. rw (keeps it).2 has),
)
linked_set b books Payments ns f its keeps is = (
  all_set_all _ ns f its is.0 (λ it has. rw (keeps it) has),
  all_set_all _ ns f its is.1 (λ it has. rw (keeps it) has),
  all_set_all _ ns f its is.2 (λ it has. rw (keeps it) has),
)
linked_set b books t ns f its keeps is = tt

-- rows that other rows name stay there, and each rental keeps its customer
abbrev KeepsPays : (t : Table) → List (RowOf t) → List (RowOf t) → Type 0
KeepsPays Rentals old new = (it : Payment) → pays_for old it ≡ true → pays_for new it ≡ true
KeepsPays t old new = ⊤

abbrev Stays : ℕ → Books → (t : Table) → List (Row (RowOf t)) → Type 0
Stays b books t new = ((n : ℕ) → has_row (of b (rows_of books t)) n ≡ true → has_row (of b new) n ≡ true) × KeepsPays t (of b (rows_of books t)) (of b new)

pays_all : (xs ys : List Rental)
    → ((n r : ℕ) → list_any (λ (it : Rental). it.customer == n) (at r xs) ≡ true → list_any (λ (it : Rental). it.customer == n) (at r ys) ≡ true)
    → (it : Payment) → pays_for xs it ≡ true → pays_for ys it ≡ true
pays_all xs ys more it pays = all_weaker _ _ (option_to_list it.rental) (λ r some. more it.customer r some) pays

stays_put : (b : ℕ) (books : Books) (t : Table) (makes : List (ℕ → RowOf t)) → Stays b books t (put_all b makes (rows_of books t))
stays_put b books t makes = (
  λ n has. rw (put_all_its b makes (rows_of books t)) (has_more n (of b (rows_of books t)) (new_its (next b (rows_of books t)) makes) has),
  pays t makes,
) where
  pays : (t : Table) (makes : List (ℕ → RowOf t)) → KeepsPays t (of b (rows_of books t)) (of b (put_all b makes (rows_of books t)))
  pays Rentals makes = rw (put_all_its b makes books.rentals) (pays_all (of b books.rentals) _ (λ n r some. any_at_more _ r (of b books.rentals) _ some))
  pays t makes = tt

stays_set : (b : ℕ) (books : Books) (t : Table) (ns : List ℕ) (f : RowOf t → RowOf t)
    → AreNumbered (is_of b) (λ (row : Row (RowOf t)). row.number) (rows_of books t) → KeepsLinks books t f → Stays b books t (set_rows b ns f (rows_of books t))
stays_set b books t ns f counted keeps =
    (λ n has. rw (set_rows_own b ns f (rows_of books t) counted) (has_set_all n ns f (of b (rows_of books t)) ∙ has), pays t f counted keeps) where
      set_any : (p : Rental → Bool) (r : ℕ) (ns : List ℕ) (f : Rental → Rental) (xs : List Rental)
          → ((x : Rental) → p (f x) ≡ p x) → list_any p (at r (set_all ns f xs)) ≡ list_any p (at r xs)
      set_any p r [] f xs same = refl
      set_any p r (n ∷ ns) f xs same = set_any p r ns f (set_at n f xs) same ∙ any_at_set p r n f xs same

      pays : (t : Table) (f : RowOf t → RowOf t) → AreNumbered (is_of b) (λ (row : Row (RowOf t)). row.number) (rows_of books t)
          → KeepsLinks books t f → KeepsPays t (of b (rows_of books t)) (of b (set_rows b ns f (rows_of books t)))
      pays Rentals f counted keeps =
          rw (set_rows_own b ns f books.rentals counted)
          (pays_all (of b books.rentals) _
          (λ n r some. set_any (λ (it : Rental). it.customer == n) r ns f (of b books.rentals) (λ x. ap (λ c. c == n) (keeps x).1) ∙ some))
      pays t f counted keeps = tt

linked_stays : (b : ℕ) (books : Books) (u : Table) (new : List (Row (RowOf u))) → Stays b books u new
    → (t : Table) (its : List (RowOf t)) → AreLinked b books t its → AreLinked b (with_rows u new books) t its
linked_stays b books u new stays t its is = go t its is where
  all : (t : Table) → Stays b books t (rows_of (with_rows u new books) t)
  all = by_table (Stays b books) u new books stays (λ t. (λ n has. has, same t)) where
    same : (t : Table) → KeepsPays t (of b (rows_of books t)) (of b (rows_of books t))
    same Rentals = λ it pays. pays
    same t = tt

  go : (t : Table) (its : List (RowOf t)) → AreLinked b books t its → AreLinked b (with_rows u new books) t its
  go Customers its is = is
  go CopyRows its is = is
  go Rentals its is = (
    all_weaker _ _ its (λ (it : Rental) has. (all CopyRows).0 it.copy has) is.0,
    all_weaker _ _ its (λ (it : Rental) has. (all Customers).0 it.customer has) is.1,
    is.2,
  )
  go Payments its is = (all_weaker _ _ its (λ (it : Payment) has. (all Customers).0 it.customer has) is.0, is.1, all_weaker _ _ its (all Rentals).1 is.2)
  go t its is = tt

-- ---- edits

abbrev pub KeepsParcel : (Consignment → Consignment) → Type 0
KeepsParcel f =
    (it : Consignment)
    → ((f it).source ≡ it.source) × ((f it).addressee ≡ it.addressee)
    × (map (λ (line : Line). line.film) (f it).lines ≡ map (λ (line : Line). line.film) it.lines)

-- what an edit is asked
abbrev pub IsLinkedEdit : ℕ → Books → Edit → Type 0
IsLinkedEdit b books (Put t makes) = (n : ℕ) → AreLinked b books t (new_its n makes)
IsLinkedEdit b books (Set t ns f) = KeepsLinks books t f
IsLinkedEdit b books (PutLot lot) = list_any (bytes_eq lot) (owned_by b books.lots) ≡ false
IsLinkedEdit b books (Append it) =
    (list_all (has_row books.catalogue.films) (map (λ (line : Line). line.film) it.lines) ≡ true) × (is_parcel (as_parcel it) ≡ true)
IsLinkedEdit b books (Update test f) = KeepsParcel f

record AreBooksLinked (b : ℕ) (books : Books) : Type 0 where
  tables : (t : Table) → AreLinked b books t (of b (rows_of books t))
  counted : (t : Table) → AreRowsNumbered t (rows_of books t)
  lots : are_different (λ (earlier later : Text). bytes_eq later earlier) (owned_by b books.lots) ≡ true
  arrivals :
      list_all (list_all (has_row books.catalogue.films))
      (map (λ (it : Consignment). map (λ (line : Line). line.film) it.lines) (filter (λ (it : Consignment). it.addressee == b) books.consignments))
      ≡ true
  parcels : list_all is_parcel (map as_parcel (filter (λ (it : Consignment). it.source == b) books.consignments)) ≡ true

all_one_more : {A B : Type 0} (p : B → Bool) (g : A → B) (q : A → Bool) (xs : List A) (x : A)
    → list_all p (map g (filter q xs)) ≡ true → p (g x) ≡ true → list_all p (map g (filter q (xs ++ x ∷ []))) ≡ true
all_one_more p g q xs x all is = elim (cases_Bool (q x)) [
  | inl mine ↦ rw (more_yes g q xs x mine) (all_more p (map g (filter q xs)) (g x) all is)
  | inr other ↦ rw (more_no g q xs x other) all
]

linked_edited : (b : ℕ) (books : Books) (edit : Edit) → IsLinkedEdit b books edit → AreBooksLinked b books → AreBooksLinked b (edited b edit books)
linked_edited b books (Put t makes) asked h =
    let new = put_all b makes (rows_of books t) in
    let still = linked_stays b books t new (stays_put b books t makes) in
    let own =
    linked_append b (with_rows t new books) t (of b (rows_of books t)) (new_its (next b (rows_of books t)) makes)
    (still t _ (h.tables t)) (still t _ (asked (next b (rows_of books t)))) in
    record {
      tables =
          by_table (λ u its. AreLinked b (with_rows t new books) u (of b its)) t new books
          (subst (AreLinked b (with_rows t new books) t) (sym (put_all_its b makes (rows_of books t))) own) (λ u. still u _ (h.tables u));
      counted = by_table AreRowsNumbered t new books (λ c. put_all_counted c b makes (rows_of books t) (h.counted t c)) h.counted;
      lots = h.lots;
      arrivals = h.arrivals;
      parcels = h.parcels;
    }
linked_edited b books (Set t ns f) asked h =
    let new = set_rows b ns f (rows_of books t) in
    let still = linked_stays b books t new (stays_set b books t ns f (h.counted t b) asked) in
    let own = still t _ (linked_set b books t ns f (of b (rows_of books t)) asked (h.tables t)) in
    record {
      tables =
          by_table (λ u its. AreLinked b (with_rows t new books) u (of b its)) t new books
          (subst (AreLinked b (with_rows t new books) t) (sym (set_rows_own b ns f (rows_of books t) (h.counted t b))) own) (λ u. still u _ (h.tables u));
      counted = by_table AreRowsNumbered t new books (λ c. set_rows_counted c b ns f (rows_of books t) (h.counted t c)) h.counted;
      lots = h.lots;
      arrivals = h.arrivals;
      parcels = h.parcels;
    }
linked_edited b books (PutLot lot) asked h = record {
  tables = h.tables;
  counted = h.counted;
  lots =
      rw (more_yes (λ (row : Owned Text). row.it) (λ row. row.owner == b) books.lots (record { owner = b; it = lot }) (same_test b))
      (different_more (λ (earlier later : Text). bytes_eq later earlier) (owned_by b books.lots) lot h.lots asked);
  arrivals = h.arrivals;
  parcels = h.parcels;
}
linked_edited b books (Append it) asked h = record {
  tables = h.tables;
  counted = h.counted;
  lots = h.lots;
  arrivals = all_one_more _ _ _ books.consignments it h.arrivals asked.0;
  parcels = all_one_more _ _ _ books.consignments it h.parcels asked.1;
}
linked_edited b books (Update test f) asked h = record {
  tables = h.tables;
  counted = h.counted;
  lots = h.lots;
  arrivals =
      rw (set_same (λ (it : Consignment). it.addressee == b) test f (λ (it : Consignment). map (λ (line : Line). line.film) it.lines) books.consignments
      (λ it. ap (λ a. a == b) (asked it).1) (λ it. (asked it).2))
      h.arrivals;
  parcels =
      rw (set_same (λ (it : Consignment). it.source == b) test f as_parcel books.consignments
      (λ it. ap (λ a. a == b) (asked it).0) (λ it i. record { addressee = (asked it).1 i; films = (asked it).2 i }))
      h.parcels;
}

-- ---- a command

pub linked_done : (rules : Rules) (b : ℕ) (command : Command) (books : Books) → HasNumbers books → IsLinkedShop b books.catalogue (shop_of b books)
    → list_any (λ (it : Kept). bytes_eq it.command.key command.key) (shop_of b books).kept ≡ false
    → AskedOfEach b (IsLinkedEdit b) (edits_of rules b command command.act books) books
    → IsLinkedShop b books.catalogue (shop_of b (book_done rules b command books))
linked_done rules b command books has h fresh asked =
    let after = book_acted rules b command command.act books in
    let same = catalogue_stays rules b command command.act books in
    let k : Kept = record { command = command; reply = reply_text rules command (shop_of b books) } in
    let all = each_keeps (AreBooksLinked b) (IsLinkedEdit b) b (linked_edited b) (edits_of rules b command command.act books) books asked (record {
      tables = tables_linked;
      counted = has.rows;
      lots = h.lots;
      arrivals = arrivals_films (has_row books.catalogue.films) (filter (λ (it : Consignment). it.addressee == b) books.consignments) ∙ h.arrival_films;
      parcels = h.parcels;
    }) in
    subst (λ (catalogue : Catalogue). IsLinkedShop b catalogue (shop_of b (book_done rules b command books))) same (record {
      customer_cities = all.tables Customers;
      copy_films = list_all-map (λ (it : Copy). has_row after.catalogue.films it.film) unmarked (of b after.copies) ∙ all.tables CopyRows;
      rental_copies = all_same _ _ (of b after.rentals) (λ (it : Rental). has_mapped unmarked it.copy (of b after.copies)) ∙ (all.tables Rentals).0;
      rental_customers = (all.tables Rentals).1;
      rental_staff = (all.tables Rentals).2;
      payment_customers = (all.tables Payments).0;
      payment_staff = (all.tables Payments).1;
      payment_rentals = (all.tables Payments).2;
      arrival_films = sym (arrivals_films (has_row after.catalogue.films) (filter (λ (it : Consignment). it.addressee == b) after.consignments)) ∙ all.arrivals;
      parcels = all.parcels;
      lots = all.lots;
      keys =
          rw (more_yes (λ (row : Owned Kept). row.it) (λ row. row.owner == b) books.kept (record { owner = b; it = k }) (same_test b))
          (different_more (λ (earlier later : Kept). bytes_eq earlier.command.key later.command.key) (shop_of b books).kept k h.keys fresh);
    }) where
      tables_linked : (t : Table) → AreLinked b books t (of b (rows_of books t))
      tables_linked Customers = h.customer_cities
      tables_linked CopyRows = sym (list_all-map (λ (it : Copy). has_row books.catalogue.films it.film) unmarked (of b books.copies)) ∙ h.copy_films
      tables_linked Rentals = (
        sym (all_same _ _ (of b books.rentals) (λ (it : Rental). has_mapped unmarked it.copy (of b books.copies))) ∙ h.rental_copies,
        h.rental_customers,
        h.rental_staff,
      )
      tables_linked Payments = (h.payment_customers, h.payment_staff, h.payment_rentals)
      tables_linked t = tt

      arrivals_films : (p : ℕ → Bool) (cs : List Consignment)
          → list_all (list_all p) (map (λ (it : Consignment). map (λ (line : Line). line.film) it.lines) cs)
          ≡ list_all (λ (it : Arrival). list_all p it.films) (map as_arrival cs)
      arrivals_films p [] = refl
      arrivals_films p (c ∷ cs) = ap (λ r. list_all p (map (λ (line : Line). line.film) c.lines) && r) (arrivals_films p cs)

-- ---- what comes from another branch

-- the films of any copies
pub outgoing_films : (catalogue : Catalogue) (xs : List ℕ) (copies : List Copy)
    → list_all (λ (it : Copy). has_row catalogue.films it.film) copies ≡ true → list_all (has_row catalogue.films) (films_at xs copies) ≡ true
outgoing_films catalogue [] copies all = refl
outgoing_films catalogue (x ∷ xs) copies all =
    all_append (has_row catalogue.films) (map (λ (it : Copy). it.film) (at x copies)) (films_at xs copies)
    (all_mapped (has_row catalogue.films) (λ (it : Copy). has_row catalogue.films it.film) (λ (it : Copy). it.film)
    (at x copies) (λ it h. h) (all_at (λ (it : Copy). has_row catalogue.films it.film) x copies all))
    (outgoing_films catalogue xs copies all)

-- terms aren't read, and of arrivals the films
pub linked_same : (b : ℕ) (catalogue : Catalogue) (shop : Shop) (arrivals : List Arrival) (terms : List Terms) → IsLinkedShop b catalogue shop
    → list_all (λ (it : Arrival). list_all (has_row catalogue.films) it.films) arrivals ≡ true
    → IsLinkedShop b catalogue (record shop { arrivals = arrivals; terms = terms })
linked_same b catalogue shop arrivals terms h films = record {
  customer_cities = h.customer_cities;
  copy_films = h.copy_films;
  rental_copies = h.rental_copies;
  rental_customers = h.rental_customers;
  rental_staff = h.rental_staff;
  payment_customers = h.payment_customers;
  payment_staff = h.payment_staff;
  payment_rentals = h.payment_rentals;
  arrival_films = films;
  parcels = h.parcels;
  lots = h.lots;
  keys = h.keys;
}

pub linked_other : (b c : ℕ) (act : Act) (books : Books) → IsLinkedShop b books.catalogue (shop_of b books)
    → IsLinkedShop c books.catalogue (shop_of c books) → IsLinkedShop b books.catalogue (with_arrivals b c act books)
linked_other b c act books h from =
    arrived_or_same (IsLinkedShop b books.catalogue) b c act books (λ xs. linked_same b books.catalogue (shop_of b books) _ _ h
    (all_more (λ (it : Arrival). list_all (has_row books.catalogue.films) it.films) (shop_of b books).arrivals _ h.arrival_films
    (outgoing_films books.catalogue xs (shop_of c books).copies from.copy_films)))
    h

-- ---- when the catalogue has grown, and when there is nothing

pub linked_grows : (b : ℕ) (old new : Catalogue) (shop : Shop) → Grows old new → IsLinkedShop b old shop → IsLinkedShop b new shop
linked_grows b old new shop g h = record {
  customer_cities =
      all_weaker (λ (x : Customer). has_row old.cities x.person.city) _ shop.customers (λ (x : Customer) is. g.cities x.person.city is) h.customer_cities;
  copy_films = all_weaker (λ (x : Copy). has_row old.films x.film) _ shop.copies (λ (x : Copy) is. g.films x.film is) h.copy_films;
  rental_copies = h.rental_copies;
  rental_customers = h.rental_customers;
  rental_staff = all_weaker (λ (x : Rental). is_staff_of b old.staff x.staff) _ shop.rentals (λ (x : Rental) is. g.staff b x.staff is) h.rental_staff;
  payment_customers = h.payment_customers;
  payment_staff = all_weaker (λ (x : Payment). is_staff_of b old.staff x.staff) _ shop.payments (λ (x : Payment) is. g.staff b x.staff is) h.payment_staff;
  payment_rentals = h.payment_rentals;
  arrival_films =
      all_weaker (λ (x : Arrival). list_all (has_row old.films) x.films) _ shop.arrivals
      (λ (x : Arrival) is. all_weaker (has_row old.films) (has_row new.films) x.films g.films is) h.arrival_films;
  parcels = h.parcels;
  lots = h.lots;
  keys = h.keys;
}

pub linked_opening : (b : ℕ) (catalogue : Catalogue) → IsLinkedShop b catalogue (shop_of b (opening catalogue))
linked_opening b catalogue = record {
  customer_cities = refl;
  copy_films = refl;
  rental_copies = refl;
  rental_customers = refl;
  rental_staff = refl;
  payment_customers = refl;
  payment_staff = refl;
  payment_rentals = refl;
  arrival_films = refl;
  parcels = refl;
  lots = refl;
  keys = refl;
}
