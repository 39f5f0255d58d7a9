-- What the laws ask of each act, shown of each once: it is known when it comes again, a branch's machine and the books agree on it, and its edits are allowed.
use Rattle.shop_model.proofs.Common.{◌≡◌, set_all, set_at, set_row, set_rows, set_row, ℕ, List, [], ◌∷◌, ◌++◌, filter, Bool, true, false, None, Some, refl, ap}
use Rattle.shop_model.proofs.Common.{◌∙◌, ◌==◌, bytes_eq, bytes_eq-Decides, Owned, Moment, same_moment, Text, Person, Act, AddCustomer, SetActive, Rent}
use Rattle.shop_model.proofs.Common.{TakeBack, Pay, Import, Dispatch, Receive, Scrap, Command, Rules, Kept, same_option, same_flag, same_person, same_act}
use Rattle.shop_model.proofs.Common.{same_command, first, reply_text, Books, shop_of, book_done, ◌+◌, map, length, not, sym, subst, arith, length-append, ◌||◌}
use Rattle.shop_model.proofs.Common.{nat_lt, nat_le, option_to_list, list_any, list_all, and_parts, or_parts, nat_tests, of, at, lacks, is_empty, arrived}
use Rattle.shop_model.proofs.Common.{has_double, Copy, Rental, Payment, Arrival, Stock, Copies, BadLine, Shop, Catalogue, act_refusals, import_refusals}
use Rattle.shop_model.proofs.Common.{arrival, films_in, films_at, incoming, Line, Edit, edits_of, unmarked, imported, unpacked, come, has_row, is_staff_of}
use Rattle.shop_model.proofs.Common.{pays_for, is_parcel, IsLinkedShop, HasNumbers, CopyRows, inl, inr, ◌-◌, append_assoc, append-nil, cases_Bool, Row, put_all}
use Rattle.shop_model.proofs.Common.{Terms, Sent, Scrapped, terms_now, acted, done, here, with_state, Consignment, Customers, Rentals, as_arrival, as_parcel}
use Rattle.shop_model.proofs.Common.{book_acted, is_consignment, put_state, checked, new_consignment}
use Rattle.std.specs.Prelude.{Option, Some, None}
use Rattle.shop_model.proofs.RowLemmas.{same_test, more_yes, length_map, same_if, more_no, set_numbered_among, set_same, map_map, put_own, put_all_own, set_own}
use Rattle.shop_model.proofs.RowLemmas.{set_rows_own, map_set_at, map_set_all}
use Rattle.shop_model.proofs.Accepted.{NoneHold}
use Rattle.std.proofs.lemmas.List.Folds.{list_all-map}
use Rattle.shop_model.proofs.ShopLemmas.{checked_arrival, checked_parcel, films_sent, incoming_come, checked_films, last_own}
use Rattle.shop_model.proofs.EditLemmas.{AskedOfEach, new_its}
use Rattle.shop_model.proofs.GoodShops.{IsGoodEdit}
use Rattle.shop_model.proofs.Origins.{all_filter}
use Rattle.shop_model.proofs.LinkLemmas.{all_at, one_at, all_joined, none_lacks, all_arrived, some_passes, is_there}
use Rattle.shop_model.proofs.LinkedShops.{IsLinkedEdit, has_mapped, outgoing_films}
use Rattle.shop_model.specs.Rows.{put}
use Rattle.shop_model.specs.Values.{new_customer}

-- ---- known when it comes again

pub bytes_same : (x : Text) → bytes_eq x x ≡ true
bytes_same x = (bytes_eq-Decides x x).1 refl

pub option_same : (o : Option ℕ) → same_option o o ≡ true
option_same None = refl
option_same (Some n) = same_test n

pub flag_same : (a : Bool) → same_flag a a ≡ true
flag_same true = refl
flag_same false = refl

pub person_same : (p : Person) → same_person p p ≡ true
person_same p = rw (bytes_same p.first, bytes_same p.last, bytes_same p.address, bytes_same p.postal, bytes_same p.phone, same_test p.city)

act_same : (a : Act) → same_act a a ≡ true
act_same (AddCustomer n) = person_same n.person
act_same (SetActive c active) = rw (same_test c, flag_same active)
act_same (Rent c x) = simp same_test
act_same (TakeBack r) = same_test r
act_same (Pay c r amount) = rw (same_test c, option_same r, same_test amount)
act_same (Import lot file) = simp bytes_same
act_same (Dispatch a xs) = rw (same_test a, bytes_same xs)
act_same (Receive s n missing) = simp (same_test, bytes_same)
act_same (Scrap x) = same_test x

pub moment_same : (m : Moment) → same_moment m m ≡ true
moment_same m = rw (same_test m.year, same_test m.month, same_test m.day, same_test m.hour, same_test m.minute, same_test m.second)

pub command_same : (c : Command) → same_command c c ≡ true
command_same c = rw (bytes_same c.key, same_test c.staff, moment_same c.moment, act_same c.act)

-- ---- what it does to the shop of its own branch

put_terms_own : (b : ℕ) (more : List Terms) (rows : List (Row Terms)) → of b (put_all b (map (λ it _. it) more) rows) ≡ of b rows ++ more
put_terms_own b [] rows = sym (append-nil (of b rows))
put_terms_own b (it ∷ more) rows =
    put_terms_own b more (put b (λ _. it) rows) ∙ rw (put_own b (λ _. it) rows) (append_assoc (of b rows) (it ∷ []) more)

-- with all but the kept rows and the last moment
pub acted_own : (rules : Rules) (b : ℕ) (command : Command) (act : Act) (books : Books) → HasNumbers books
    → ((xs : List ℕ) → act ≡ Dispatch b xs → ⊥)
    → shop_of b (book_acted rules b command act books) ≡ acted rules books.catalogue command act (shop_of b books)
acted_own rules b command (AddCustomer it) books has away =
    λ i. record (shop_of b books) { customers = put_own b (λ _. new_customer command.moment it) books.customers i }
acted_own rules b command (SetActive c active) books has away =
    λ i. record (shop_of b books) { customers = set_own b c (λ it. record it { active = active }) books.customers (has.rows Customers b) i }
acted_own rules b command (Rent c x) books has away =
    let put = put_own b (λ _. record { rented = command.moment; copy = x; customer = c; returned = None; staff = command.staff }) books.rentals in
    let terms = put_terms_own b (terms_now books.catalogue (shop_of b books) x) books.terms in
    λ i. record (shop_of b books) { rentals = put i; terms = terms i }
acted_own rules b command (TakeBack r) books has away =
    λ i. record (shop_of b books) { rentals = set_own b r (λ it. record it { returned = Some command.moment }) books.rentals (has.rows Rentals b) i }
acted_own rules b command (Pay c rental amount) books has away =
    let put = put_own b (λ _. record { customer = c; staff = command.staff; rental = rental; amount = amount; paid = command.moment }) books.payments in
    λ i. record (shop_of b books) { payments = put i }
acted_own rules b command (Import lot file) books has away =
    let copies = put_all_own unmarked (imported b) here b (films_in (rules.stock_of file)) books.copies (λ c n. refl) in
    let lots = more_yes (λ (row : Owned Text). row.it) (λ row. row.owner == b) books.lots (record { owner = b; it = lot }) (same_test b) in
    λ i. record (shop_of b books) { copies = copies i; lots = lots i }
acted_own rules b command (Dispatch to xs) books has away = elim (cases_Bool (to == b)) [
  | inl is ↦ absurd (away xs (rw (same_if to b is)))
  | inr isnt ↦
      let copies : map unmarked (of b (set_rows b xs (put_state Sent) books.copies)) ≡ set_all xs (with_state Sent) (shop_of b books).copies =
      rw (set_rows_own b xs (put_state Sent) books.copies (has.rows CopyRows b))
      (map_set_all unmarked (put_state Sent) (with_state Sent) xs (of b books.copies) (λ x. refl)) in
      let arrivals = more_no as_arrival (λ (it : Consignment). it.addressee == b) books.consignments (new_consignment b to xs books) isnt in
      let sent = more_yes as_parcel (λ (it : Consignment). it.source == b) books.consignments (new_consignment b to xs books) (same_test b)
      ∙ ap (λ fs. map as_parcel (filter (λ it. it.source == b) books.consignments) ++ record { addressee = to; films = fs } ∷ [])
      (films_sent b xs books.copies (has.rows CopyRows b)) in
      λ i. record (shop_of b books) { copies = copies i; arrivals = arrivals i; sent = sent i }
]
acted_own rules b command (Receive source number missing) books has away =
    let now = acted rules books.catalogue command (Receive source number missing) (shop_of b books) in
    let counted = has.consignments source b in
    let back : number + 1 - 1 ≡ number = omega arith in
    let films = incoming_come b source number missing books counted in
    let copies = put_all_own unmarked unpacked (λ line. here line.film) b (come source b number missing books.consignments) books.copies (λ c n. refl)
    ∙ ap (λ cs. map unmarked (of b books.copies) ++ cs)
    (sym (map_map here (λ (line : Line). line.film) (come source b number missing books.consignments)) ∙ ap (map here) films) in
    let arrivals : (shop_of b (book_acted rules b command (Receive source number missing) books)).arrivals ≡ now.arrivals =
    set_numbered_among (λ (it : Consignment). it.addressee == b) (λ it. it.source == source) (is_consignment source b number)
    (λ it. it.source == source) (λ it. it.number) (checked missing) as_arrival (λ it. record it { received = true }) number 1 books.consignments
    (λ x. refl) (λ x. refl) (λ x. refl) (checked_arrival missing) counted ∙ rw back in
    let sent =
    set_same (λ (it : Consignment). it.source == b) (is_consignment source b number)
    (checked missing) as_parcel books.consignments (λ x. refl) (checked_parcel missing) in
    λ i. record (shop_of b books) { copies = copies i; arrivals = arrivals i; sent = sent i }
acted_own rules b command (Scrap x) books has away =
    let copies : map unmarked (of b (set_row b x (put_state Scrapped) books.copies)) ≡ set_at x (with_state Scrapped) (shop_of b books).copies =
    rw (set_own b x (put_state Scrapped) books.copies (has.rows CopyRows b))
    (map_set_at unmarked (put_state Scrapped) (with_state Scrapped) x (of b books.copies) (λ x. refl)) in
    λ i. record (shop_of b books) { copies = copies i }

kept_own : (rules : Rules) (b : ℕ) (command : Command) (books : Books) → (t : Shop) → shop_of b (book_acted rules b command command.act books) ≡ t
    → shop_of b (book_done rules b command books)
    ≡ record t {
      kept = (shop_of b books).kept ++ record { command = command; reply = reply_text rules command (shop_of b books) } ∷ [];
      last = Some command.moment;
    }
kept_own rules b command books t e =
    let kept =
    more_yes (λ (row : Owned Kept). row.it) (λ row. row.owner == b) books.kept
    (record { owner = b; it = record { command = command; reply = reply_text rules command (shop_of b books) } }) (same_test b) in
    let last = last_own b command.moment books.lasts in
    λ i. record (e i) { kept = kept i; last = last i }

pub done_own : (rules : Rules) (b : ℕ) (command : Command) (books : Books) → HasNumbers books → ((xs : List ℕ) → command.act ≡ Dispatch b xs → ⊥)
    → shop_of b (book_done rules b command books) ≡ done rules books.catalogue command (shop_of b books)
done_own rules b command books has away =
    kept_own rules b command books (acted rules books.catalogue command command.act (shop_of b books)) (acted_own rules b command command.act books has away)

-- ---- what its edits are asked

-- what keeps a shop good, and what keeps that its rows name rows that are there
pub record IsAllowed (b : ℕ) (moment : Moment) (books : Books) (edit : Edit) : Type 0 where
  pub good : IsGoodEdit b moment books edit
  pub linked : IsLinkedEdit b books edit

-- ---- payments and rentals

pays_new : (rentals : List Rental) (payment : Payment) → list_any (lacks rentals) (option_to_list payment.rental) ≡ false
    → list_any (λ r. list_any (λ (it : Rental). not (it.customer == payment.customer)) (at r rentals)) (option_to_list payment.rental) ≡ false
    → pays_for rentals payment ≡ true
pays_new rentals payment there same = by_list (option_to_list payment.rental) there same where
  by_list : (rs : List ℕ) → list_any (lacks rentals) rs ≡ false
      → list_any (λ r. list_any (λ (it : Rental). not (it.customer == payment.customer)) (at r rentals)) rs ≡ false
      → list_all (λ r. list_any (λ (it : Rental). it.customer == payment.customer) (at r rentals)) rs ≡ true
  by_list [] e f = refl
  by_list (r ∷ rs) e f =
      let a = or_parts (lacks rentals r) (list_any (lacks rentals) rs) e in
      let c = or_parts (list_any (λ (it : Rental). not (it.customer == payment.customer)) (at r rentals)) _ f in
      rw (some_passes (λ (it : Rental). it.customer == payment.customer) (at r rentals) a.0 c.0) (by_list rs a.1 c.1)

-- ---- films that come and go

stock_films : (catalogue : Catalogue) (shop : Shop) (lot : Text) (stock : Stock)
    → NoneHold (import_refusals catalogue shop lot stock) → list_all (has_row catalogue.films) (films_in stock) ≡ true
stock_films catalogue shop lot (Copies films) none = none_lacks catalogue.films films none.1.0
stock_films catalogue shop lot (BadLine line) none = refl

lot_new : (catalogue : Catalogue) (shop : Shop) (lot : Text) (stock : Stock)
    → NoneHold (import_refusals catalogue shop lot stock) → list_any (bytes_eq lot) shop.lots ≡ false
lot_new catalogue shop lot (Copies films) none = none.1.1.0
lot_new catalogue shop lot (BadLine line) none = none.0

incoming_films : (catalogue : Catalogue) (missing : List ℕ) (arrivals : List Arrival)
    → list_all (λ (it : Arrival). list_all (has_row catalogue.films) it.films) arrivals ≡ true
    → list_all (has_row catalogue.films) (incoming missing arrivals) ≡ true
incoming_films catalogue missing arrivals all =
    all_joined (has_row catalogue.films) (λ (it : Arrival). list_all (has_row catalogue.films) it.films)
    (λ (it : Arrival). arrived missing it.films) arrivals (λ (it : Arrival) h. all_arrived (has_row catalogue.films) missing 1 it.films h) all

outgoing_length : (xs : List ℕ) (copies : List Copy) → list_any (lacks copies) xs ≡ false → length (films_at xs copies) ≡ length xs
outgoing_length [] copies there = refl
outgoing_length (x ∷ xs) copies there =
    let h = or_parts (lacks copies x) (list_any (lacks copies) xs) there in
    let one = length_map (λ (it : Copy). it.film) (at x copies) ∙ one_at x copies h.0 in
    let more = outgoing_length xs copies h.1 in
    let l = length-append (map (λ (it : Copy). it.film) (at x copies)) (films_at xs copies) in
    omega (arith, one, more, l)

parcel_fits : (to : ℕ) (xs : List ℕ) (copies : List Copy) → list_any (lacks copies) xs ≡ false
    → (is_empty xs || nat_lt 100 (length xs) || has_double xs) ≡ false
    → is_parcel (record { addressee = to; films = films_at xs copies }) ≡ true
parcel_fits to xs copies there fits =
    let n = outgoing_length xs copies there in
    let h = or_parts (is_empty xs || nat_lt 100 (length xs)) (has_double xs) fits in
    let g = or_parts (is_empty xs) (nat_lt 100 (length xs)) h.0 in
    let some : nat_lt 0 (length xs) ≡ true = not_none xs g.0 in
    let few : nat_le (length xs) 100 ≡ true = grind (arith, nat_tests, g.1) in
    rw (n, some, few) where
      not_none : (ns : List ℕ) → is_empty ns ≡ false → nat_lt 0 (length ns) ≡ true
      not_none [] e = sym e
      not_none (m ∷ ns) e = grind (arith, nat_tests)

-- ---- new rows

all_new : {A B : Type 0} (p : A → Bool) (q : B → Bool) (make : B → ℕ → A) (cs : List B)
    → ((c : B) (n : ℕ) → p (make c n) ≡ q c) → list_all q cs ≡ true → (n : ℕ) → list_all p (new_its n (map make cs)) ≡ true
all_new p q make [] shows all n = refl
all_new p q make (c ∷ cs) shows all n = let h = and_parts (q c) (list_all q cs) all in rw (shows c n, h.0) (all_new p q make cs shows h.1 (n + 1))

pub edits_allowed : (rules : Rules) (b : ℕ) (command : Command) (act : Act) (books : Books) → HasNumbers books
    → IsLinkedShop b books.catalogue (shop_of b books) → is_staff_of b books.catalogue.staff command.staff ≡ true
    → NoneHold (act_refusals rules b books.catalogue (shop_of b books) command.moment act)
    → AskedOfEach b (IsAllowed b command.moment) (edits_of rules b command act books) books
edits_allowed rules b command (AddCustomer it) books has linked works none =
    (record { good = λ n. (refl, tt); linked = λ n. rw (is_there books.catalogue.cities it.person.city none.0) }, tt)
edits_allowed rules b command (SetActive c active) books has linked works none = (record { good = λ it. refl; linked = λ it there. there }, tt)
edits_allowed rules b command (Rent c x) books has linked works none = (
  record {
    good = λ n. ((refl, refl, none.1.1.1.1.1.1.0), tt);
    linked = λ n. (
      rw (sym (has_mapped unmarked x (of b books.copies)) ∙ is_there (shop_of b books).copies x none.1.1.0),
      rw (is_there (of b books.customers) c none.0),
      rw works,
    );
  },
  (record { good = tt; linked = λ n. tt }, tt),
)
edits_allowed rules b command (TakeBack r) books has linked works none =
    (record { good = (λ it. (refl, refl, refl), λ it. refl); linked = λ it. (refl, refl, refl) }, tt)
edits_allowed rules b command (Pay c rental amount) books has linked works none = (
  record {
    good = λ n. (refl, tt);
    linked = λ n. (
      rw (is_there (of b books.customers) c none.0),
      rw works,
      rw (pays_new (of b books.rentals)
          (record { customer = c; staff = command.staff; rental = rental; amount = amount; paid = command.moment }) none.1.0 none.1.1.0),
    );
  },
  tt,
)
edits_allowed rules b command (Import lot file) books has linked works none =
    let stock = rules.stock_of file in
    let films = stock_films books.catalogue (shop_of b books) lot stock none in (
      record { good = tt; linked = all_new _ (has_row books.catalogue.films) (imported b) (films_in stock) (λ c n. refl) films },
      (record { good = tt; linked = lot_new books.catalogue (shop_of b books) lot stock none }, tt),
    )
edits_allowed rules b command (Dispatch to xs) books has linked works none =
    let sent = films_sent b xs books.copies (has.rows CopyRows b) in (
      record { good = tt; linked = λ it. refl },
      (
        record {
          good = tt;
          linked = (
            rw sent (outgoing_films books.catalogue xs (shop_of b books).copies linked.copy_films),
            subst (λ (fs : List ℕ). is_parcel (record { addressee = to; films = fs }) ≡ true)
                (sym sent) (parcel_fits to xs (shop_of b books).copies none.0 none.1.1.1.1.1.0),
          );
        },
        tt,
      ),
    )
edits_allowed rules b command (Receive source number missing) books has linked works none =
    let films =
    rw (sym (incoming_come b source number missing books (has.consignments source b))) at
    (incoming_films books.catalogue missing (arrival source number (shop_of b books))
    (all_at (λ (it : Arrival). list_all (has_row books.catalogue.films) it.films) number _
    (all_filter (λ (it : Arrival). list_all (has_row books.catalogue.films) it.films)
    (λ (it : Arrival). it.source == source) (shop_of b books).arrivals linked.arrival_films)))
    in (
      record {
        good = tt;
        linked =
            all_new _ (λ (line : Line). has_row books.catalogue.films line.film) unpacked (come source b number missing books.consignments) (λ c n. refl)
            (sym (list_all-map (has_row books.catalogue.films) (λ (line : Line). line.film) (come source b number missing books.consignments)) ∙ films);
      },
      (record { good = tt; linked = λ it. (refl, refl, checked_films missing 1 it.lines) }, tt),
    )
edits_allowed rules b command (Scrap x) books has linked works none = (record { good = tt; linked = λ it. refl }, tt)
