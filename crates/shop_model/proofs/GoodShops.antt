-- Each step keeps what holds of each branch's shop.
use Rattle.shop_model.proofs.Common.{◌≡◌, inl, inr, ℕ, ◌+◌, ◌-◌, ◌≤◌, ◌<◌, List, [], ◌∷◌, ◌++◌, suc, length, map, filter, Bool, true, false, not, None, Some}
use Rattle.shop_model.proofs.Common.{refl, sym, subst, ap, ◌∙◌, arith, length-append, ⊤, ◌==◌, ◌&&◌, nat_le, nat_lt, list_any, list_all, cases_Bool, or_parts}
use Rattle.shop_model.proofs.Common.{and_parts, true≢false, nat_tests, map_push, Row, Owned, of, next, put_all, set_at, set_all, arrived, total, Moment, is_by}
use Rattle.shop_model.proofs.Common.{same_moment, Customer, Rental, Payment, Arrival, Stock, Copies, BadLine, Act, AddCustomer, Import, Receive, Command, Rules}
use Rattle.shop_model.proofs.Common.{Kept, act_refusals, is_full, is_before, new_copies, new_from, new_in, are_lines, arrival, here, films_in, incoming}
use Rattle.shop_model.proofs.Common.{reply_text, Books, Line, Consignment, Table, Customers, CopyRows, Rentals, TermRows, Payments, RowOf, rows_of, Edit, Put}
use Rattle.shop_model.proofs.Common.{Set, edited, edits_of, book_acted, book_done, shop_of, unmarked, as_parcel, imported, unpacked, come, HasNumbers}
use Rattle.shop_model.proofs.Common.{same_rental, are_apart, is_within, returned_by, rental_by, rises, IsGoodShop, AreRowsNumbered}
use Rattle.std.specs.Prelude.{Option}
use Rattle.std.proofs.lemmas.List.Folds.{list_all-append, list_all-map}
use Rattle.shop_model.specs.Rows.{put}
use Rattle.shop_model.proofs.RowLemmas.{same_test, more_yes, length_map, put_own, put_all_counted, set_rows_own, set_rows_counted, turned}
use Rattle.shop_model.proofs.EditLemmas.{by_table, AskedOfEach, each_keeps, grown, new_lots, new_sends, rows_edited, lots_edited}
use Rattle.shop_model.proofs.ShopLemmas.{incoming_come, last_own}
use Rattle.shop_model.proofs.NumberLemmas.{sends_numbered, sends_edited}
use Rattle.shop_model.proofs.Accepted.{NoneHold}
use Rattle.shop_model.proofs.LinkLemmas.{all_set, any_same, different_more, different_set}

-- ---- lists

pub all_more : {A : Type 0} (p : A → Bool) (xs : List A) (x : A) → list_all p xs ≡ true → p x ≡ true → list_all p (xs ++ x ∷ []) ≡ true
all_more p xs x all is = rw (list_all-append p xs (x ∷ []), all, is)

pub all_weaker : {A : Type 0} (p q : A → Bool) (xs : List A) → ((x : A) → p x ≡ true → q x ≡ true) → list_all p xs ≡ true → list_all q xs ≡ true
all_weaker p q [] weaker all = refl
all_weaker p q (x ∷ xs) weaker all = let h = and_parts (p x) (list_all p xs) all in rw (weaker x h.0) (all_weaker p q xs weaker h.1)

pub length_set : {A : Type 0} (n : ℕ) (f : A → A) (xs : List A) → length (set_at n f xs) ≡ length xs
length_set n f [] = refl
length_set n f (x ∷ xs) = elim (cases_Bool (n == 1)) [ inl is ↦ rw is | inr isnt ↦ rw isnt (ap (λ r. suc r) (length_set (n - 1) f xs)) ]

length_set_all : {A : Type 0} (ns : List ℕ) (f : A → A) (xs : List A) → length (set_all ns f xs) ≡ length xs
length_set_all [] f xs = refl
length_set_all (n ∷ ns) f xs = length_set_all ns f (set_at n f xs) ∙ length_set n f xs

map_set_same : {A B : Type 0} (g : A → B) (n : ℕ) (f : A → A) (xs : List A) → ((x : A) → g (f x) ≡ g x) → map g (set_at n f xs) ≡ map g xs
map_set_same g n f [] same = refl
map_set_same g n f (x ∷ xs) same =
    elim (cases_Bool (n == 1)) [ inl is ↦ rw (is, same x) | inr isnt ↦ rw isnt (ap (λ r. g x ∷ r) (map_set_same g (n - 1) f xs same)) ]

-- ---- moments

moves_on : (last : Option Moment) (moment m : Moment) → is_before moment last ≡ false → is_within last m ≡ true → is_by m moment ≡ true
moves_on None moment m on by = absurd (true≢false (sym by))
moves_on (Some last) moment m on by = grind (arith, nat_tests)

self_by : (moment : Moment) → is_by moment moment ≡ true
self_by moment = grind (arith, nat_tests)

still_returned : (last : Option Moment) (moment rented : Moment) (returned : Option Moment) → is_before moment last ≡ false
    → returned_by last rented returned ≡ true → returned_by (Some moment) rented returned ≡ true
still_returned last moment rented None on by = refl
still_returned last moment rented (Some returned) on by =
    let h = and_parts (is_by rented returned) (is_within last returned) by in rw (h.0, moves_on last moment returned on h.1)

still_by : (last : Option Moment) (moment : Moment) → is_before moment last ≡ false → (r : Rental) → rental_by last r ≡ true → rental_by (Some moment) r ≡ true
still_by last moment on r by =
    let h = and_parts (is_within last r.rented) (returned_by last r.rented r.returned) by in
    rw (moves_on last moment r.rented on h.0) (still_returned last moment r.rented r.returned on h.1)

rises_more : (ms : List Moment) (m : Moment) → rises ms ≡ true → list_all (λ n. is_by n m) ms ≡ true → rises (ms ++ m ∷ []) ≡ true
rises_more [] m rise below = refl
rises_more (n ∷ ms) m rise below =
    let h = and_parts (list_all (λ k. is_by n k) ms) (rises ms) rise in
    let b = and_parts (is_by n m) (list_all (λ k. is_by k m) ms) below in
    rw (all_more (λ k. is_by n k) ms m h.0 b.0) (rises_more ms m h.1 b.1)

-- ---- rentals that are apart

apart_more : (rs : List Rental) (r : Rental) → are_apart rs ≡ true
    → list_any (λ (it : Rental). same_moment it.rented r.rented && it.copy == r.copy && it.customer == r.customer) rs ≡ false → are_apart (rs ++ r ∷ []) ≡ true
apart_more rs r is none =
    different_more same_rental rs r is (any_same _ _ rs (λ s. same_turned r.rented s.rented r.copy s.copy r.customer s.customer) ∙ none) where
      moment_turned : (a b : Moment) → same_moment a b ≡ same_moment b a
      moment_turned a b =
          rw (turned a.year b.year, turned a.month b.month, turned a.day b.day, turned a.hour b.hour, turned a.minute b.minute, turned a.second b.second)

      same_turned : (a b : Moment) (c d e f : ℕ) → (same_moment a b && c == d && e == f) ≡ (same_moment b a && d == c && f == e)
      same_turned a b c d e f = rw (moment_turned a b, turned c d, turned e f)

-- what a change leaves of a rental, so that rentals stay apart
abbrev pub KeepsRented : (Rental → Rental) → Type 0
KeepsRented f = (it : Rental) → ((f it).rented ≡ it.rented) × ((f it).copy ≡ it.copy) × ((f it).customer ≡ it.customer)

apart_set : (n : ℕ) (f : Rental → Rental) (rs : List Rental) → KeepsRented f → are_apart (set_at n f rs) ≡ are_apart rs
apart_set n f rs keeps =
    different_set same_rental n f rs (λ r s. rw ((keeps s).0, (keeps s).1, (keeps s).2)) (λ r s. rw ((keeps r).0, (keeps r).1, (keeps r).2))

-- ---- sizes

room : (new have limit most : ℕ) → (nat_lt 0 new && nat_lt limit (have + new)) ≡ false → limit ≤ most → have ≤ most → have + new ≤ most
room new have limit most fits below le = elim (cases_Bool (nat_lt 0 new)) [
  | inl some ↦ let h : nat_lt limit (have + new) ≡ false = rw some at fits in grind (arith, nat_tests, h, below)
  | inr none ↦ let z : new ≡ 0 = grind (arith, nat_tests, none) in omega (arith, z, le)
]

films_new : (stock : Stock) → length (map here (films_in stock)) ≡ new_in stock
films_new (Copies films) = length_map here films
films_new (BadLine line) = refl

incoming_new : (missing : List ℕ) (arrivals : List Arrival) → list_any (λ (it : Arrival). it.received) arrivals ≡ false
    → list_any (λ (it : Arrival). not (are_lines 0 (length it.films) missing)) arrivals ≡ false
    → length (incoming missing arrivals) ≡ total (new_from missing) arrivals
incoming_new missing [] opens fit = refl
incoming_new missing (a ∷ arrivals) opens fit =
    let o = or_parts a.received _ opens in
    let f = or_parts (not (are_lines 0 (length a.films) missing)) _ fit in
    let more = incoming_new missing arrivals o.1 f.1 in
    let l = length-append (arrived missing a.films) (incoming missing arrivals) in
    rw (o.0, f.0) (omega (arith, more, l))

pub key_room : (limit have : ℕ) {more : ℕ} → nat_le limit have ≡ false → more ≡ have + 1 → more ≤ limit
key_room limit have fits e = let lt : have < limit = grind (arith, nat_tests, fits) in omega (arith, e, lt)

-- ---- a branch's tables, each by itself

abbrev AreGood : Option Moment → (t : Table) → List (RowOf t) → Type 0
AreGood last Customers its = list_all (λ (c : Customer). is_within last c.created) its ≡ true
AreGood last Rentals its = (are_apart its ≡ true) × (list_all (rental_by last) its ≡ true) × (rises (map (λ (r : Rental). r.rented) its) ≡ true)
AreGood last Payments its = (list_all (λ (p : Payment). is_within last p.paid) its ≡ true) × (rises (map (λ (p : Payment). p.paid) its) ≡ true)
AreGood last t its = ⊤

-- as the last moment moves on
good_later : (sizes : Rules) (b : ℕ) (moment : Moment) (books : Books) → IsGoodShop sizes (shop_of b books)
    → is_before moment (shop_of b books).last ≡ false → (t : Table) → AreGood (Some moment) t (of b (rows_of books t))
good_later sizes b moment books good on Customers =
    all_weaker _ _ (of b books.customers) (λ (c : Customer) by. moves_on (shop_of b books).last moment c.created on by) good.created
good_later sizes b moment books good on Rentals =
    (good.apart, all_weaker _ _ (of b books.rentals) (still_by (shop_of b books).last moment on) good.rented, good.rentals_rise)
good_later sizes b moment books good on Payments =
    (all_weaker _ _ (of b books.payments) (λ (p : Payment) by. moves_on (shop_of b books).last moment p.paid on by) good.paid, good.payments_rise)
good_later sizes b moment books good on t = tt

-- what a row that is put is asked, and a change
abbrev pub IsFresh : Moment → (t : Table) → RowOf t → List (RowOf t) → Type 0
IsFresh moment Customers it its = it.created ≡ moment
IsFresh moment Rentals it its =
    (it.rented ≡ moment) × (it.returned ≡ None)
    × (list_any (λ (r : Rental). same_moment r.rented moment && r.copy == it.copy && r.customer == it.customer) its ≡ false)
IsFresh moment Payments it its = it.paid ≡ moment
IsFresh moment t it its = ⊤

abbrev pub KeepsGood : Moment → (t : Table) → (RowOf t → RowOf t) → Type 0
KeepsGood moment Customers f = (it : Customer) → (f it).created ≡ it.created
KeepsGood moment Rentals f = KeepsRented f × ((it : Rental) → (f it).returned ≡ Some moment)
KeepsGood moment Payments f = (it : Payment) → (f it).paid ≡ it.paid
KeepsGood moment t f = ⊤

good_put : (moment : Moment) (t : Table) (it : RowOf t) (its : List (RowOf t))
    → IsFresh moment t it its → AreGood (Some moment) t its → AreGood (Some moment) t (its ++ it ∷ [])
good_put moment Customers it its is good = all_more _ its it good (rw is (self_by moment))
good_put moment Rentals it its is good = (
  apart_more its it good.0 (rw is.0 is.2),
  all_more _ its it good.1 (rw (is.0, is.1, self_by moment)),
  rw (map_push (λ (r : Rental). r.rented) its it, is.0)
      (rises_more (map (λ (r : Rental). r.rented) its) moment good.2
      (rw (list_all-map (λ n. is_by n moment) (λ (r : Rental). r.rented) its)
      (all_weaker _ _ its (λ (r : Rental) by. (and_parts (is_by r.rented moment) _ by).0) good.1))),
)
good_put moment Payments it its is good = (
  all_more _ its it good.0 (rw is (self_by moment)),
  rw (map_push (λ (p : Payment). p.paid) its it, is)
      (rises_more (map (λ (p : Payment). p.paid) its) moment good.1 (rw (list_all-map (λ n. is_by n moment) (λ (p : Payment). p.paid) its) good.0)),
)
good_put moment t it its is good = tt

good_set : (moment : Moment) (t : Table) (n : ℕ) (f : RowOf t → RowOf t) (its : List (RowOf t))
    → KeepsGood moment t f → AreGood (Some moment) t its → AreGood (Some moment) t (set_at n f its)
good_set moment Customers n f its keeps good = all_set _ n f its good (λ it is. rw (keeps it) is)
good_set moment Rentals n f its keeps good = (
  rw (apart_set n f its keeps.0) good.0,
  all_set _ n f its good.1 (λ it by. let h = and_parts (is_by it.rented moment) _ by in rw ((keeps.0 it).0, keeps.1 it, h.0, self_by moment)),
  rw (map_set_same (λ (r : Rental). r.rented) n f its (λ it. (keeps.0 it).0)) good.2,
)
good_set moment Payments n f its keeps good = (
  all_set _ n f its good.0 (λ it is. rw (keeps it) is),
  rw (map_set_same (λ (p : Payment). p.paid) n f its keeps) good.1,
)
good_set moment t n f its keeps good = tt

-- ---- edits

-- new rows, one after another
abbrev pub AreFresh : Moment → (t : Table) → List (ℕ → RowOf t) → List (RowOf t) → Type 0
AreFresh moment t [] its = ⊤
AreFresh moment t (make ∷ makes) its = (n : ℕ) → IsFresh moment t (make n) its × AreFresh moment t makes (its ++ make n ∷ [])

-- copies and terms are asked nothing
abbrev pub AreFreshOf : Moment → (t : Table) → List (ℕ → RowOf t) → List (RowOf t) → Type 0
AreFreshOf moment CopyRows makes its = ⊤
AreFreshOf moment TermRows makes its = ⊤
AreFreshOf moment t makes its = AreFresh moment t makes its

good_all : (b : ℕ) (moment : Moment) (t : Table) (makes : List (ℕ → RowOf t)) (rows : List (Row (RowOf t)))
    → AreFresh moment t makes (of b rows) → AreGood (Some moment) t (of b rows) → AreGood (Some moment) t (of b (put_all b makes rows))
good_all b moment t [] rows fresh good = good
good_all b moment t (make ∷ makes) rows fresh good =
    let own = put_own b make rows in
    let new = make (next b rows) in
    let f = fresh (next b rows) in
    good_all b moment t makes (put b make rows) (subst (AreFresh moment t makes) (sym own) f.1)
    (subst (AreGood (Some moment) t) (sym own) (good_put moment t new (of b rows) f.0 good))

good_puts : (b : ℕ) (moment : Moment) (t : Table) (makes : List (ℕ → RowOf t)) (rows : List (Row (RowOf t)))
    → AreFreshOf moment t makes (of b rows) → AreGood (Some moment) t (of b rows) → AreGood (Some moment) t (of b (put_all b makes rows))
good_puts b moment CopyRows makes rows fresh good = tt
good_puts b moment TermRows makes rows fresh good = tt
good_puts b moment t makes rows fresh good = good_all b moment t makes rows fresh good

good_sets : (moment : Moment) (t : Table) (ns : List ℕ) (f : RowOf t → RowOf t) (its : List (RowOf t))
    → KeepsGood moment t f → AreGood (Some moment) t its → AreGood (Some moment) t (set_all ns f its)
good_sets moment t [] f its keeps good = good
good_sets moment t (n ∷ ns) f its keeps good = good_sets moment t ns f (set_at n f its) keeps (good_set moment t n f its keeps good)

-- what an edit is asked
abbrev pub IsGoodEdit : ℕ → Moment → Books → Edit → Type 0
IsGoodEdit b moment books (Put t makes) = AreFreshOf moment t makes (of b (rows_of books t))
IsGoodEdit b moment books (Set t ns f) = KeepsGood moment t f
IsGoodEdit b moment books edit = ⊤

abbrev IsTableGood : ℕ → Moment → (t : Table) → List (Row (RowOf t)) → Type 0
IsTableGood b moment t rows = AreGood (Some moment) t (of b rows) × (AreRowsNumbered t rows)

abbrev AreTablesGood : ℕ → Moment → Books → Type 0
AreTablesGood b moment books = (t : Table) → IsTableGood b moment t (rows_of books t)

good_edited : (b : ℕ) (moment : Moment) (books : Books) (edit : Edit) → IsGoodEdit b moment books edit
    → AreTablesGood b moment books → AreTablesGood b moment (edited b edit books)
good_edited b moment books (Put t makes) asked good =
    by_table (IsTableGood b moment) t _ books
    (good_puts b moment t makes (rows_of books t) asked (good t).0, λ c. put_all_counted c b makes (rows_of books t) ((good t).1 c)) good
good_edited b moment books (Set t ns f) asked good =
    by_table (IsTableGood b moment) t _ books (
      rw (set_rows_own b ns f (rows_of books t) ((good t).1 b)) (good_sets moment t ns f (of b (rows_of books t)) asked (good t).0),
      λ c. set_rows_counted c b ns f (rows_of books t) ((good t).1 c),
    )
    good
good_edited b moment books edit asked good = good

-- ---- a command

-- a command puts one row of a kind at most, but for copies
pub record IsSmall (edits : List Edit) : Type 0 where
  pub customers : grown Customers edits ≤ 1
  pub rentals : grown Rentals edits ≤ 1
  pub payments : grown Payments edits ≤ 1
  pub lots : new_lots edits ≤ 1
  pub sends : new_sends edits ≤ 1

pub edits_small : (rules : Rules) (b : ℕ) (command : Command) (act : Act) (books : Books) → IsSmall (edits_of rules b command act books)
edits_small rules b command (AddCustomer person) books = record {
  customers = omega arith;
  rentals = omega arith;
  payments = omega arith;
  lots = omega arith;
  sends = omega arith;
}
edits_small rules b command act books = record {
  customers = omega arith;
  rentals = omega arith;
  payments = omega arith;
  lots = omega arith;
  sends = omega arith;
}

-- as many copies as the verdict has counted
copies_new : (rules : Rules) (b : ℕ) (command : Command) (act : Act) (books : Books) → HasNumbers books
    → NoneHold (act_refusals rules b books.catalogue (shop_of b books) command.moment act)
    → grown CopyRows (edits_of rules b command act books) ≡ new_copies rules (shop_of b books) act
copies_new rules b command (Import lot file) books has none =
    let n = length_map (imported b) (films_in (rules.stock_of file)) in
    let m = films_new (rules.stock_of file) in let k = length_map here (films_in (rules.stock_of file)) in omega (arith, n, m, k)
copies_new rules b command (Receive source number missing) books has none =
    let n = length_map unpacked (come source b number missing books.consignments) in
    let f = length_map (λ (line : Line). line.film) (come source b number missing books.consignments) in
    let same = ap length (incoming_come b source number missing books (has.consignments source b)) in
    let m = incoming_new missing (arrival source number (shop_of b books)) none.1.0 none.1.1.0 in
    omega (arith, n, f, same, m)
copies_new rules b command act books has none = refl

pub good_shop_done : (rules sizes : Rules) (b : ℕ) (command : Command) (books : Books) → rules.commands ≤ sizes.commands
    → rules.copies ≤ sizes.copies → HasNumbers books → IsGoodShop sizes (shop_of b books)
    → is_full rules (shop_of b books) command.act ≡ false → is_before command.moment (shop_of b books).last ≡ false
    → NoneHold (act_refusals rules b books.catalogue (shop_of b books) command.moment command.act)
    → AskedOfEach b (IsGoodEdit b command.moment) (edits_of rules b command command.act books) books
    → IsGoodShop sizes (shop_of b (book_done rules b command books))
good_shop_done rules sizes b command books most fit has good full on none asked =
    let edits = edits_of rules b command command.act books in
    let after = book_acted rules b command command.act books in
    let shop = shop_of b books in
    let later = good_later sizes b command.moment books good on in
    let all =
    each_keeps (AreTablesGood b command.moment) (IsGoodEdit b command.moment) b
    (good_edited b command.moment) edits books asked (λ t. (later t, has.rows t)) in
    let small = edits_small rules b command command.act books in
    let grew = rows_edited b b edits books in
    let k : Kept = record { command = command; reply = reply_text rules command shop } in
    let own = more_yes (λ (row : Owned Kept). row.it) (λ row. row.owner == b) books.kept (record { owner = b; it = k }) (same_test b) in
    let last = last_own b command.moment books.lasts in
    let l = length-append shop.kept (k ∷ []) in
    let full = or_parts (nat_le rules.commands (length shop.kept)) _ full in
    rw (own, last) (record {
      apart = (all Rentals).0.0;
      created = (all Customers).0;
      rented = (all Rentals).0.1;
      paid = (all Payments).0.0;
      rentals_rise = (all Rentals).0.2;
      payments_rise = (all Payments).0.1;
      keys = let room = key_room rules.commands (length shop.kept) full.0 l in omega (arith, room, most);
      copies =
          let new = copies_new rules b command command.act books has none in
          let was = length_map unmarked (of b books.copies) in
          let now = length_map unmarked (of b after.copies) in
          let r = room (new_copies rules shop command.act) (length shop.copies) rules.copies sizes.copies full.1 fit good.copies in
          omega (arith, new, was, now, r, grew CopyRows);
      customers_fit = omega (arith, l, grew Customers, small.customers, good.customers_fit);
      rentals_fit = omega (arith, l, grew Rentals, small.rentals, good.rentals_fit);
      payments_fit = omega (arith, l, grew Payments, small.payments, good.payments_fit);
      lots_fit = let lots = lots_edited b edits books in omega (arith, l, lots, small.lots, good.lots_fit);
      sent_fit =
          let sent = sends_edited b edits books (sends_numbered rules b command command.act books) in
          let was = length_map as_parcel (filter (λ (it : Consignment). it.source == b) books.consignments) in
          let now = length_map as_parcel (filter (λ (it : Consignment). it.source == b) after.consignments) in
          omega (arith, l, sent, was, now, small.sends, good.sent_fit);
    })
