-- What is shown of each act of a branch: its form is its own, what it replies is a text, and the rows that it makes are such as the program can hold.
use Rattle.shop_schema.proofs.Common.{◌≡◌, ◌+◌, ◌==◌, ℕ, List, [], ◌∷◌, map, not, length, true, refl, arith, IsUtf8, ⊤, AllByRecursion, All-push, all-filter}
use Rattle.shop_schema.proofs.Common.{length_map, IsMoment, object, Person, Terms, Act, Command, Rules, Shop, same_person, same_act, person_form, act_form}
use Rattle.shop_schema.proofs.Common.{arrival, films_in, incoming, numbers_from, terms_now, reply_text, Books, Customers, CopyRows, Rentals, TermRows, Payments}
use Rattle.shop_schema.proofs.Common.{edits_of, book_acted, book_done, imported, shop_of, IsHeld, IsNumber, IsTerms, IsKept, IsLast, IsAct, IsCommand}
use Rattle.shop_schema.proofs.Common.{AreValues, FitsTables}
use Rattle.shop_model.specs.Acts.{told}
use Rattle.shop_model.specs.Json.{escape_byte}
use Rattle.shop_model.specs.Values as model
use Rattle.shop_schema.proofs.FormValues.{Kind, Number, Bytes, Numbers, Perhaps, Flag, Values, by_form, by_test, made_one}
use Rattle.shop_schema.proofs.Replies.{number_ascii, flag_ascii, numbers_ascii, object_utf8}
use Rattle.shop_schema.proofs.Values.{AreNew, few_terms, now_values, all_values}

-- ---- one act by its form, and as it is the same

abbrev person_kinds : List Kind
person_kinds = Bytes ∷ Bytes ∷ Bytes ∷ Bytes ∷ Bytes ∷ Number ∷ []

abbrev of_person : Person → Values person_kinds
of_person p = (p.first, (p.last, (p.address, (p.postal, (p.phone, (p.city, tt))))))

abbrev to_person : Values person_kinds → Person
to_person (first, (last, (address, (postal, (phone, (city, end)))))) =
    record { first = first; last = last; address = address; postal = postal; phone = phone; city = city }

pub person_is : (p q : Person) → person_form p ≡ person_form q → p ≡ q
person_is p q h = by_form person_kinds to_person (of_person p) (of_person q) h

pub person_equal : (p q : Person) → same_person p q ≡ true → p ≡ q
person_equal p q h = by_test person_kinds to_person (of_person p) (of_person q) h

pub act_one : (a b : Act) → (act_form a ≡ act_form b → a ≡ b) × (same_act a b ≡ true → a ≡ b)
act_one (model.AddCustomer a) (model.AddCustomer b) =
    made_one 1 person_kinds (λ v. model.AddCustomer (record { person = to_person v })) (of_person a.person) (of_person b.person)
act_one (model.SetActive c x) (model.SetActive d y) = made_one 2 (Number ∷ Flag ∷ []) (λ v. model.SetActive v.0 v.1.0) (c, (x, tt)) (d, (y, tt))
act_one (model.Rent c x) (model.Rent d y) = made_one 3 (Number ∷ Number ∷ []) (λ v. model.Rent v.0 v.1.0) (c, (x, tt)) (d, (y, tt))
act_one (model.TakeBack r) (model.TakeBack s) = made_one 4 (Number ∷ []) (λ v. model.TakeBack v.0) (r, tt) (s, tt)
act_one (model.Pay c r m) (model.Pay d s n) = made_one 5 (Number ∷ Perhaps ∷ Number ∷ []) (λ v. model.Pay v.0 v.1.0 v.1.1.0) (c, (r, (m, tt))) (d, (s, (n, tt)))
act_one (model.Import lot file) (model.Import name bytes) = made_one 6 (Bytes ∷ Bytes ∷ []) (λ v. model.Import v.0 v.1.0) (lot, (file, tt)) (name, (bytes, tt))
act_one (model.Dispatch a xs) (model.Dispatch b ys) = made_one 7 (Number ∷ Numbers ∷ []) (λ v. model.Dispatch v.0 v.1.0) (a, (xs, tt)) (b, (ys, tt))
act_one (model.Receive s n xs) (model.Receive t m ys) =
    made_one 8 (Number ∷ Number ∷ Numbers ∷ []) (λ v. model.Receive v.0 v.1.0 v.1.1.0) (s, (n, (xs, tt))) (t, (m, (ys, tt)))
act_one (model.Scrap x) (model.Scrap y) = made_one 9 (Number ∷ []) (λ v. model.Scrap v.0) (x, tt) (y, tt)
act_one a b = (λ h. cc, λ h. cc)

-- ---- its reply

pub reply_utf8 : (rules : Rules) (act : Act) (shop : Shop) → IsUtf8 (object (told rules act shop))
unfolding escape_byte
reply_utf8 rules (model.SetActive c active) shop = object_utf8 (told rules (model.SetActive c active) shop) refl (flag_ascii active, (number_ascii c, tt))
reply_utf8 rules (model.Import lot file) shop = object_utf8 (told rules (model.Import lot file) shop) refl (number_ascii _, (number_ascii _, tt))
reply_utf8 rules (model.Dispatch to xs) shop = object_utf8 (told rules (model.Dispatch to xs) shop) refl (number_ascii _, (number_ascii _, tt))
reply_utf8 rules (model.Receive source number missing) shop =
    object_utf8 (told rules (model.Receive source number missing) shop) refl
    (numbers_ascii (numbers_from (length shop.copies + 1) (incoming missing (arrival source number shop))), tt)
reply_utf8 rules act shop = object_utf8 (told rules act shop) refl (number_ascii _, tt)

-- ---- the rows that it makes

-- What is asked of a dispatch or a receipt besides: their rows need sound books.
abbrev pub IfConsigns : Act → Type 0 → Type 0
IfConsigns (model.Dispatch addressee copies) P = P
IfConsigns (model.Receive source number missing) P = P
IfConsigns act P = ⊤

new_copies_values : (b : ℕ) → IsNumber b → (films : List ℕ) → AllByRecursion IsNumber films → AreNew CopyRows (map (imported b) films)
new_copies_values b branch [] all = tt
new_copies_values b branch (film ∷ films) all = (λ n number. (all.0, (branch, number)), new_copies_values b branch films all.1)

new_terms_values : (its : List Terms) → AllByRecursion IsTerms its → AreNew TermRows (map (λ it _. it) its)
new_terms_values [] all = tt
new_terms_values (it ∷ its) all = (λ n number. all.0, new_terms_values its all.1)

acted_values : (rules : Rules) (b : ℕ) (command : Command) (act : Act) (books : Books) → IsNumber b
    → IsNumber command.staff → IsMoment command.moment → IsAct act → IsHeld books → FitsTables rules act
    → IfConsigns act (AreValues (book_acted rules b command act books))
    → AreValues (book_acted rules b command act books)
acted_values rules b command (model.Dispatch to xs) books branch staff moment is held fits consigned = consigned
acted_values rules b command (model.Receive source number missing) books branch staff moment is held fits consigned = consigned
acted_values rules b command (model.AddCustomer person) books branch staff moment is held fits consigned =
    let few = held.most_rows Customers b in
    all_values b (edits_of rules b command (model.AddCustomer person) books) books branch ((omega arith, (λ n number. (is, moment), tt)), tt) held.values
acted_values rules b command (model.Import lot file) books branch staff moment is held fits consigned =
    let few = held.most_rows CopyRows b in
    let many = length_map (imported b) (films_in (rules.stock_of file)) in
    all_values b (edits_of rules b command (model.Import lot file) books) books branch
    ((omega (arith, fits.1, many), new_copies_values b branch (films_in (rules.stock_of file)) fits.0), (is.0, tt)) held.values
acted_values rules b command (model.Rent c x) books branch staff moment is held fits consigned =
    let few = held.most_rows Rentals b in
    let now = terms_now books.catalogue (shop_of b books) x in
    let many = length_map {B = ℕ → Terms} (λ it _. it) now in
    all_values b (edits_of rules b command (model.Rent c x) books) books branch (
      (omega arith, (λ n number. record { rented = moment; copy = is.1; customer = is.0; returned = tt; staff = staff }, tt)),
      (
        (
          omega (arith, few, many, held.termed b, few_terms books.catalogue (shop_of b books) x),
          new_terms_values now (now_values books.catalogue held.values.catalogue.films.1 (shop_of b books) x),
        ),
        tt,
      ),
    ) held.values
acted_values rules b command (model.TakeBack r) books branch staff moment is held fits consigned =
    all_values b (edits_of rules b command (model.TakeBack r) books) books branch
    (λ it such. record { rented = such.rented; copy = such.copy; customer = such.customer; returned = moment; staff = such.staff }, tt) held.values
acted_values rules b command (model.Pay c rental amount) books branch staff moment is held fits consigned =
    let few = held.most_rows Payments b in
    all_values b (edits_of rules b command (model.Pay c rental amount) books) books branch
    ((omega arith, (λ n number. record { customer = is.0; staff = staff; rental = is.1; amount = is.2; paid = moment }, tt)), tt) held.values
acted_values rules b command act books branch staff moment is held fits consigned =
    all_values b (edits_of rules b command act books) books branch (λ it such. such, tt) held.values

-- what an accepted command makes of books that are held
pub values_done : (rules : Rules) (b : ℕ) (command : Command) (books : Books) → IsNumber b → IsCommand command → IsHeld books → FitsTables rules command.act
    → IfConsigns command.act (AreValues (book_acted rules b command command.act books))
    → AreValues (book_done rules b command books)
values_done rules b command books branch is held fits rows =
    let v = acted_values rules b command command.act books branch is.staff is.moment is.act held fits rows in
    let reply = reply_utf8 rules command.act (shop_of b books) in
    record {
      catalogue = v.catalogue;
      rows = v.rows;
      lots = v.lots;
      consignments = v.consignments;
      kept =
          All-push IsKept books.kept
          (record { owner = b; it = record { command = command; reply = reply_text rules command (shop_of b books) } }) held.values.kept (branch, is, reply);
      lasts = (is.moment, all-filter IsLast (λ row. not (row.owner == b)) books.lasts held.values.lasts);
    }
