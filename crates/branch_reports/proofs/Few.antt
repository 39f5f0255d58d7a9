-- A branch of sound books has no more than a million rows of a kind, and so a report reads no more.
use Rattle.shop_schema.proofs.Common.{◌≡◌, ◌≤◌, ℕ, List, [], ◌∷◌, map, filter, length, zip, Bool, inl, inr, ap, sym, ◌∙◌, arith, cases_Bool, length_map}
use Rattle.shop_schema.proofs.Common.{◌==◌, Rental, Terms, termed, Books, shop_of, of, IsHeld, Rentals, Payments, Payment, seen_payment}
use Rattle.shop_store.specs.declared.payments.PaymentRow.{PaymentRow}
use Rattle.balance_rule.specs.declared.rows.Paid.{Paid}
use Rattle.balance_rule.specs.declared.rows.RentalTerms.{RentalTerms}
use Rattle.balance_rule.specs.Balance.{AreTermsOf, ArePaidBy, terms_of, paid_of}

filter_few : {A : Type 0} (p : A → Bool) (xs : List A) → length (filter p xs) ≤ length xs
filter_few p [] = omega arith
filter_few p (x ∷ xs) = let few = filter_few p xs in elim (cases_Bool (p x)) [ inl is ↦ rw is (omega (arith, few)) | inr isnt ↦ rw isnt (omega (arith, few)) ]

zip_few : {A B : Type 0} (xs : List A) (ys : List B) → length (zip xs ys) ≤ length xs
zip_few [] [] = omega arith
zip_few [] (y ∷ ys) = omega arith
zip_few (x ∷ xs) [] = omega arith
zip_few (x ∷ xs) (y ∷ ys) = let few = zip_few xs ys in omega (arith, few)

-- as many as some of a list are no more than the list
made_few : {A B : Type 0} (f : A → B) (p : A → Bool) (xs : List A) (ys : List B) → ys ≡ map f (filter p xs) → length ys ≤ length xs
made_few f p xs ys is = let few = filter_few p xs in omega (arith, few, ap length is ∙ length_map f (filter p xs))

pub few_rows : (b : ℕ) (books : Books) → IsHeld books → (q : Payment → Bool) (rows : List PaymentRow)
    → map (λ (row : PaymentRow). seen_payment row.payment) rows ≡ filter q (of b books.payments) → length rows ≤ 1_000_000
few_rows b books held q rows is =
    let few = filter_few q (of b books.payments) in
    let most : length (of b books.payments) ≤ 1_000_000 = held.most_rows Payments b in
    omega (arith, few, most, sym (length_map (λ (row : PaymentRow). seen_payment row.payment) rows) ∙ ap length is)

pub few_terms : (b customer : ℕ) (books : Books) → IsHeld books
    → (terms : List RentalTerms) → AreTermsOf (shop_of b books) customer terms → length terms ≤ 1_000_000
few_terms b customer books held terms are =
    let few : length terms ≤ length (zip (of b books.rentals) (of b books.terms)) =
    made_few terms_of (λ (it : Rental × Terms). it.0.customer == customer) (termed (shop_of b books)) terms are in
    let all = zip_few (of b books.rentals) (of b books.terms) in
    let most : length (of b books.rentals) ≤ 1_000_000 = held.most_rows Rentals b in
    omega (arith, few, all, most)

pub few_paid : (b customer : ℕ) (books : Books) → IsHeld books → (paid : List Paid) → ArePaidBy (shop_of b books) customer paid → length paid ≤ 1_000_000
few_paid b customer books held paid are =
    let few : length paid ≤ length (of b books.payments) = made_few paid_of (λ (it : Payment). it.customer == customer) (of b books.payments) paid are in
    let most : length (of b books.payments) ≤ 1_000_000 = held.most_rows Payments b in
    omega (arith, few, most)
