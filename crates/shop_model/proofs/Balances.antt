-- What each act does to balances.
use Rattle.shop_model.proofs.Common.{◌≡◌, inl, inr, ℕ, ◌+◌, ◌-◌, ◌*◌, List, [], ◌∷◌, ◌++◌, length, filter, map, Bool, true, false, Option, Some, None, refl}
use Rattle.shop_model.proofs.Common.{sym, ap, ◌∙◌, arith, add-zero, pos, ◌-ℤ◌, ◌==◌, ◌&&◌, ◌||◌, IsSound, flat_map, zip, list_any, cases_Bool, true≢false, at}
use Rattle.shop_model.proofs.Common.{set_at, total, Moment, is_by, Film, Copy, Rental, Terms, Payment, Rule, ByCode, Act, Rent, TakeBack, Pay, Command}
use Rattle.shop_model.proofs.Common.{OfficeAct, ChooseRule, Rules, Catalogue, Shop, film_terms, late_days, fee, balance, verdict, office_verdict, Accepted}
use Rattle.shop_model.proofs.Common.{act_refusals, acted, office_acted, office_done, Books, shop_of, IsLinkedShop, HasTerms, if◌then◌else◌}
use Rattle.std.specs.Prelude.{is_some, ◌+ℤ◌}
use Rattle.std.proofs.lemmas.Int.{ints}
use Rattle.shop_model.specs.Stock.{termed}
use Rattle.shop_model.specs.Figures.{charge, paid, ChangesBalances, is_choice, BalancesFollowActs}
use Rattle.shop_model.proofs.RowLemmas.{one_more, length_map}
use Rattle.shop_model.proofs.CustodyLemmas.{total-append}
use Rattle.shop_model.proofs.ShopLemmas.{done_other, arrived_or_same}
use Rattle.shop_model.proofs.ActLaws.{done_own}
use Rattle.shop_model.proofs.SameStates.{by_verdict}
use Rattle.shop_model.proofs.Accepted.{NoneHold, act_holds, not_self}
use Rattle.shop_model.proofs.Soundness.{one_film_now}

-- ---- sums

total_more : {A : Type 0} (w : A → ℕ) (p : A → Bool) (xs : List A) (x : A)
    → total w (filter p (xs ++ x ∷ [])) ≡ total w (filter p xs) + (if p x then w x else 0)
total_more w p xs x = ap (total w) (one_more p xs x) ∙ elim (cases_Bool (p x)) [
  | inl is ↦ let both = total-append w (filter p xs) (x ∷ []) in rw is (omega (arith, both))
  | inr isnt ↦ rw isnt (sym (add-zero (total w (filter p xs))))
]

differ_by : (old new before now charged gave : ℕ) → new ≡ old + charged → now ≡ before + gave
    → pos new -ℤ pos now ≡ (pos old -ℤ pos before) +ℤ (pos charged -ℤ pos gave)
differ_by old new before now charged gave e f = omega (arith, ints)

-- ---- charges

abbrev mine : ℕ → Moment → Rental × Terms → Bool
mine customer moment it = it.0.customer == customer && is_by it.0.rented moment

abbrev fees : ℕ → Moment → List (Rental × Terms) → ℕ
fees customer moment its = total fee (filter (mine customer moment) its)

zip_push : (rentals : List Rental) (terms : List Terms) (rental : Rental) (its : Terms) → length terms ≡ length rentals
    → zip (rentals ++ rental ∷ []) (terms ++ its ∷ []) ≡ zip rentals terms ++ (rental, its) ∷ []
zip_push [] [] rental its same = refl
zip_push [] (t ∷ terms) rental its same = absurd (omega (arith, same))
zip_push (r ∷ rentals) [] rental its same = absurd (omega (arith, same))
zip_push (r ∷ rentals) (t ∷ terms) rental its same =
    ap (λ (rest : List (Rental × Terms)). (r, t) ∷ rest) (zip_push rentals terms rental its (omega (arith, same)))

-- a new rental adds its film's rate
rent_adds : (customer : ℕ) (moment : Moment) (rentals : List Rental) (terms : List Terms) (rental : Rental) (films : List Film)
    → length terms ≡ length rentals → length films ≡ 1 → rental.returned ≡ None
    → fees customer moment (zip (rentals ++ rental ∷ []) (terms ++ map film_terms films))
    ≡ fees customer moment (zip rentals terms)
    + (if rental.customer == customer && is_by rental.rented moment then total (λ (film : Film). film.rate) films else 0)
rent_adds customer moment rentals terms rental [] same one out = absurd (omega (arith, one))
rent_adds customer moment rentals terms rental (film ∷ other ∷ films) same one out = absurd (omega (arith, one))
rent_adds customer moment rentals terms rental (film ∷ []) same one out =
    let its = film_terms film in
    let more = total_more fee (mine customer moment) (zip rentals terms) (rental, its) in
    let none : late_days rental.rented rental.returned film.period ≡ 0 = rw out refl in
    ap (fees customer moment) (zip_push rentals terms rental its same) ∙ more ∙ elim (cases_Bool (rental.customer == customer && is_by rental.rented moment)) [
      | inl is ↦ rw (is, none) (omega arith)
      | inr isnt ↦ rw isnt refl
    ]

abbrev back : Moment → Rental → Rental
back now rental = record rental { returned = Some now }

set_zip : (n : ℕ) (f : Rental → Rental) (rentals : List Rental) (terms : List Terms)
    → zip (set_at n f rentals) terms ≡ set_at n (λ (it : Rental × Terms). (f it.0, it.1)) (zip rentals terms)
set_zip n f [] terms = refl
set_zip n f (r ∷ rentals) [] = elim (cases_Bool (n == 1)) [ inl is ↦ rw is refl | inr isnt ↦ rw isnt refl ]
set_zip n f (r ∷ rentals) (t ∷ terms) = elim (cases_Bool (n == 1)) [
  | inl is ↦ rw is refl
  | inr isnt ↦ rw isnt (ap (λ (rest : List (Rental × Terms)). (r, t) ∷ rest) (set_zip (n - 1) f rentals terms))
]

open_zip : (n : ℕ) (rentals : List Rental) (terms : List Terms) → list_any (λ (it : Rental). is_some it.returned) (at n rentals) ≡ false
    → list_any (λ (it : Rental × Terms). is_some it.0.returned) (at n (zip rentals terms)) ≡ false
open_zip n [] terms out = refl
open_zip n (r ∷ rentals) [] out = refl
open_zip n (r ∷ rentals) (t ∷ terms) out = elim (cases_Bool (n == 1)) [
  | inl is ↦ let this : list_any (λ (it : Rental). is_some it.returned) (r ∷ []) ≡ false = rw is at out in rw is this
  | inr isnt ↦ rw isnt (open_zip (n - 1) rentals terms (rw isnt at out))
]

not_late : (rented : Moment) (returned : Option Moment) (period : ℕ) → is_some returned ≡ false → late_days rented returned period ≡ 0
not_late rented None period out = refl
not_late rented (Some moment) period out = absurd (true≢false out)

add_up : (rate late was rest : ℕ) → was ≡ 0 → rate + 100 * late + rest ≡ rate + 100 * was + rest + (100 * late + 0)
add_up rate late was rest e = omega (arith, e)

-- a return adds a dollar for each late day
return_adds : (p : Rental × Terms → Bool) (now : Moment) (n : ℕ) (its : List (Rental × Terms)) → ((it : Rental × Terms) → p (back now it.0, it.1) ≡ p it)
    → list_any (λ (it : Rental × Terms). is_some it.0.returned) (at n its) ≡ false
    → total fee (filter p (set_at n (λ (it : Rental × Terms). (back now it.0, it.1)) its))
    ≡ total fee (filter p its) + total (λ (it : Rental × Terms). if p it then 100 * late_days it.0.rented (Some now) it.1.period else 0) (at n its)
return_adds p now n [] keeps out = refl
return_adds p now n (it ∷ its) keeps out = elim (cases_Bool (n == 1)) [
  | inl is ↦
      let this : list_any (λ (it : Rental × Terms). is_some it.0.returned) (it ∷ []) ≡ false = rw is at out in
      let none = not_late it.0.rented it.0.returned it.1.period (only (is_some it.0.returned) this) in
      elim (cases_Bool (p it)) [
        | inl passes ↦
            rw (is, keeps it, passes)
            (add_up it.1.rate (late_days it.0.rented (Some now) it.1.period) (late_days it.0.rented it.0.returned it.1.period) (total fee (filter p its)) none)
        | inr fails ↦ rw (is, keeps it, fails) (sym (add-zero (total fee (filter p its))))
      ]
  | inr isnt ↦
      let more = return_adds p now (n - 1) its keeps (rw isnt at out) in
      elim (cases_Bool (p it)) [
        | inl passes ↦ rw (isnt, passes) (omega (arith, more))
        | inr fails ↦ rw (isnt, fails) more
      ]
]
  where
    only : (a : Bool) → (a || false) ≡ false → a ≡ false
    only true e = e
    only false e = refl

charges : (rules : Rules) (b : ℕ) (catalogue : Catalogue) (command : Command) (act : Act) (shop : Shop) (customer : ℕ) (moment : Moment)
    → IsLinkedShop b catalogue shop → HasTerms shop
    → NoneHold (act_refusals rules b catalogue shop command.moment act)
    → fees customer moment (termed (acted rules catalogue command act shop))
    ≡ fees customer moment (termed shop) + charge catalogue shop command.moment act customer moment
charges rules b catalogue command (Rent c x) shop customer moment linked has none =
    let films = flat_map (λ (copy : Copy). at copy.film catalogue.films) (at x shop.copies) in
    let one : length films ≡ 1 = sym (length_map film_terms films) ∙ one_film_now b catalogue shop x linked none.1.1.0 in
    rent_adds customer moment shop.rentals shop.terms
    (record { rented = command.moment; copy = x; customer = c; returned = None; staff = command.staff }) films has one refl
charges rules b catalogue command (TakeBack r) shop customer moment linked has none =
    ap (fees customer moment) (set_zip r (back command.moment) shop.rentals shop.terms)
    ∙ return_adds (mine customer moment) command.moment r (termed shop) (λ it. refl) (open_zip r shop.rentals shop.terms none.1.0)
charges rules b catalogue command act shop customer moment linked has none = sym (add-zero (fees customer moment (termed shop)))

-- ---- payments

abbrev given : ℕ → Moment → List Payment → ℕ
given customer moment payments =
    total (λ (payment : Payment). payment.amount) (filter (λ (payment : Payment). payment.customer == customer && is_by payment.paid moment) payments)

payments : (rules : Rules) (catalogue : Catalogue) (command : Command) (act : Act) (shop : Shop) (customer : ℕ) (moment : Moment)
    → given customer moment (acted rules catalogue command act shop).payments ≡ given customer moment shop.payments + paid command.moment act customer moment
payments rules catalogue command (Pay c rental amount) shop customer moment =
    total_more (λ (payment : Payment). payment.amount) (λ (payment : Payment). payment.customer == customer && is_by payment.paid moment) shop.payments
    (record { customer = c; staff = command.staff; rental = rental; amount = amount; paid = command.moment })
payments rules catalogue command act shop customer moment = sym (add-zero (given customer moment shop.payments))

-- ---- balances

changes : (rules : Rules) (b : ℕ) (command : Command) (books : Books) → IsSound rules books
    → verdict rules b books.catalogue (shop_of b books) command ≡ Accepted
    → ChangesBalances rules b command books
changes rules b command books sound e =
    let shop = shop_of b books in
    let none = act_holds rules b books.catalogue shop command e in
    let away = not_self rules b books.catalogue shop command.moment command.act none in
    let mine = done_own rules b command books sound.numbers away in
    record {
      own = λ customer moment.
          ap (λ (now : Shop). balance ByCode now customer moment) mine
          ∙ differ_by (fees customer moment (termed shop)) (fees customer moment (termed (acted rules books.catalogue command command.act shop)))
          (given customer moment shop.payments) (given customer moment (acted rules books.catalogue command command.act shop).payments)
          (charge books.catalogue shop command.moment command.act customer moment) (paid command.moment command.act customer moment)
          (charges rules b books.catalogue command command.act shop customer moment (sound.links b) (sound.terms b) none)
          (payments rules books.catalogue command command.act shop customer moment);
      others = λ c rule customer moment differ.
          ap (λ (now : Shop). balance rule now customer moment) (done_other rules c b command books sound.numbers differ)
          ∙ arrived_or_same (λ (now : Shop). balance rule now customer moment ≡ balance rule (shop_of c books) customer moment)
          c b command.act books (λ xs. refl) refl;
    }

rule_stays : (act : OfficeAct) (catalogue : Catalogue) → is_choice act ≡ false → (office_acted act catalogue).rule ≡ catalogue.rule
rule_stays (ChooseRule rule) catalogue other = absurd (true≢false other)
rule_stays act catalogue other = refl

pub follow_acts : BalancesFollowActs
follow_acts = record {
  branch = changes;
  office = λ rules command books b customer moment other.
      ap (λ (rule : Rule). balance rule (shop_of b books) customer moment)
      (by_verdict (λ (it : Catalogue). it.rule ≡ books.catalogue.rule)
      (office_verdict rules books.catalogue command) (office_done command books.catalogue) books.catalogue
      (λ _. rule_stays command.act books.catalogue other) refl);
}
