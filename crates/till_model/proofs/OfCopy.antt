-- The rental that an accepted rent adds is of the rented copy, and stays so.
use Rattle.shop_types.proofs.Common.{◌≡◌, ◌∙◌, ◌+◌, ◌-◌, ℕ, Bool, true, false, List, [], ◌∷◌, ◌++◌, length, refl, sym, ap, subst, arith, list_any, Act}
use Rattle.shop_types.proofs.Common.{AddCustomer, SetActive, Rent, TakeBack, Pay, Import, Dispatch, Receive, Scrap, Rental, Rules, Command, at, Catalogue, Shop}
use Rattle.shop_types.proofs.Common.{Verdict, Again, Refused, Accepted, verdict, Unread, Do, Look, Office, OfficeLook, Input, FromOffice, Arrive, Own, State}
use Rattle.shop_types.proofs.Common.{acted, done, if_accepted, moved, state_after, object, any_at_more, any_at_set, equal_test, differ_test}
use Rattle.std.specs.Prelude.{◌==◌}
use Rattle.shop_model.specs.Acts.{told}
use Rattle.till_model.specs.RegisterLaws.{is_rental_of, RentsStayOfTheirCopies}

last_at : {A : Type 0} (p : A → Bool) (xs : List A) (x : A) → p x ≡ true → list_any p (at (length xs + 1) (xs ++ x ∷ [])) ≡ true
last_at p [] x good = rw good refl
last_at p (y ∷ ys) x good =
    let differ : (length (y ∷ ys) + 1 == 1) ≡ false = differ_test (length (y ∷ ys) + 1) 1 (λ e. absurd (omega (arith, e))) in
    let less : length (y ∷ ys) + 1 - 1 ≡ length ys + 1 = omega arith in
    rw differ (subst (λ m. list_any p (at m (ys ++ x ∷ [])) ≡ true) (sym less) (last_at p ys x good))

module _ (copy n : ℕ) (rules : Rules) where
  after_act : (catalogue : Catalogue) (command : Command) (shop : Shop) (act : Act)
      → is_rental_of copy n shop ≡ true → is_rental_of copy n (acted rules catalogue command act shop) ≡ true
  after_act catalogue command shop (Rent c x) is = any_at_more (λ (it : Rental). it.copy == copy) n shop.rentals _ is
  after_act catalogue command shop (TakeBack r) is = any_at_set (λ (it : Rental). it.copy == copy) n r _ shop.rentals (λ it. refl) ∙ is
  after_act catalogue command shop (AddCustomer person) is = is
  after_act catalogue command shop (SetActive c active) is = is
  after_act catalogue command shop (Pay c r amount) is = is
  after_act catalogue command shop (Import lot file) is = is
  after_act catalogue command shop (Dispatch to copies) is = is
  after_act catalogue command shop (Receive source number missing) is = is
  after_act catalogue command shop (Scrap x) is = is

  after_verdict : (v : Verdict) (catalogue : Catalogue) (command : Command) (shop : Shop) → is_rental_of copy n shop ≡ true
      → is_rental_of copy n (if_accepted v (done rules catalogue command shop) shop) ≡ true
  after_verdict (Again text) catalogue command shop is = is
  after_verdict (Refused refusal) catalogue command shop is = is
  after_verdict Accepted catalogue command shop is = after_act catalogue command shop command.act is

  after_input : (b : ℕ) (input : Input) (s : State) → is_rental_of copy n s.shop ≡ true → is_rental_of copy n (moved rules b input s).shop ≡ true
  after_input b (FromOffice command) s is = is
  after_input b (Arrive source films) s is = is
  after_input b (Own (Unread refusal)) s is = is
  after_input b (Own (Do command)) s is = after_verdict (verdict rules b s.catalogue s.shop command) s.catalogue command s.shop is
  after_input b (Own (Look ask)) s is = is
  after_input b (Own (Office command)) s is = is
  after_input b (Own (OfficeLook ask)) s is = is

  after_inputs : (b : ℕ) (inputs : List Input) (s : State) → is_rental_of copy n s.shop ≡ true → is_rental_of copy n (state_after rules b inputs s).shop ≡ true
  after_inputs b [] s is = is
  after_inputs b (input ∷ inputs) s is = after_inputs b inputs (moved rules b input s) (after_input b input s is)

pub rents_stay : RentsStayOfTheirCopies
rents_stay rules b inputs s command customer copy act accepted = (
  ap (λ (it : Act). object (told rules it s.shop)) act,
  after_inputs copy (length s.shop.rentals + 1) rules b inputs (moved rules b (Own (Do command)) s) rented,
)
  where
    row_there : (it : Act) → it ≡ Rent customer copy → is_rental_of copy (length s.shop.rentals + 1) (acted rules s.catalogue command it s.shop) ≡ true
    row_there it is =
        subst (λ (a : Act). is_rental_of copy (length s.shop.rentals + 1) (acted rules s.catalogue command a s.shop) ≡ true) (sym is)
        (last_at (λ (r : Rental). r.copy == copy) s.shop.rentals _ (equal_test copy copy refl))

    rented : is_rental_of copy (length s.shop.rentals + 1) (moved rules b (Own (Do command)) s).shop ≡ true
    rented =
        subst (λ (v : Verdict). is_rental_of copy (length s.shop.rentals + 1) (if_accepted v (done rules s.catalogue command s.shop) s.shop) ≡ true)
        (sym accepted) (row_there command.act act)
