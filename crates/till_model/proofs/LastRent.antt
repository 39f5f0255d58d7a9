-- The register's rental of a copy is the rental of the copy's last accepted rent.
use Rattle.shop_types.proofs.Common.{◌≡◌, ◌≢◌, ◌⊎◌, ◌∙◌, ℕ, Bool, true, false, List, [], ◌∷◌, Option, Some, None, inl, inr, refl, sym, ap, subst, if◌then◌else◌}
use Rattle.shop_types.proofs.Common.{AllByRecursion, Act, AddCustomer, SetActive, Rent, TakeBack, Pay, Import, Dispatch, Receive, Scrap, Answer}
use Rattle.shop_types.proofs.Common.{accepted_answer, equal_test}
use Rattle.std.specs.Prelude.{◌==◌, ◌&&◌}
use Rattle.std.specs.List.{fold}
use Rattle.till_model.specs.Tills.{Entry}
use Rattle.till_model.specs.Register.{rental_body, rental_told, is_held, or_held, after_reply, after_told, after_entry, rental_of}
use Rattle.till_model.specs.RegisterLaws.{IsRentOf, IsReturnOf, LeavesIt, IsLastRent}
use Rattle.till_model.proofs.Bodies.{told_back, told_is, equal_numbers}

module _ (copy rental : ℕ) where
  -- an entry after which the register has the rental: either it had the rental before, or the entry is the rent
  abbrev Step : Option ℕ → Entry → Type 0
  Step held entry = ((held ≡ Some rental) × LeavesIt copy rental entry) ⊎ IsRentOf copy rental entry

  module _ (held : Option ℕ) (entry : Entry) where
    -- an act that is neither a rent nor a return
    other_act : (act : Act) → entry.command.act ≡ act → ((customer : ℕ) → Rent customer copy ≢ act)
        → ((n : ℕ) → TakeBack n ≢ act) → held ≡ Some rental → Step held entry
    other_act act is no_rent no_return same = inl (same, ((λ return. no_return rental (sym return.1 ∙ is)), λ other rent. no_rent rent.0 (sym rent.2 ∙ is)))

    unanswered : entry.reply ≡ None → held ≡ Some rental → Step held entry
    unanswered none same = inl (same, ((λ return. clash (sym none ∙ return.2)), λ other rent. clash (sym none ∙ rent.3)))
      where
        clash : {a : Answer} → None ≡ Some a → ⊥
        clash e = cc

    module _ (answer : Answer) (replied : entry.reply ≡ Some answer) where
      reply_is : (other : Answer) → entry.reply ≡ Some other → other ≡ answer
      reply_is other e = let both : Some other ≡ Some answer = sym e ∙ replied in cc

      rent_step : (customer rented : ℕ) → entry.command.act ≡ Rent customer rented
          → after_reply copy (Rent customer rented) answer held ≡ Some rental → Step held entry
      rent_step customer rented is told = go (rented == copy) refl told
        where
          no_return : IsReturnOf rental entry → ⊥
          no_return return = clash (sym return.1 ∙ is)
            where
              clash : TakeBack rental ≡ Rent customer rented → ⊥
              clash e = cc

          of_copy : rented ≡ copy → (found : Option ℕ) → rental_told answer ≡ found → or_held found held ≡ Some rental → Step held entry
          of_copy same None none e =
              inl (
                e,
                (
                  no_return,
                  λ other rent. clash (sym none ∙ ap rental_told (sym (reply_is (accepted_answer (rental_body other)) rent.3)) ∙ told_back other rent.1),
                ),
              )
            where
              clash : {n : ℕ} → None ≡ Some n → ⊥
              clash e = cc
          of_copy same (Some n) some e =
              let it = told_is answer rental (some ∙ e) in
              inr (customer, it.0, subst (λ x. entry.command.act ≡ Rent customer x) same is, replied ∙ ap (λ (a : Answer). Some a) it.1)

          go : (same : Bool) → (rented == copy) ≡ same → (if same then or_held (rental_told answer) held else held) ≡ Some rental → Step held entry
          go true is_same e = of_copy (equal_numbers rented copy is_same) (rental_told answer) refl e
          go false differ e = inl (e, (no_return, λ other rent. apart (sym differ ∙ equal_test rented copy (copy_is rent.0 (sym is ∙ rent.2)))))
            where
              copy_is : (c : ℕ) → Rent customer rented ≡ Rent c copy → rented ≡ copy
              copy_is c e = cc

              apart : false ≡ true → ⊥
              apart e = cc

      return_step : (n : ℕ) → entry.command.act ≡ TakeBack n → after_reply copy (TakeBack n) answer held ≡ Some rental → Step held entry
      return_step n is told = go (answer.status == 200 && is_held n held) refl told
        where
          no_rent : (other : ℕ) → IsRentOf copy other entry → ⊥
          no_rent other rent = clash (sym rent.2 ∙ is)
            where
              clash : Rent rent.0 copy ≡ TakeBack n → ⊥
              clash e = cc

          go : (back : Bool) → (answer.status == 200 && is_held n held) ≡ back → (if back then None else held) ≡ Some rental → Step held entry
          go true is_back e = absurd (clash e)
            where
              clash : ◌≡◌ {A = Option ℕ} None (Some rental) → ⊥
              clash e = cc
          go false not_back e = inl (e, (no_return, no_rent))
            where
              number_is : TakeBack rental ≡ TakeBack n → rental ≡ n
              number_is e = cc

              apart : false ≡ true → ⊥
              apart e = cc

              no_return : IsReturnOf rental entry → ⊥
              no_return return =
                  let same : rental ≡ n = number_is (sym return.1 ∙ is) in
                  let done : (answer.status == 200) ≡ true =
                  equal_test answer.status 200 (ap (λ (a : Answer). a.status) (sym (reply_is return.0 return.2)) ∙ return.3) in
                  let held_it : is_held n held ≡ true = ap (is_held n) e ∙ equal_test rental n same in
                  apart (sym not_back ∙ ap (λ b. b && is_held n held) done ∙ held_it)

      answered : (act : Act) → entry.command.act ≡ act → after_reply copy act answer held ≡ Some rental → Step held entry
      answered (Rent customer rented) is told = rent_step customer rented is told
      answered (TakeBack n) is told = return_step n is told
      answered (AddCustomer person) is told = other_act (AddCustomer person) is (λ c e. cc) (λ n e. cc) told
      answered (SetActive c active) is told = other_act (SetActive c active) is (λ c e. cc) (λ n e. cc) told
      answered (Pay c r amount) is told = other_act (Pay c r amount) is (λ c e. cc) (λ n e. cc) told
      answered (Import lot file) is told = other_act (Import lot file) is (λ c e. cc) (λ n e. cc) told
      answered (Dispatch to copies) is told = other_act (Dispatch to copies) is (λ c e. cc) (λ n e. cc) told
      answered (Receive source n missing) is told = other_act (Receive source n missing) is (λ c e. cc) (λ n e. cc) told
      answered (Scrap x) is told = other_act (Scrap x) is (λ c e. cc) (λ n e. cc) told

    step : after_entry copy held entry ≡ Some rental → Step held entry
    step told = go entry.reply refl told
      where
        go : (reply : Option Answer) → entry.reply ≡ reply → after_told copy entry.command.act reply held ≡ Some rental → Step held entry
        go None none told = unanswered none told
        go (Some answer) replied told = answered answer replied entry.command.act refl told

  from_held : (held : Option ℕ) (entries : List Entry) → fold (after_entry copy) held entries ≡ Some rental
      → ((held ≡ Some rental) × AllByRecursion (LeavesIt copy rental) entries) ⊎ IsLastRent copy rental entries
  from_held held [] told = inl (told, tt)
  from_held held (entry ∷ entries) told = elim (from_held (after_entry copy held entry) entries told) [
    | inr last ↦
        inr (record {
          front = entry ∷ last.front;
          rent = last.rent;
          behind = last.behind;
          is = ap (λ (more : List Entry). entry ∷ more) last.is;
          rented = last.rented;
          left = last.left;
        })
    | inl here ↦ elim (step held entry here.0) [
      | inl stays ↦ inl (stays.0, (stays.1, here.1))
      | inr rent ↦ inr (record { front = []; rent = entry; behind = entries; is = refl; rented = rent; left = here.1 })
    ]
  ]

pub last_rent : (copy rental : ℕ) (entries : List Entry) → rental_of copy entries ≡ Some rental → IsLastRent copy rental entries
last_rent copy rental entries told = elim (from_held copy rental None entries told) [ inl none ↦ absurd (clash none.0) | inr last ↦ last ]
  where
    clash : ◌≡◌ {A = Option ℕ} None (Some rental) → ⊥
    clash e = cc
