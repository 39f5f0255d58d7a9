-- The register is the last accepted rent of a copy, unless a later entry is an accepted return of its rental.
use Rattle.sql_rows.proofs.Common.{◌≡◌, ◌≢◌, ◌∙◌, ◌+◌, ◌<◌, ◌≤◌, ◌==◌, ◌&&◌, ◌||◌, ℕ, zero, suc, Bool, true, false, List, [], ◌∷◌, ◌++◌, map, filter, length}
use Rattle.sql_rows.proofs.Common.{Option, Some, None, option_map, refl, sym, ap, subst, arith, inl, inr, cases_Bool, cond, ⊤, AllByRecursion, all-append}
use Rattle.sql_rows.proofs.Common.{all-filter, flat_map, option_to_list, nat_tests, if◌then◌else◌}
use Rattle.std.specs.Prelude.{nat_lt}
use Rattle.std.specs.List.{fold}
use Rattle.shop_model.specs.Rows.{numbered_from}
use Rattle.shop_model.specs.Values.{Act, AddCustomer, SetActive, Rent, TakeBack, Pay, Import, Dispatch, Receive, Scrap}
use Rattle.shop_model.specs.Answers.{Answer}
use Rattle.shop_model.proofs.RowLemmas.{same_if, differ_if, equal_test, differ_test, turned}
use Rattle.till_model.specs.Tills.{Entry}
use Rattle.till_model.specs.Register.{rental_told, is_held, or_held, after_told, after_entry, rental_of}
use Rattle.till_book.specs.Marks.{Rented, Returned, rents_told, returns_told, rented_in, returned_in}
use Rattle.till_book.specs.Held.{last_or, is_returned, unless_returned, is_of_copy, held_in}

abbrev pub rents_from : ℕ → List Entry → List Rented
rents_from k entries = flat_map (λ (it : ℕ × Entry). rents_told it.0 it.1.command.act it.1.reply) (numbered_from k entries)

abbrev returns_from : ℕ → List Entry → List Returned
returns_from k entries = flat_map (λ (it : ℕ × Entry). returns_told it.0 it.1.command.act it.1.reply) (numbered_from k entries)

-- ---- numbers

abbrev pub IsFrom : ℕ → Rented → Type 0
IsFrom k rent = k ≤ rent.number

told_from : (n k : ℕ) (act : Act) (reply : Option Answer) → k ≤ n → AllByRecursion (IsFrom k) (rents_told n act reply)
told_from n k (Rent customer copy) None low = tt
told_from n k (Rent customer copy) (Some answer) low = go (rental_told answer)
  where
    go : (told : Option ℕ)
        → AllByRecursion (IsFrom k)
        (map (λ (rental : ℕ). let it : Rented = record { copy = copy; number = n; rental = rental; customer = customer } in it) (option_to_list told))
    go None = tt
    go (Some rental) = (low, tt)
told_from n k act None low = tt
told_from n k act (Some answer) low = tt

pub rents_rise : (j k : ℕ) (entries : List Entry) → j ≤ k → AllByRecursion (IsFrom j) (rents_from k entries)
rents_rise j k [] low = tt
rents_rise j k (entry ∷ entries) low =
    all-append (IsFrom j) (rents_told k entry.command.act entry.reply) (rents_from (k + 1) entries)
    (told_from k j entry.command.act entry.reply low) (rents_rise j (k + 1) entries (omega (arith, low)))

-- ---- a return more

abbrev IfSo : (Rented → Type 0) → Option Rented → Type 0
IfSo Is None = ⊤
IfSo Is (Some rent) = Is rent

last_is : (Is : Rented → Type 0) (other : Option Rented) (rents : List Rented) → IfSo Is other → AllByRecursion Is rents → IfSo Is (last_or other rents)
last_is Is other [] first all = first
last_is Is other (rent ∷ rents) first all = last_is Is (Some rent) rents all.0 all.1

-- the return doesn't take back this rent
Spares : Returned → Rented → Type 0
Spares it rent = (it.rental == rent.rental && nat_lt rent.number it.number) ≡ false

one_more : (it : Returned) (returns : List Returned) (o : Option Rented) → IfSo (Spares it) o → unless_returned (it ∷ returns) o ≡ unless_returned returns o
unfolding Spares
one_more it returns None spared = refl
one_more it returns (Some rent) spared = ap (λ (b : Bool). if b || is_returned returns rent then None else Some rent) spared

spares_later : (it : Returned) (rent : Rented) → it.number ≤ rent.number → Spares it rent
unfolding Spares
spares_later it rent late = go (it.rental == rent.rental) (nat_lt rent.number it.number) (not_less rent.number it.number late)
  where
    not_less : (m n : ℕ) → n ≤ m → nat_lt m n ≡ false
    not_less m n h = grind (arith, nat_tests)

    go : (a b : Bool) → b ≡ false → (a && b) ≡ false
    go true b is = is
    go false b is = refl

spares_other : (it : Returned) (rent : Rented) → (it.rental == rent.rental) ≡ false → Spares it rent
unfolding Spares
spares_other it rent differ = ap (λ (b : Bool). b && nat_lt rent.number it.number) differ

takes : (it : Returned) (returns : List Returned) (rent : Rented) → (it.rental == rent.rental) ≡ true
    → rent.number < it.number → unless_returned (it ∷ returns) (Some rent) ≡ None
takes it returns rent same before =
    ap (λ (b : Bool). if (b && nat_lt rent.number it.number) || is_returned returns rent then None else Some rent) same
    ∙ ap (λ (b : Bool). if b || is_returned returns rent then None else Some rent) (less rent.number it.number before)
  where
    less : (m n : ℕ) → m < n → nat_lt m n ≡ true
    less m n h = grind (arith, nat_tests)

-- ---- one entry after another

module _ (copy : ℕ) where
  abbrev the_rental : Option Rented → Option ℕ
  the_rental = option_map (λ (rent : Rented). rent.rental)

  abbrev mine : List Rented → List Rented
  mine = filter (is_of_copy copy)

  abbrev IsBefore : ℕ → Option Rented → Type 0
  IsBefore k = IfSo (λ rent. rent.number < k)

  later : (k : ℕ) (held : Option Rented) → IsBefore k held → IsBefore (k + 1) held
  later k None before = tt
  later k (Some rent) before = omega (arith, before)

  -- from the number k on, with the rent `held` before it, the register and the rents with their returns agree
  abbrev Stands : ℕ → Option Rented → List Entry → Type 0
  Stands k held entries =
      fold (after_entry copy) (the_rental held) entries ≡ the_rental (unless_returned (returns_from k entries) (last_or held (mine (rents_from k entries))))

  module _ (k : ℕ) (entries : List Entry) (more : (held : Option Rented) → IsBefore (k + 1) held → Stands (k + 1) held entries) where
    abbrev rents : List Rented
    rents = rents_from (k + 1) entries

    abbrev returns : List Returned
    returns = returns_from (k + 1) entries

    -- a rent
    module _ (customer rented : ℕ) (held : Option Rented) (before : IsBefore k held) where
      abbrev row : ℕ → Rented
      row rental = record { copy = rented; number = k; rental = rental; customer = customer }

      rent_step : (told : Option ℕ) (is : Bool) → (rented == copy) ≡ is
          → fold (after_entry copy) (if is then or_held told (the_rental held) else the_rental held) entries
          ≡ the_rental (unless_returned returns (last_or held (mine (map row (option_to_list told) ++ rents))))
      rent_step None true e = more held (later k held before)
      rent_step None false e = more held (later k held before)
      rent_step (Some rental) true e =
          more (Some (row rental)) (omega arith)
          ∙ ap (λ (b : Bool). the_rental (unless_returned returns (last_or held (cond b (row rental ∷ mine rents) (mine rents))))) (sym e)
      rent_step (Some rental) false e =
          more held (later k held before)
          ∙ ap (λ (b : Bool). the_rental (unless_returned returns (last_or held (cond b (row rental ∷ mine rents) (mine rents))))) (sym e)

    -- a return, accepted
    module _ (rental : ℕ) where
      abbrev back : Returned
      back = record { rental = rental; number = k }

      -- the later rents aren't its own
      spared : (other : Option Rented) → IfSo (Spares back) other → (rows : List Rented) → AllByRecursion (IsFrom (k + 1)) rows
          → unless_returned (back ∷ returns) (last_or other rows) ≡ unless_returned returns (last_or other rows)
      spared other first rows all =
          one_more back returns (last_or other rows) (last_is (Spares back) other rows first (weaker rows all))
        where
          weaker : (rows : List Rented) → AllByRecursion (IsFrom (k + 1)) rows → AllByRecursion (Spares back) rows
          weaker [] all = tt
          weaker (row ∷ rows) all = (spares_later back row (omega (arith, all.0)), weaker rows all.1)

      all_later : AllByRecursion (IsFrom (k + 1)) (mine rents)
      all_later = all-filter (IsFrom (k + 1)) (is_of_copy copy) rents (rents_rise (k + 1) (k + 1) entries (omega arith))

      -- the return takes back this rent
      taken : (rent : Rented) → rent.number < k → (rental == rent.rental) ≡ true → (rows : List Rented) → AllByRecursion (IsFrom (k + 1)) rows
          → unless_returned returns (last_or None rows) ≡ unless_returned (back ∷ returns) (last_or (Some rent) rows)
      taken rent before same [] all = sym (takes back returns rent same before)
      taken rent before same (row ∷ rows) all = sym (spared (Some row) (spares_later back row (omega (arith, all.0))) rows all.1)

      return_step : (held : Option Rented) → IsBefore k held → (done : Bool)
          → fold (after_entry copy) (if done && is_held rental (the_rental held) then None else the_rental held) entries
          ≡ the_rental (unless_returned ((if done then back ∷ [] else []) ++ returns) (last_or held (mine rents)))
      return_step held before false = more held (later k held before)
      return_step None before true = more None tt ∙ ap the_rental (sym (spared None tt (mine rents) all_later))
      return_step (Some rent) before true = go (rent.rental == rental) refl
        where
          go : (same : Bool) → (rent.rental == rental) ≡ same
              → fold (after_entry copy) (if same then None else Some rent.rental) entries
              ≡ the_rental (unless_returned (back ∷ returns) (last_or (Some rent) (mine rents)))
          go true is = more None tt ∙ ap the_rental (taken rent before (turned rental rent.rental ∙ is) (mine rents) all_later)
          go false isnt =
              more (Some rent) (later k (Some rent) before)
              ∙ ap the_rental (sym (spared (Some rent) (spares_other back rent (turned rental rent.rental ∙ isnt)) (mine rents) all_later))

    step : (held : Option Rented) → IsBefore k held → (act : Act) (reply : Option Answer)
        → fold (after_entry copy) (after_told copy act reply (the_rental held)) entries
        ≡ the_rental (unless_returned (returns_told k act reply ++ returns) (last_or held (mine (rents_told k act reply ++ rents))))
    step held before (Rent customer rented) None = more held (later k held before)
    step held before (Rent customer rented) (Some answer) = rent_step customer rented held before (rental_told answer) (rented == copy) refl
    step held before (TakeBack rental) None = more held (later k held before)
    step held before (TakeBack rental) (Some answer) = return_step rental held before (answer.status == 200)
    step held before act None = more held (later k held before)
    step held before act (Some answer) = more held (later k held before)

  stands : (k : ℕ) (held : Option Rented) (entries : List Entry) → IsBefore k held → Stands k held entries
  stands k None [] before = refl
  stands k (Some rent) [] before = refl
  stands k held (entry ∷ entries) before = step k entries (λ other earlier. stands (k + 1) other entries earlier) held before entry.command.act entry.reply

pub register_by_rents : (copy : ℕ) (entries : List Entry) → rental_of copy entries ≡ option_map (λ (rent : Rented). rent.rental) (held_in copy entries)
register_by_rents copy entries = stands copy 1 None entries tt
