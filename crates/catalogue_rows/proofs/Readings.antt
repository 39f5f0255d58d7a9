-- Lemmas about what a read found.
use Rattle.shop_schema.proofs.Common.{◌≡◌, Ok, Err, Result, refl, sym, subst, IsOk, IfOk, MutBor, Ghosts, Held, DoesWithin, within_err, within_of, within_when}
use Rattle.shop_schema.proofs.Common.{OfficeAct, Books}
use Rattle.sql_rows.specs.Calls.{DoesInside}
use Rattle.shop_ledger.specs.Calls.{Finds}
use Rattle.catalogue_core.specs.declared.shared.SharedRows.{SharedRows}
use Rattle.catalogue_core.specs.Shares.{ActShares}
use Rattle.catalogue_rows.specs.Found.{FindsFor}

module _ {S F : Type 0} {g : Ghosts S} {a b : MutBor (Held S)} {was act : OfficeAct} where
  -- what was found for an act is found for an equal act
  pub of_act : {s : Result SharedRows F} → was ≡ act → DoesWithin g a b s (FindsFor act) → DoesWithin g a b s (FindsFor was)
  of_act {s} is = subst (λ (it : OfficeAct). DoesWithin g a b s (FindsFor it)) (sym is)

  -- a call found all that an act's rows have
  pub found_of : {X E : Type 0} {r : Result X E} (f : SharedRows → X) (Says : X → Books → Type 0) (s : Result SharedRows F) → was ≡ act
      → ((rows : SharedRows) (books : Books) → Says (f rows) books → ActShares books.catalogue act rows) → IfOk s (λ rows. r ≡ Ok (f rows))
      → DoesInside g a b r (λ it. Finds (Says it)) → DoesWithin g a b s (FindsFor was)
  found_of {X} {E} f Says (Ok rows) is_act more is one = of_act is_act (record {
    inside = within_when (within_of one.inside) (λ _. subst (λ (it : Result X E). IsOk it) (sym is) refl);
    says = λ clean books holds held.
        let found = (subst (λ (it : Result X E). DoesInside g a b it (λ it. Finds (Says it))) is one).says clean books holds held in
        (found.0, more rows books found.1);
  })
  found_of f Says (Err e) is_act more is one = record { inside = within_err (within_of one.inside) refl; says = λ clean. tt }
