-- A history without its repeats.
use Rattle.shop_model.proofs.Common.{◌≡◌, inl, inr, [], ◌∷◌, true, refl, ap, cases_Bool, false≢true, Rules, Verdict, Again, Refused, Accepted, verdict}
use Rattle.shop_model.proofs.Common.{office_verdict, Request, Do, Office, if_accepted, office_done, Books, Caller, Counter, HeadOffice, shop_of, book_done}
use Rattle.shop_model.proofs.Common.{after_for, after, caller_in, reply_in, is_again, repeats, RepeatsChangeNothing}

again_leaves : {A : Type 0} (v : Verdict) (x y : A) → is_again v ≡ true → if_accepted v x y ≡ y
again_leaves (Again text) x y e = refl
again_leaves (Refused refusal) x y e = refl
again_leaves Accepted x y e = absurd (false≢true e)

repeat_leaves : (rules : Rules) (caller : Caller) (request : Request) (books : Books)
    → repeats rules caller request books ≡ true → after_for rules caller request books ≡ books
repeat_leaves rules (Counter b) (Do command) books e =
    again_leaves (verdict rules b books.catalogue (shop_of b books) command) (book_done rules b command books) books e
repeat_leaves rules HeadOffice (Office command) books e =
    rw (again_leaves (office_verdict rules books.catalogue command) (office_done command books.catalogue) books.catalogue e)
repeat_leaves rules caller request books e = absurd (false≢true e)

pub without_repeats : RepeatsChangeNothing
without_repeats rules look [] books = record { replies = refl; leaves = refl }
without_repeats rules look (event ∷ events) books =
    let caller = caller_in event books in
    elim (cases_Bool (repeats rules caller (event.request caller) books)) [
      | inl is ↦
          let same : after rules event books ≡ books = repeat_leaves rules caller (event.request caller) books is in
          let more = without_repeats rules look events books in
          record { replies = rw (is, same) more.replies; leaves = rw (is, same) more.leaves }
      | inr isnt ↦
          let more = without_repeats rules look events (after rules event books) in
          record { replies = rw isnt (ap (λ rest. (caller, reply_in rules look event books) ∷ rest) more.replies); leaves = rw isnt more.leaves }
    ]
