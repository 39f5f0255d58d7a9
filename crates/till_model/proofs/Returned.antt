-- A return of the rental that the register had took the copy back.
use Rattle.shop_types.proofs.Common.{◌≡◌, ◌≢◌, ◌∙◌, ◌<◌, ℕ, zero, suc, Bool, true, false, List, [], ◌∷◌, ◌++◌, length, Option, Some, None, refl, sym, ap, arith}
use Rattle.shop_types.proofs.Common.{slice_get, if◌then◌else◌, fold-append, Act, TakeBack, Answer, accepted_answer, equal_test}
use Rattle.std.specs.Prelude.{◌==◌, ◌&&◌}
use Rattle.std.proofs.lemmas.Option.{slice_get_within}
use Rattle.till_model.specs.Tills.{Entry}
use Rattle.till_model.specs.Register.{rental_body, is_held, after_told, after_entry, rental_of}
use Rattle.till_model.specs.RegisterLaws.{IsReturnOf, ReturnsTookBack}
use Rattle.till_model.proofs.LastRent.{last_rent}

at_seam : {A : Type 0} (xs ys : List A) (y : A) → slice_get (xs ++ y ∷ ys) (length xs) ≡ Some y
at_seam [] ys y = refl
at_seam (x ∷ xs) ys y = at_seam xs ys y

within_front : {A : Type 0} (xs ys : List A) (i : ℕ) → i < length xs → slice_get (xs ++ ys) i ≡ slice_get xs i
within_front [] ys i low = absurd (omega arith)
within_front (x ∷ xs) ys zero low = refl
within_front (x ∷ xs) ys (suc i) low = within_front xs ys i (omega arith)

-- after an accepted return the register lacks the rental that came back
gone_from : (copy rental : ℕ) (held : Option ℕ) (return : Entry) → IsReturnOf rental return → after_entry copy held return ≢ Some rental
gone_from copy rental held return is told =
    let answer = is.0 in
    let done : (answer.status == 200) ≡ true = equal_test answer.status 200 is.3 in
    let after : after_told copy (TakeBack rental) (Some answer) held ≡ Some rental = subst2 return.command.act return.reply is.1 is.2 told in
    go held (sym (ap (λ b. if b && is_held rental held then None else held) done) ∙ after)
  where
    subst2 : (act : Act) (reply : Option Answer) → act ≡ TakeBack rental → reply ≡ Some is.0
        → after_told copy act reply held ≡ Some rental → after_told copy (TakeBack rental) (Some is.0) held ≡ Some rental
    subst2 act reply same replied told = rw (same, replied) at told

    go : (held : Option ℕ) → (if true && is_held rental held then None else held) ≡ Some rental → ⊥
    go None e = let no : ◌≡◌ {A = Option ℕ} None (Some rental) = e in cc
    go (Some n) e = with (n == rental) refl e
      where
        with : (same : Bool) → (n == rental) ≡ same → (if same then None else Some n) ≡ Some rental → ⊥
        with true is e = let no : ◌≡◌ {A = Option ℕ} None (Some rental) = e in cc
        with false is e = let one : n ≡ rental = cc in let no : false ≡ true = sym is ∙ equal_test n rental one in cc

pub took_back : ReturnsTookBack
took_back copy rental before front behind return told long became returned =
    let last = last_rent copy rental before told in
    let place = length last.front in
    let found : slice_get before place ≡ Some last.rent = ap (λ (l : List Entry). slice_get l place) last.is ∙ at_seam last.front last.behind last.rent in
    let later = became place last.rent found in
    let low : place < length before = slice_get_within before place last.rent found in
    let here : slice_get front place ≡ Some later.0 = sym (within_front front (return ∷ behind) place (omega arith)) ∙ later.1 in
    record {
      place = place;
      rent = later.0;
      found = here;
      rented = (last.rented.0, last.rented.1, ap (λ it. it.act) later.2 ∙ last.rented.2, later.3 (accepted_answer (rental_body rental)) last.rented.3);
      gone = λ e. gone_from copy rental (rental_of copy front) return returned (sym (fold-append (after_entry copy) None front (return ∷ [])) ∙ e);
    }
