-- The meaning of a mark for a request and its reply.
use Rattle.sql_rows.proofs.Common.{◌≡◌, ◌≢◌, ◌∙◌, ◌==◌, ◌&&◌, ℕ, Bool, not, true, false, true≢false, List, [], ◌∷◌, map, Option, Some, None, option_to_list}
use Rattle.sql_rows.proofs.Common.{refl, sym, ap, subst, if◌then◌else◌}
use Rattle.shop_model.specs.Values.{Act, AddCustomer, SetActive, Rent, TakeBack, Pay, Import, Dispatch, Receive, Scrap, Command}
use Rattle.shop_model.specs.Answers.{Answer}
use Rattle.shop_model.proofs.RowLemmas.{equal_test}
use Rattle.till_client.proofs.SoleMessages.{one_command}
use Rattle.till_model.specs.Register.{rental_told}
use Rattle.till_book.specs.Saying.{Says}
use Rattle.std.specs.List.{list_any}
use Rattle.shop_model.specs.Refusals.{Problem}
use Rattle.till_book.specs.Marks.{Rented, rents_told, returns_told, is_reply_to, final_problems, is_unsure}
use Rattle.till_book.specs.Marking.{AreMarked, IsMarkOf}
use Rattle.till_book.specs.declared.marks.EntryMark.{EntryMark}
use Rattle.till_book.specs.declared.marks.EntryMark.TheVariants as mark
use Rattle.till_book.proofs.Marked.{rents_refused, returns_refused}

abbrev pub rent_rows : ℕ → ℕ → ℕ → Option ℕ → List Rented
rent_rows n customer copy told = map (λ (rental : ℕ). record { copy = copy; number = n; rental = rental; customer = customer }) (option_to_list told)

pub rent_told : (customer copy rental : ℕ) (answer : Answer) → Some rental ≡ rental_told answer
    → AreMarked (Rent customer copy) answer (mark.Rent copy rental customer)
rent_told customer copy rental answer is = record { rents = λ n. ap (rent_rows n customer copy) is; returns = λ n. refl; sure = λ n. refl }

pub rent_untold : (customer copy : ℕ) (answer : Answer) → None ≡ rental_told answer → AreMarked (Rent customer copy) answer mark.Nothing
rent_untold customer copy answer is = record { rents = λ n. ap (rent_rows n customer copy) is; returns = λ n. refl; sure = λ n. refl }

pub return_told : (rental : ℕ) (answer : Answer) → answer.status ≡ 200 → AreMarked (TakeBack rental) answer (mark.Return rental)
return_told rental answer done = record { rents = λ n. refl; returns = λ n. rw (equal_test answer.status 200 done) refl; sure = λ n. refl }

says_one : (request : List ℕ) (one two : Command) → Says request one → Says request two → one ≡ two
says_one request one two first second = one_command request first.0 second.0 one two first.1 second.1

pub mark_of : (request : List ℕ) (answer : Answer) (command : Command) (it : EntryMark)
    → Says request command → AreMarked command.act answer it → IsMarkOf request answer false it
mark_of request answer command it says told = record {
  rents = λ other also n. told.rents n ∙ ap (λ (c : Command). rents_told n c.act (Some answer)) (says_one request command other says also);
  returns = λ other also n. told.returns n ∙ ap (λ (c : Command). returns_told n c.act (Some answer)) (says_one request command other says also);
  unsure = told.sure;
}

pub no_mark : (request : List ℕ) (answer : Answer) → ((command : Command) → ¬ Says request command) → IsMarkOf request answer false mark.Nothing
no_mark request answer none = record {
  rents = λ other also n. absurd (none other also);
  returns = λ other also n. absurd (none other also);
  unsure = λ n. refl;
}

pub refused_mark : (request : List ℕ) (answer : Answer) → answer.status ≢ 200 → IsMarkOf request answer false mark.Nothing
refused_mark request answer other = record {
  rents = λ command says n. sym (rents_refused n command.act answer other);
  returns = λ command says n. sym (returns_refused n command.act answer other);
  unsure = λ n. refl;
}

not_done : (answer : Answer) → is_unsure answer ≡ true → answer.status ≢ 200
not_done answer unsure done =
    true≢false
    (sym unsure ∙ ap (λ b. not b && not (list_any (λ (problem : Problem). is_reply_to problem answer) final_problems)) (equal_test answer.status 200 done))

pub unsure_mark : (request : List ℕ) (answer : Answer) (doubt : Bool) → doubt ≡ is_unsure answer
    → doubt ≡ true → IsMarkOf request answer (is_unsure answer) mark.Unsure
unsure_mark request answer doubt is doubtful =
    let unsure : is_unsure answer ≡ true = sym is ∙ doubtful in
    let other = not_done answer unsure in
    record {
      rents = λ command says n. sym (rents_refused n command.act answer other);
      returns = λ command says n. sym (returns_refused n command.act answer other);
      unsure = λ n. ap (λ (b : Bool). if b then n ∷ [] else []) (sym unsure);
    }

pub sure_mark : (request : List ℕ) (answer : Answer) (doubt : Bool) (it : EntryMark) → doubt ≡ is_unsure answer
    → doubt ≡ false → IsMarkOf request answer false it → IsMarkOf request answer (is_unsure answer) it
sure_mark request answer doubt it is no_doubt mark =
    let sure : is_unsure answer ≡ false = sym is ∙ no_doubt in
    subst (λ (b : Bool). IsMarkOf request answer b it) (sym sure) mark

pub mark_at : (request : List ℕ) (status : ℕ) (body : List ℕ) (command : Command) (it : EntryMark)
    → status ≡ 200 → Says request command → AreMarked command.act (record { status = 200; body = body }) it
    → IsMarkOf request (record { status = status; body = body }) false it
mark_at request status body command it done says told =
    subst (λ (s : ℕ). IsMarkOf request (record { status = s; body = body }) false it)
    (sym done) (mark_of request (record { status = 200; body = body }) command it says told)
