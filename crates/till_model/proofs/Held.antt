-- If a copy's last accepted rent wasn't returned, the register has that rental.
use Rattle.shop_types.proofs.Common.{◌≡◌, ◌∙◌, ℕ, Bool, true, false, List, [], ◌∷◌, Option, Some, None, refl, sym, ap, if◌then◌else◌, AllByRecursion}
use Rattle.shop_types.proofs.Common.{fold-append, Act, AddCustomer, SetActive, Rent, TakeBack, Pay, Import, Dispatch, Receive, Scrap, Answer, accepted_answer}
use Rattle.shop_types.proofs.Common.{equal_test}
use Rattle.std.specs.Prelude.{◌==◌, ◌&&◌}
use Rattle.std.specs.List.{fold}
use Rattle.till_model.specs.Tills.{Entry}
use Rattle.till_model.specs.Register.{rental_body, rental_told, or_held, after_reply, after_told, after_entry, rental_of}
use Rattle.till_model.specs.RegisterLaws.{IsRentOf, LeavesIt, IsLastRent, RegisterIsTheLastRent}
use Rattle.till_model.proofs.Bodies.{told_back, told_is, equal_numbers}
use Rattle.till_model.proofs.LastRent.{last_rent}

module _ (copy rental : ℕ) (entry : Entry) (leaves : LeavesIt copy rental entry) where
  rent_leaves : (customer rented : ℕ) (answer : Answer) → entry.command.act ≡ Rent customer rented
      → entry.reply ≡ Some answer → after_reply copy (Rent customer rented) answer (Some rental) ≡ Some rental
  rent_leaves customer rented answer is replied = go (rented == copy) refl
    where
      of_copy : rented ≡ copy → (found : Option ℕ) → rental_told answer ≡ found → or_held found (Some rental) ≡ Some rental
      of_copy same None none = refl
      of_copy same (Some n) some =
          let it = told_is answer n some in
          absurd (leaves.1 n (customer, it.0, is ∙ ap (Rent customer) same, replied ∙ ap (λ (a : Answer). Some a) it.1))

      go : (same : Bool) → (rented == copy) ≡ same → (if same then or_held (rental_told answer) (Some rental) else Some rental) ≡ Some rental
      go true is_same = of_copy (equal_numbers rented copy is_same) (rental_told answer) refl
      go false differ = refl

  return_leaves : (n : ℕ) (answer : Answer) → entry.command.act ≡ TakeBack n
      → entry.reply ≡ Some answer → after_reply copy (TakeBack n) answer (Some rental) ≡ Some rental
  return_leaves n answer is replied = go (answer.status == 200) (rental == n) refl refl
    where
      go : (done same : Bool) → (answer.status == 200) ≡ done → (rental == n) ≡ same → (if done && same then None else Some rental) ≡ Some rental
      go false same is_done is_same = refl
      go true false is_done is_same = refl
      go true true is_done is_same =
          absurd (leaves.0 (answer, is ∙ ap TakeBack (sym (equal_numbers rental n is_same)), replied, equal_numbers answer.status 200 is_done))

  answered : (act : Act) (answer : Answer) → entry.command.act ≡ act → entry.reply ≡ Some answer → after_reply copy act answer (Some rental) ≡ Some rental
  answered (Rent customer rented) answer is replied = rent_leaves customer rented answer is replied
  answered (TakeBack n) answer is replied = return_leaves n answer is replied
  answered (AddCustomer person) answer is replied = refl
  answered (SetActive c active) answer is replied = refl
  answered (Pay c r amount) answer is replied = refl
  answered (Import lot file) answer is replied = refl
  answered (Dispatch to copies) answer is replied = refl
  answered (Receive source n missing) answer is replied = refl
  answered (Scrap x) answer is replied = refl

  left_alone : after_entry copy (Some rental) entry ≡ Some rental
  left_alone = go entry.reply refl
    where
      go : (reply : Option Answer) → entry.reply ≡ reply → after_told copy entry.command.act reply (Some rental) ≡ Some rental
      go None none = refl
      go (Some answer) replied = answered entry.command.act answer refl replied

all_left : (copy rental : ℕ) (entries : List Entry) → AllByRecursion (LeavesIt copy rental) entries
    → fold (after_entry copy) (Some rental) entries ≡ Some rental
all_left copy rental [] left = refl
all_left copy rental (entry ∷ entries) left =
    ap (λ (held : Option ℕ). fold (after_entry copy) held entries) (left_alone copy rental entry left.0) ∙ all_left copy rental entries left.1

rented_now : (copy rental : ℕ) (entry : Entry) (held : Option ℕ) → IsRentOf copy rental entry → after_entry copy held entry ≡ Some rental
rented_now copy rental entry held rent = go entry.command.act entry.reply rent.2 rent.3
  where
    go : (act : Act) (reply : Option Answer) → act ≡ Rent rent.0 copy
        → reply ≡ Some (accepted_answer (rental_body rental)) → after_told copy act reply held ≡ Some rental
    go act reply same replied = rw (same, replied, equal_test copy copy refl, told_back rental rent.1) refl

held_by_last : (copy rental : ℕ) (entries : List Entry) → IsLastRent copy rental entries → rental_of copy entries ≡ Some rental
held_by_last copy rental entries last =
    ap (rental_of copy) last.is
    ∙ fold-append (after_entry copy) None last.front (last.rent ∷ last.behind)
    ∙ ap (λ (held : Option ℕ). fold (after_entry copy) held last.behind) (rented_now copy rental last.rent (rental_of copy last.front) last.rented)
    ∙ all_left copy rental last.behind last.left

pub register_is : RegisterIsTheLastRent
register_is copy rental entries = (last_rent copy rental entries, held_by_last copy rental entries)
