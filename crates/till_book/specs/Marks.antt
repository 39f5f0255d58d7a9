-- What the book's entries and replies mean to the tables beside the journal, one entry after another.
use Rattle.std.specs.Prelude.{◌≡◌, ℕ, ◌==◌, ◌&&◌, Bool, not, if◌then◌else◌, List, [], ◌∷◌, map, Option, Some, None}
use Rattle.std.specs.List.{flat_map, list_any}
use Rattle.std.specs.Option.{option_to_list}
use Rattle.std.specs.Str.{bytes_eq}
use Rattle.shop_model.specs.Rows.{numbered}
use Rattle.shop_model.specs.Refusals.{Problem, BadHead, Decision, TooLong, NoRoute, BadBody, KeyUsed, Full, MomentBack, problem_status}
use Rattle.shop_model.specs.Values.{Act, Rent, TakeBack}
use Rattle.shop_model.specs.Answers.{Answer, problem_text}
use Rattle.till_model.specs.Tills.{Entry}
use Rattle.till_model.specs.Register.{rental_told}

-- an accepted rent: the copy, the entry's number, the rental that its reply names, and the customer
pub record Rented : Type 0 where
  pub copy : ℕ
  pub number : ℕ
  pub rental : ℕ
  pub customer : ℕ

-- an accepted return: the rental, and the entry's number
pub record Returned : Type 0 where
  pub rental : ℕ
  pub number : ℕ

-- what an entry of that number and its reply add to the accepted rents
abbrev pub rents_told : ℕ → Act → Option Answer → List Rented
rents_told n (Rent customer copy) (Some answer) =
    map (λ (rental : ℕ). record { copy = copy; number = n; rental = rental; customer = customer }) (option_to_list (rental_told answer))
rents_told n act answer = []

-- what an entry of that number and its reply add to the accepted returns
abbrev pub returns_told : ℕ → Act → Option Answer → List Returned
returns_told n (TakeBack rental) (Some answer) = if answer.status == 200 then record { rental = rental; number = n } ∷ [] else []
returns_told n act answer = []

-- what all entries add
abbrev pub all_told : {A : Type 0} → (ℕ → Act → Option Answer → List A) → List Entry → List A
all_told tells entries = flat_map (λ (it : ℕ × Entry). tells it.0 it.1.command.act it.1.reply) (numbered entries)

abbrev pub rented_in : List Entry → List Rented
rented_in = all_told rents_told

abbrev pub returned_in : List Entry → List Returned
returned_in = all_told returns_told

-- ---- refusals

-- the answer is the reply to that problem, byte for byte
abbrev pub is_reply_to : Problem → Answer → Bool
is_reply_to problem answer = answer.status == problem_status problem && bytes_eq answer.body (problem_text problem)

-- The server looks for these before it looks at the moment, so an entry gets the same refusal each time it is sent. After `MomentBack` itself an entry never
-- acts.
abbrev pub final_problems : List Problem
final_problems = BadHead ∷ Decision TooLong ∷ Decision NoRoute ∷ Decision BadBody ∷ Decision KeyUsed ∷ Decision Full ∷ Decision MomentBack ∷ []

-- A refusal that isn't final: the entry may have acted before, or may act when it arrives late, and sending it once more may settle that.
abbrev pub is_unsure : Answer → Bool
is_unsure answer = not (answer.status == 200) && not (list_any (λ (problem : Problem). is_reply_to problem answer) final_problems)
