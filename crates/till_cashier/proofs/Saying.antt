-- The title of a rent, and whose debt is said after a return.
use Rattle.std.proofs.Common.{◌≡◌, ◌∙◌, ◌++◌, ℕ, Bool, false, Option, None, Some, IfSome, sym, ap, subst, refl, inl, inr}
use Rattle.std.specs.Prelude.{option_map}
use Rattle.shop_model.specs.Answers.{Answer}
use Rattle.shop_model.specs.Values.{Text, Act, AddCustomer, SetActive, Rent, TakeBack, Pay, Import, Dispatch, Receive, Scrap}
use Rattle.shop_types.specs.Seen.{seen_act}
use Rattle.shop_types.specs.declared.command.Act.{Act as Asked}
use Rattle.shop_types.specs.declared.command.Act.TheVariants as asked
use Rattle.till_client.specs.Replies.{seen_answer}
use Rattle.till_client.specs.declared.replies.Answer.{Answer as Read}
use Rattle.till_cashier.specs.Saying.{ended, IsTitleIn}
use Rattle.till_cashier.specs.Following.{SaysBalance, AddsBalance, AddsDebt, debtor_of}

-- a rent's line may have no title
pub untitled : (sheet : Text) (act : Act) → IsTitleIn sheet act None
untitled sheet (Rent customer copy) = tt
untitled sheet (Pay customer rental amount) = tt
untitled sheet (AddCustomer it) = tt
untitled sheet (SetActive customer active) = tt
untitled sheet (TakeBack rental) = tt
untitled sheet (Import lot file) = tt
untitled sheet (Dispatch to copies) = tt
untitled sheet (Receive source number missing) = tt
untitled sheet (Scrap copy) = tt

-- what a return's customer owes was added
pub balance_added :
    (json : Bool) (act : Asked) (rental : ℕ) (customer : Option ℕ) (who : ℕ) (answer : Option Read) (balance : Read) (line old new : Text)
    → json ≡ false → act ≡ asked.TakeBack rental → customer ≡ Some who → answer ≡ Some balance
    → SaysBalance who (seen_answer balance) line → new ≡ old ++ ended line
    → AddsBalance json (seen_act act) customer (option_map seen_answer answer) old new
balance_added json act rental customer who answer balance line old new plain back renter told says same =
    inr (plain, (rental, ap seen_act back), (who, renter, (seen_answer balance, ap (option_map seen_answer) told, (line, says, same))))

-- what holds of the reply, if there is one, holds of it as it is seen
pub seen_so : (P : Answer → Type 0) (o : Option Read) → IfSome o (λ read. P (seen_answer read)) → (it : Answer) → option_map seen_answer o ≡ Some it → P it
seen_so P (Some read) holds it same = let one : seen_answer read ≡ it = cc in subst P one holds
seen_so P None holds it same = absurd (let none : None ≡ Some it = same in cc)

-- The customer of a return is the one whose debt was asked for.
pub debt_of : (Owes : ℕ → Answer → Type 0) (json : Bool) (act : Act) (customer : Option ℕ) (balance : Option Answer) (answer : Answer) (old new : Text)
    → answer.status ≡ 200
    → ((it : Answer) → balance ≡ Some it → (debtor : ℕ) × (debtor_of act customer ≡ Some debtor) × Owes debtor it)
    → AddsBalance json act customer balance old new → AddsDebt Owes json act customer answer old new
debt_of Owes json act customer balance answer old new accepted asked (inl same) = inl same
debt_of Owes json act customer balance answer old new accepted asked (inr adds) =
    let back = adds.1 in
    let it = adds.2.2.0 in
    let owing = asked it adds.2.2.1 in
    let same : debtor_of act customer ≡ customer = subst (λ (a : Act). debtor_of a customer ≡ customer) (sym back.1) refl in
    let found : Some owing.0 ≡ Some adds.2.0 = sym owing.1 ∙ same ∙ adds.2.1 in
    let one : owing.0 ≡ adds.2.0 = cc in
    inr (
      adds.0,
      accepted,
      back,
      (
        adds.2.0,
        adds.2.1,
        (
          ended adds.2.2.2.0,
          (it, subst (λ (n : ℕ). Owes n it) one owing.2, (adds.2.2.2.0, adds.2.2.2.1, refl)),
          adds.2.2.2.2,
        ),
      ),
    )
