-- What is printed below the outcome of an act: a debt, what had waited, and the slip.
use Rattle.std.specs.Prelude.{◌≡◌, ◌⊎◌, ℕ, Bool, true, false, ◌++◌, Option, None, Some, codes}
use Rattle.shop_model.specs.Answers.{Answer}
use Rattle.shop_model.specs.Calendar.{Moment}
use Rattle.shop_model.specs.Values.{Text, Act, AddCustomer, SetActive, Rent, TakeBack, Pay, Import, Dispatch, Receive, Scrap}
use Rattle.till_shows.specs.Looks.{balance_in}
use Rattle.till_cashier.specs.Saying.{ended, status_of, IsCalled, IsTitleIn, TellsOutcome}

-- the line says what that customer owes by that answer
abbrev pub SaysBalance : ℕ → Answer → Text → Type 0
SaysBalance customer balance line = (name : Text) × IsCalled customer name × (balance_in name balance.body ≡ Some line)

-- the text says what that customer owes, by some answer to that question
abbrev pub SaysDebt : (ℕ → Answer → Type 0) → ℕ → Text → Type 0
SaysDebt Owes customer text = (balance : Answer) × Owes customer balance × ((line : Text) × SaysBalance customer balance line × (text ≡ ended line))

-- What that customer owes was added to the text, by that answer, or nothing was. After another act than a return nothing was.
abbrev pub AddsBalance : Bool → Act → Option ℕ → Option Answer → Text → Text → Type 0
AddsBalance json act customer answer old new =
    (new ≡ old)
    ⊎ ((json ≡ false) × ((rental : ℕ) × (act ≡ TakeBack rental))
    × ((who : ℕ) × (customer ≡ Some who) × ((balance : Answer) × (answer ≡ Some balance)
    × ((line : Text) × SaysBalance who balance line × (new ≡ old ++ ended line)))))

-- What the customer of an accepted return owes was added to the text, or nothing was.
abbrev pub AddsDebt : (ℕ → Answer → Type 0) → Bool → Act → Option ℕ → Answer → Text → Text → Type 0
AddsDebt Owes json act customer answer old new =
    (new ≡ old)
    ⊎ ((json ≡ false) × (answer.status ≡ 200) × ((rental : ℕ) × (act ≡ TakeBack rental))
    × ((who : ℕ) × (customer ≡ Some who) × ((debt : Text) × SaysDebt Owes who debt × (new ≡ old ++ debt))))

-- whose debt is asked for after an act: a rent's or a payment's customer, and a return's renter
abbrev pub debtor_of : Act → Option ℕ → Option ℕ
debtor_of (Rent customer copy) renter = Some customer
debtor_of (Pay customer rental amount) renter = Some customer
debtor_of (TakeBack rental) renter = renter
debtor_of (AddCustomer it) renter = None
debtor_of (SetActive customer active) renter = None
debtor_of (Import lot file) renter = None
debtor_of (Dispatch to copies) renter = None
debtor_of (Receive source number missing) renter = None
debtor_of (Scrap copy) renter = None

-- The outcomes of the entries that had waited were added to the text, below a line that says so, or nothing was.
abbrev pub AddsWaited : Text → Text → Type 0
AddsWaited old new = (new ≡ old) ⊎ ((table : Text) × (new ≡ (old ++ ended (codes "What had waited was sent first:")) ++ table))

-- That a slip wasn't written was added to the text, or nothing was.
abbrev pub AddsUnwritten : Text → Text → Type 0
AddsUnwritten old new = (new ≡ old) ⊎ (new ≡ old ++ ended (codes "The slip wasn't written."))

-- These two were added to the text. With `--json` nothing was.
abbrev pub AddsRest : Bool → Text → Text → Type 0
AddsRest true old new = new ≡ old
AddsRest false old new = (mid : Text) × AddsWaited old mid × AddsUnwritten mid new

-- What is printed of an act that got that answer, and the program's status. First comes the outcome. Then what the customer of a return owes, if that was said.
-- Then come the outcomes of the entries that had waited, and that a slip wasn't written.
pub record SaysAct (Owes : ℕ → Answer → Type 0) (json : Bool) (sheet : Text) (act : Act) (customer : Option ℕ) (answer : Answer) (text : Text) (status : ℕ) :
    Type 0 where
  pub title : Option Text
  pub due : Option Moment
  pub known : IsTitleIn sheet act title
  pub outcome : Text
  pub says : TellsOutcome json act title due answer outcome
  pub owing : Text
  pub owes : AddsDebt Owes json act customer answer outcome owing
  pub rest : AddsRest json owing text
  pub done : status ≡ status_of answer.status
