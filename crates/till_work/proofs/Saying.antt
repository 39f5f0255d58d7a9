-- What the entries of a book say, and the last of them.
use Rattle.std.proofs.Common.{◌≡◌, ◌∙◌, ℕ, zero, suc, ◌+◌, ◌-◌, ◌<◌, ◌^◌, List, [], ◌∷◌, ◌++◌, length, Some, None, Option, refl, sym, subst, ap, arith}
use Rattle.std.specs.Prelude.{slice_get}
use Rattle.shop_model.specs.Values.{Text, Command}
use Rattle.shop_model.proofs.Resends.{same_none}
use Rattle.till_model.specs.Numbered.{key_of, IsAfterLast}
use Rattle.till_model.proofs.Numbered.{numbered_more}
use Rattle.till_client.proofs.SoleMessages.{one_command}
use Rattle.till_book.specs.Journal.{Journal, with_entry}
use Rattle.till_book.specs.Steps.{IsNext}
use Rattle.till_book.specs.Saying.{Says, Say}
use Rattle.till_book.proofs.Saids.{as_long, said_at}
use Rattle.till_work.specs.Entering.{IsTillsBook, IsLast}

-- entries say no other commands
pub say_one : (entries : List (List ℕ)) (one two : List Command) → Say entries one → Say entries two → one ≡ two
say_one [] [] [] first second = refl
say_one [] [] (d ∷ ds) first second = absurd second
say_one [] (c ∷ cs) two first second = absurd first
say_one (b ∷ bs) [] two first second = absurd first
say_one (b ∷ bs) (c ∷ cs) [] first second = absurd second
say_one (b ∷ bs) (c ∷ cs) (d ∷ ds) first second =
    let same = one_command b first.0.0 second.0.0 c d first.0.1 second.0.1 in
    λ i. same i ∷ say_one bs cs ds first.1 second.1 i

pub say_more : (entries : List (List ℕ)) (commands : List Command) (bytes : List ℕ) (command : Command) → Say entries commands → Says bytes command
    → Say (entries ++ bytes ∷ []) (commands ++ command ∷ [])
say_more [] [] bytes command say says = (says, tt)
say_more [] (c ∷ cs) bytes command say says = absurd say
say_more (b ∷ bs) [] bytes command say says = absurd say
say_more (b ∷ bs) (c ∷ cs) bytes command say says = (say.0, say_more bs cs bytes command say.1 says)

-- ---- the last entry

-- what is looked for in the place of the last
abbrev pub IsAt : ℕ → Option (List ℕ) → List (List ℕ) → Type 0
IsAt n it entries = (i : ℕ) → n - 1 ≡ i + 1 → it ≡ slice_get entries i

some_at : (entries : List (List ℕ)) (i : ℕ) → i < length entries → (bytes : List ℕ) × (slice_get entries i ≡ Some bytes)
some_at [] i low = absurd (omega arith)
some_at (b ∷ bs) zero low = (b, refl)
some_at (b ∷ bs) (suc i) low = some_at bs i (omega arith)

pub none_last : (n : ℕ) (journal : Journal) (it : Option (List ℕ)) → 1 < n → IsNext n journal → IsAt n it journal.entries → it ≡ None → ⊥
none_last n journal it low next at none =
    let found = some_at journal.entries (n - 2) (omega arith) in
    same_none found.0 (sym none ∙ at (n - 2) (omega arith) ∙ found.1)

-- the command of the last entry
pub last_said : (n : ℕ) (journal : Journal) (commands : List Command) (it : Option (List ℕ)) (bytes : List ℕ)
    → 1 < n → IsNext n journal → Say journal.entries commands
    → IsAt n it journal.entries → it ≡ Some bytes → (command : Command) × (slice_get commands (n - 2) ≡ Some command) × Says bytes command
last_said n journal commands it bytes low next say at is = said_at journal.entries commands (n - 2) bytes say (sym (at (n - 2) (omega arith)) ∙ is)

pub is_last : (n : ℕ) (journal : Journal) (commands : List Command) (it : Option (List ℕ)) (bytes : List ℕ) (command : Command)
    → 1 < n → IsNext n journal → Say journal.entries commands
    → IsAt n it journal.entries → it ≡ Some bytes → Says bytes command → IsLast (Some command.moment) commands
is_last n journal commands it bytes command low next say at is says =
    let found = last_said n journal commands it bytes low next say at is in
    let long = as_long journal.entries commands say in
    let same = one_command bytes found.2.0 says.0 found.0 command found.2.1 says.1 in
    (n - 2, found.0, omega (arith, long, next, low), found.1, ap (λ (c : Command). c.moment) same)

-- ---- one more

pub keeps_book : (mark : Text) (n : ℕ) (journal : Journal) (commands : List Command) (request : List ℕ) (command : Command)
    → n < 2 ^ 32 → IsNext n journal → IsTillsBook mark journal commands
    → Says request command → command.key ≡ key_of mark n → IsAfterLast commands command.moment
    → IsTillsBook mark (with_entry request journal) (commands ++ command ∷ [])
keeps_book mark n journal commands request command small next book says key after =
    let long = as_long journal.entries commands book.says in
    let number : n ≡ length commands + 1 = omega (arith, long, next) in
    record {
      says = say_more journal.entries commands request command book.says says;
      numbered = numbered_more mark commands command book.numbered (omega (arith, number, small)) (key ∙ ap (key_of mark) number) after;
    }
