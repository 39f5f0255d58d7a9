-- The laws of a chain.
use Rattle.std.specs.Prelude.{◌≡◌, ℕ, ◌≤◌, ◌++◌, Bool, List, [], ◌∷◌, length, filter, true, false, Option, nat_le, nat_lt, ◌&&◌}
use Rattle.std.specs.List.{AllByRecursion}
use Rattle.shop_model.specs.Values.{Text, OfficeAsk, OfficeCommand, Rules, Command}
use Rattle.shop_model.specs.Refusals.{Refusal, Full, KeyUsed, refusal_number}
use Rattle.shop_model.specs.Shop.{Shop, Catalogue}
use Rattle.shop_model.specs.Verdict.{Verdict, verdict, office_verdict, Again, Refused, Accepted, first, refusals}
use Rattle.shop_model.specs.OfficeActs.{office_refusals}
use Rattle.shop_model.specs.Machine.{reply_text, office_text, office_done, Reply, Input, State, replies, state_after}
use Rattle.shop_model.specs.Books.{book_done, Books, Mark, Event, shop_of, run, last_books, replies_to, view, state_of, caller_of, known_caller, opening}
use Rattle.shop_model.specs.Sound.{is_mark, HasNumbers, HasOrigins, HasOneHolder, IsInCustody, IsSound, made, places}
use Rattle.shop_model.specs.Repeats.{are_new, marked_ones}
use Rattle.shop_model.specs.Stock.{keeps_out}
use Rattle.shop_model.specs.Links.{IsGoodCatalogue}
use Rattle.shop_model.specs.SameStates.{SameState, IsReordered}
use Rattle.shop_model.specs.Opening.{empty_catalogue, opening_books}

-- each branch gets the replies that its own machine gives on its view, and is left in that machine's state
pub record IsAlone (rules : Rules) (look : OfficeAsk → Books → Reply) (events : List Event) (books : Books) (b : ℕ) : Type 0 where
  pub replies : replies_to b (run rules look events books) ≡ replies rules b (view rules b events books) (state_of b books)
  pub state : state_of b (last_books rules events books) ≡ state_after rules b (view rules b events books) (state_of b books)

abbrev pub BranchesAreAlone : Type 0
BranchesAreAlone =
    (rules : Rules) (look : OfficeAsk → Books → Reply) (events : List Event) (books : Books) (b : ℕ) → HasNumbers books → IsAlone rules look events books b

-- a branch gets the same replies from two states, whatever reaches it, and the states stay the same
pub record IsToldTheSame (rules : Rules) (b : ℕ) (inputs : List Input) (one other : State) : Type 0 where
  pub replies : replies rules b inputs one ≡ replies rules b inputs other
  pub state : SameState (state_after rules b inputs one) (state_after rules b inputs other)

-- The order of maps and sets tells a branch nothing. Equal states are the same. Two states are also the same if they differ only in the order of the kept
-- commands, lots and casts.
pub record OrderTellsNothing : Type 0 where
  pub told : (rules : Rules) (b : ℕ) (inputs : List Input) (one other : State) → SameState one other → IsToldTheSame rules b inputs one other
  pub equal : (one other : State) → one ≡ other → SameState one other
  pub reordered : (one other : State) → IsReordered one other → SameState one other

-- Two histories send a branch the same replies on two conditions. The catalogue and the shop of the branch are the same to it at the start. The branch sees the
-- same in both histories.
abbrev pub BranchesAreIsolated : Type 0
BranchesAreIsolated =
    (rules : Rules) (look look' : OfficeAsk → Books → Reply) (events events' : List Event) (books books' : Books) (b : ℕ) → HasNumbers books → HasNumbers books'
    → SameState (state_of b books) (state_of b books') → view rules b events books ≡ view rules b events' books'
    → replies_to b (run rules look events books) ≡ replies_to b (run rules look' events' books')

-- books that are sound stay sound, whatever is asked
abbrev pub StaySound : Type 0
StaySound = (rules : Rules) (events : List Event) (books : Books) → IsSound rules books → IsSound rules (last_books rules events books)

-- Books that are sound by greater sizes than the chain's limits stay sound by these sizes. So files that were made under greater limits stay sound.
abbrev pub StaySoundWithin : Type 0
StaySoundWithin =
    (rules sizes : Rules) (events : List Event) (books : Books) → rules.commands ≤ sizes.commands → rules.copies ≤ sizes.copies
    → IsSound sizes books → IsSound sizes (last_books rules events books)

-- After any history a mark is made at most once, and is then in exactly one place. The mark of each row and each line was made for that film. As many marks
-- were made as there are places. A copy is out at most once, and only if it is in the shop.
pub record InOnePlace (books : Books) : Type 0 where
  pub once : (mark : Mark) → made (is_mark mark) books ≤ 1
  pub place : (mark : Mark) → made (is_mark mark) books ≡ places (is_mark mark) books
  pub sums : made (λ _. true) books ≡ places (λ _. true) books
  pub origins : HasOrigins books
  pub out : (b x : ℕ) → length (filter (keeps_out x) (shop_of b books).rentals) ≤ 1
  pub inside : (b : ℕ) → HasOneHolder (shop_of b books)

abbrev pub CopiesAreInOnePlace : Type 0
CopiesAreInOnePlace = (rules : Rules) (events : List Event) (books : Books) → IsSound rules books → InOnePlace (last_books rules events books)

-- custody by itself: it follows from soundness, and doesn't speak of soundness
abbrev pub SoundBooksAreInCustody : Type 0
SoundBooksAreInCustody = (rules : Rules) (books : Books) → IsSound rules books → IsInCustody books

-- if its shared rows are sound, the books of a chain in which no branch has asked anything are sound
abbrev pub OpeningIsSound : Type 0
OpeningIsSound = (rules : Rules) (catalogue : Catalogue) → IsGoodCatalogue rules catalogue → IsSound rules (opening catalogue)

-- and so are the books of a new chain, whose catalogue has head office's token and no shared row
abbrev pub EmptyIsSound : Type 0
EmptyIsSound = (rules : Rules) (token : Text) → IsSound rules (opening (empty_catalogue token))

-- the books of the chain that is shown and tested are sound
abbrev pub OpeningBooksAreSound : Type 0
OpeningBooksAreSound = (rules : Rules) → IsSound rules opening_books

-- whoever is found by a token is a caller whom the catalogue knows
abbrev pub CallersAreKnown : Type 0
CallersAreKnown = (token : Option Text) (catalogue : Catalogue) → known_caller catalogue (caller_of token catalogue) ≡ caller_of token catalogue

-- an accepted command that comes again is `Again` with its first reply, whatever has happened since, and so changes nothing
abbrev pub ResentIsAgain : Type 0
ResentIsAgain =
    (rules : Rules) (b : ℕ) (command : Command) (books : Books) (events : List Event) → verdict rules b books.catalogue (shop_of b books) command ≡ Accepted
    → verdict rules b (last_books rules events (book_done rules b command books)).catalogue
    (shop_of b (last_books rules events (book_done rules b command books))) command
    ≡ Again (reply_text rules command (shop_of b books))

-- and so is an accepted command of head office that comes again
abbrev pub OfficeResentIsAgain : Type 0
OfficeResentIsAgain =
    (rules : Rules) (command : OfficeCommand) (books : Books) (events : List Event) → office_verdict rules books.catalogue command ≡ Accepted
    → office_verdict rules (last_books rules events (record books { catalogue = office_done command books.catalogue })).catalogue command
    ≡ Again (office_text command books.catalogue)

-- the history without its repeats leaves the same books, and answers every other event as before
pub record IsWithoutRepeats (rules : Rules) (look : OfficeAsk → Books → Reply) (events : List Event) (books : Books) : Type 0 where
  pub replies : run rules look (marked_ones (are_new rules events books) events) books ≡ marked_ones (are_new rules events books) (run rules look events books)
  pub leaves : last_books rules (marked_ones (are_new rules events books) events) books ≡ last_books rules events books

abbrev pub RepeatsChangeNothing : Type 0
RepeatsChangeNothing = (rules : Rules) (look : OfficeAsk → Books → Reply) (events : List Event) (books : Books) → IsWithoutRepeats rules look events books

-- ---- the order of refusals

-- the numbers rise strictly, from above n
abbrev pub rise_from : ℕ → List (Refusal × Bool) → Bool
rise_from n [] = true
rise_from n (test ∷ tests) = nat_lt n (refusal_number test.0) && rise_from (refusal_number test.0) tests

-- A verdict's refusal is a refusal that holds, and no refusal that holds has a lower number. If the verdict is that the command is accepted, none holds.
abbrev pub IsLowest : List (Refusal × Bool) → Verdict → Type 0
IsLowest tests (Again reply) = ⊥
IsLowest tests (Refused refusal) =
    ((front back : List (Refusal × Bool)) × (tests ≡ front ++ (refusal, true) ∷ back))
    × AllByRecursion (λ test. test.1 ≡ true → refusal_number refusal ≤ refusal_number test.0) tests
IsLowest tests Accepted = AllByRecursion (λ test. test.1 ≡ false) tests

-- What the tests of a command decide. Each has a higher number than the test of the key, which comes first.
pub record AreInOrder (tests : List (Refusal × Bool)) : Type 0 where
  pub rise : rise_from (refusal_number KeyUsed) tests ≡ true
  pub lowest : IsLowest tests (first tests)

pub record RefusalsAreInOrder : Type 0 where
  pub branch : (rules : Rules) (b : ℕ) (catalogue : Catalogue) (shop : Shop) (command : Command) → AreInOrder (refusals rules b catalogue shop command)
  pub office : (rules : Rules) (catalogue : Catalogue) (command : OfficeCommand) →
      AreInOrder ((Full, nat_le rules.commands (length catalogue.kept)) ∷ office_refusals catalogue command.act)
