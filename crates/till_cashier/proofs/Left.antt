-- What is left to be given once more.
use Rattle.std.proofs.Common.{◌≡◌, ◌∙◌, ◌+◌, ◌++◌, ◌∷◌, [], ℕ, suc, Bool, true, false, List, length, ap, refl, sym, subst, inl, inr, arith, Option}
use Rattle.std.specs.Prelude.{◌==◌, ◌&&◌, ◌≢◌}
use Rattle.std.specs.Str.{bytes_eq}
use Rattle.std.proofs.lemmas.Bool.{eqb-true, false≢true}
use Rattle.std.proofs.lemmas.Slice.Eq.{bytes_eq-Decides}
use Rattle.sqlite.specs.State.{State}
use Rattle.shop_model.specs.Answers.{Answer, problem_text}
use Rattle.shop_model.specs.Refusals.{Decision, MomentBack, problem_status}
use Rattle.shop_model.specs.Values.{Text, Command}
use Rattle.till_client.specs.Sealing.{SaysCommand}
use Rattle.till_client.proofs.SoleMessages.{one_command}
use Rattle.till_book.specs.Ends.{IsReadAfter}
use Rattle.till_book.specs.Marks.{is_reply_to}
use Rattle.till_book.specs.Steps as book
use Rattle.till_book.specs.declared.lists.BookRows.{BookRows}
use Rattle.till_work.specs.declared.place.Place.{Place}
use Rattle.till_cashier.specs.declared.refused.Repeat.{Repeat}
use Rattle.till_cashier.specs.Again.{AddsLeft, AreLeft, AreLeftIn, GivesLeft, IsBackAt, IsRefusedAt, IsRepeated, SaysAt}
use Rattle.till_cashier.specs.Giving.{IsBack}
use Rattle.till_cashier.proofs.Listing.{some_same}
use Rattle.till_cashier.proofs.Repeating.{book_later}

-- ---- the reply that another moment was later

both : (a b : Bool) → (a && b) ≡ true → (a ≡ true) × (b ≡ true)
both true true e = (refl, refl)
both true false e = absurd (false≢true e)
both false b e = absurd (false≢true e)

pub back_is : (answer : Answer) → is_reply_to (Decision MomentBack) answer ≡ true → IsBack answer
back_is answer is =
    let two = both (answer.status == problem_status (Decision MomentBack)) (bytes_eq answer.body (problem_text (Decision MomentBack))) is in
    let status : answer.status ≡ problem_status (Decision MomentBack) = eqb-true answer.status (problem_status (Decision MomentBack)) two.0 in
    let body : answer.body ≡ problem_text (Decision MomentBack) = (bytes_eq-Decides answer.body (problem_text (Decision MomentBack))).0 two.1 in
    λ i. record { status = status i; body = body i }

pub is_back : (answer : Answer) → IsBack answer → is_reply_to (Decision MomentBack) answer ≡ true
is_back answer back =
    let text : bytes_eq answer.body (problem_text (Decision MomentBack)) ≡ true =
    (bytes_eq-Decides answer.body (problem_text (Decision MomentBack))).1 (ap (λ (a : Answer). a.body) back) in
    let status : answer.status ≡ problem_status (Decision MomentBack) = ap (λ (a : Answer). a.status) back in
    rw (status, text) refl

-- ---- one more entry

says_one : (entries : List (List ℕ)) (at : ℕ) (one two : Command) → SaysAt entries at one → SaysAt entries at two → one ≡ two
says_one entries at one two says other =
    let same : says.0 ≡ other.0 = some_same says.0 other.0 (sym says.1 ∙ other.1) in
    let there : SaysCommand other.0 says.2.0 one = subst (λ (bytes : List ℕ). SaysCommand bytes says.2.0 one) same says.2.1 in
    one_command other.0 says.2.0 other.2.0 one two there other.2.1

module _ (entries : List (List ℕ)) (replies : List Answer) (at : ℕ) where
  one_more : (left more : Text) (acts with_it : List Repeat) → left ≡ more → (AreLeft entries replies at acts → AreLeft entries replies (suc at) with_it)
      → AddsLeft entries replies at left acts more with_it
  one_more left more acts with_it same adds none =
      let next : suc at ≡ at + 1 = omega arith in
      (same ∙ none, λ are. subst (λ (n : ℕ). AreLeft entries replies n with_it) next (adds are))

  -- an entry that wasn't refused for its moment
  pub not_back : (left : Text) (acts : List Repeat) → ¬ IsBackAt replies at → AddsLeft entries replies at left acts left acts
  not_back left acts other = one_more left left acts acts refl (λ are. inl (are, λ command back says. absurd (other back)))

  -- an entry that was repeated
  pub repeated : (left : Text) (acts : List Repeat) (command : Command) → SaysAt entries at command → IsRepeated entries at command
      → AddsLeft entries replies at left acts left acts
  repeated left acts command says again = one_more left left acts acts refl
      (λ are. inl (are, λ other back there. subst (λ (it : Command). IsRepeated entries at it) (says_one entries at command other says there) again))

  -- an entry that is left out
  pub left_out : (left more : Text) (acts with_it : List Repeat) → more ≢ [] → AddsLeft entries replies at left acts more with_it
  left_out left more acts with_it some none = absurd (some none)

  -- an entry that is to be given once more
  pub given_more : (left more : Text) (acts with_it : List Repeat) (it : Repeat) → left ≡ more → with_it ≡ acts ++ it ∷ [] → IsRefusedAt entries replies at it
      → AddsLeft entries replies at left acts more with_it
  given_more left more acts with_it it same pushed refused = one_more left more acts with_it same (λ are. inr (acts, it, are, refused, pushed))

pub line_some : (old : Text) (x : ℕ) (rest new : Text) → new ≡ old ++ x ∷ rest → new ≢ []
line_some [] x rest new same none = let no : ◌≡◌ {A = Text} (x ∷ rest) [] = sym same ∙ none in cc
line_some (y ∷ old) x rest new same none = let no : ◌≡◌ {A = Text} (y ∷ (old ++ x ∷ rest)) [] = sym same ∙ none in cc

-- ---- a book

pub left_in_book : (acts : List Repeat) (rows : BookRows) (old new : State) → book.FindsAtRest (IsReadAfter 0 rows) old new
    → AreLeft rows.entries rows.replies (length rows.entries) acts → AreLeftIn old acts
left_in_book acts rows old new finds are journal rests =
    let read : IsReadAfter 0 rows journal = (finds journal rests).1 in
    subst (λ (entries : List (List ℕ)). AreLeft entries journal.replies (length entries) acts) read.entries
    (subst (λ (replies : List Answer). AreLeft rows.entries replies (length rows.entries) acts) read.replies are)

pub left_before : (acts : List Repeat) (old mid : State) → book.Stays old mid → AreLeftIn mid acts → AreLeftIn old acts
left_before acts old mid stays are journal rests = are journal (stays journal rests)

pub given_before : (Exchanged : List ℕ → Answer → Type 0) (shows : ℕ → Type 0) (mark token : Text) (own : Option ℕ)
    (before after : Place) (old mid new : State)
    → book.Stays old mid → GivesLeft Exchanged shows mark token own before mid after new → GivesLeft Exchanged shows mark token own before old after new
given_before Exchanged shows mark token own before after old mid new stays gives = (
  gives.0,
  left_before gives.0 old mid stays gives.1,
  book_later Exchanged shows mark token own (length gives.0) gives.0 before after old mid new stays gives.2,
)
