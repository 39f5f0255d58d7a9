-- A book that a till's words extended stays recorded.
use Rattle.shop_model.proofs.Common.{◌≡◌, ◌∙◌, ℕ, zero, suc, ◌+◌, List, [], ◌∷◌, ◌++◌, length, Option, Some, sym, ap, subst, arith, slice_get, AllByRecursion}
use Rattle.shop_model.proofs.Common.{Rules, Answer, Books}
use Rattle.shop_model.proofs.Resends.{same_some, same_none}
use Rattle.till_model.proofs.Settled.{all_of}
use Rattle.till_book.specs.Journal.{Journal}
use Rattle.till_work.specs.Settling.{OfEntry}
use Rattle.till_work.specs.Exchanged.{IsExchanged, IsExchangedAt, AreExchanged, IsSettledAt}
use Rattle.till_work.specs.Desk.{Extends}
use Rattle.till_and_server.specs.Streams.{Streams}
use Rattle.till_and_server.specs.ServedLives.{ServedLife}
use Rattle.till_and_server.specs.Lives.{WasRecorded, WereRecorded, WereNoted}
use Rattle.till_and_server.specs.Laws.{AreAnswered, ExtendedBooksStayRecorded, WordsReachTheDisk}
use Rattle.till_and_server.proofs.Recorded.{still_at, was_recorded}
use Rattle.till_and_server.proofs.Settled.{settled_to_disk}

-- ---- lists

-- what is so of each place of the front, and of each place after it, is so of all
each_place : {A : Type 0} (P : ℕ → A → Type 0) (xs ys : List A) → ((i : ℕ) (x : A) → slice_get xs i ≡ Some x → P i x)
    → ((i : ℕ) (x : A) → slice_get ys i ≡ Some x → P (length xs + i) x) → (i : ℕ) (x : A) → slice_get (xs ++ ys) i ≡ Some x → P i x
each_place P [] ys front back i x there = subst (λ (n : ℕ). P n x) (omega arith) (back i x there)
each_place P (y ∷ xs) ys front back zero x there = front zero x there
each_place P (y ∷ xs) ys front back (suc i) x there =
    each_place (λ (k : ℕ) (a : _). P (suc k) a) xs ys (λ k a at. front (suc k) a at)
    (λ k a at. subst (λ (n : ℕ). P n a) (omega arith) (back k a at)) i x there

all_join : {X : Type 0} (P : X → Type 0) (xs ys : List X) → AllByRecursion P xs → AllByRecursion P ys → AllByRecursion P (xs ++ ys)
all_join P [] ys one two = two
all_join P (x ∷ xs) ys one two = (one.0, all_join P xs ys one.1 two)

told_at : (Exchanged : List ℕ → Answer → Type 0) (entries : List (List ℕ)) (n : ℕ) (answers : List Answer)
    → AreExchanged Exchanged entries n answers → (i : ℕ) (answer : Answer)
    → slice_get answers i ≡ Some answer → IsExchangedAt Exchanged entries (n + i) answer
told_at Exchanged entries n [] told i answer there = absurd (same_none answer there)
told_at Exchanged entries n (x ∷ answers) told zero answer there =
    let same : x ≡ answer = same_some x answer there in
    subst (λ (k : ℕ). IsExchangedAt Exchanged entries k answer) (omega arith) (subst (λ (a : Answer). IsExchangedAt Exchanged entries n a) same told.0)
told_at Exchanged entries n (x ∷ answers) told (suc i) answer there =
    let place : n + 1 + i ≡ n + suc i = omega arith in
    subst (λ (k : ℕ). IsExchangedAt Exchanged entries k answer) place (told_at Exchanged entries (n + 1) answers told.1 i answer there)

-- ---- a book

module _ {R W : Type 0} (opens : R → W → Type 0) (remaining : R → Option (List ℕ))
    (contents : W → Option (List ℕ)) (rules : Rules) (b : ℕ) (lives : List ServedLife) (old : Books) where
  -- an exchange that the chain answered was recorded
  was_answered : AreAnswered opens remaining contents rules b lives old → (request : List ℕ) (answer : Answer)
      → IsExchanged opens remaining contents request answer
      → WasRecorded rules b lives old request answer
  was_answered answered request answer it =
      let till : Streams = record { input = remaining it.reader; left = remaining it.read; output = contents it.writer; written = contents it.written } in
      was_recorded rules b lives old request answer till it.writes it.reads it.decided (answered request answer it)

  module _ (before after : Journal) (answered : AreAnswered opens remaining contents rules b lives old)
      (extends : Extends (IsExchanged opens remaining contents) before after) where
    abbrev Was : ℕ → Answer → Type 0
    Was i answer = (request : List ℕ) × (slice_get after.entries i ≡ Some request) × WasRecorded rules b lives old request answer

    -- an entry is at its place still
    there_still : (i : ℕ) (request : List ℕ) → slice_get before.entries i ≡ Some request → slice_get after.entries i ≡ Some request
    there_still i request there = ap (λ (es : List (List ℕ)). slice_get es i) extends.entries.1 ∙ still_at before.entries extends.entries.0 i request there

    from_told : (i : ℕ) (answer : Answer) → IsExchangedAt (IsExchanged opens remaining contents) after.entries i answer → Was i answer
    from_told i answer told = (told.0, told.1, was_answered answered told.0 answer told.2)

    stay_recorded : WereRecorded rules b lives old before → WereRecorded rules b lives old after
    stay_recorded recorded i answer there =
        each_place Was before.replies extends.replies.0 (λ k a at. let it = recorded k a at in (it.0, there_still k it.0 it.1, it.2))
        (λ k a at.
        from_told (length before.replies + k) a
        (told_at (IsExchanged opens remaining contents) after.entries (length before.replies) extends.replies.0 extends.replies.2 k a at))
        i answer
        (ap (λ (rs : List Answer). slice_get rs i) (sym extends.replies.1) ∙ there)

    abbrev Noted : Journal → ℕ × Answer → Type 0
    Noted journal it = OfEntry it.0 journal (λ request. WasRecorded rules b lives old request it.1)

    noted_still : (it : ℕ × Answer) → Noted before it → Noted after it
    noted_still it was i is = let e = was i is in (e.0, there_still i e.0 e.1, e.2)

    settled_noted : (it : ℕ × Answer) → IsSettledAt (IsExchanged opens remaining contents) after.entries it → Noted after it
    settled_noted it settled i is =
        let first = settled.1 in
        let place : settled.0 ≡ i = omega (arith, first, is) in
        from_told i it.1 (subst (λ (k : ℕ). IsExchangedAt (IsExchanged opens remaining contents) after.entries k it.1) place settled.2)

    stay_noted : WereNoted rules b lives old before → WereNoted rules b lives old after
    stay_noted noted =
        subst (λ (all : List (ℕ × Answer)). AllByRecursion (Noted after) all) (sym extends.settled.1)
        (all_join (Noted after) before.settled extends.settled.0 (all_of (Noted before) (Noted after) noted_still before.settled noted)
        (all_of (IsSettledAt (IsExchanged opens remaining contents) after.entries) (Noted after) settled_noted extends.settled.0 extends.settled.2))

pub stays : {R W : Type 0} (opens : R → W → Type 0) (remaining : R → Option (List ℕ)) (contents : W → Option (List ℕ))
    → ExtendedBooksStayRecorded opens remaining contents
stays opens remaining contents rules b lives old before after answered extends = (
  stay_recorded opens remaining contents rules b lives old before after answered extends,
  stay_noted opens remaining contents rules b lives old before after answered extends,
)

pub words_reach : {R W : Type 0} (opens : R → W → Type 0) (remaining : R → Option (List ℕ)) (contents : W → Option (List ℕ))
    → WordsReachTheDisk opens remaining contents
words_reach opens remaining contents mark rules look b journal commands lives old new lived numbers unused book come answered extends =
    let empty : Journal = record { entries = []; replies = []; settled = [] } in
    settled_to_disk mark rules look b journal commands lives old new lived numbers unused book come
    (stay_recorded opens remaining contents rules b lives old empty journal answered extends (λ i answer there. absurd (same_none answer there)))
    (stay_noted opens remaining contents rules b lives old empty journal answered extends tt)
