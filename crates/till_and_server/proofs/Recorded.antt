-- The replies of a book stay recorded from exchanges.
use Rattle.shop_model.proofs.Common.{◌≡◌, ◌≢◌, ◌⊎◌, inl, inr, ℕ, zero, suc, List, [], ◌∷◌, ◌++◌, length, Some, refl, sym, ap, subst, append-nil, ◌∙◌, slice_get}
use Rattle.shop_model.proofs.Common.{Appends, Consumes, Rules, Answer, Books}
use Rattle.shop_model.proofs.Resends.{same_some, same_none}
use Rattle.till_client.specs.Replies.{answer_bytes}
use Rattle.till_book.specs.Journal.{Journal, waiting, with_reply}
use Rattle.till_and_server.specs.Streams.{Streams}
use Rattle.till_and_server.specs.ServedLives.{ServedLife}
use Rattle.till_and_server.specs.Lives.{WasRecorded, WereRecorded, IsAnsweredBy}
use Rattle.till_and_server.specs.Laws.{DeliveriesAreRecorded}

pub still_at : {A : Type 0} (xs ys : List A) (i : ℕ) (x : A) → slice_get xs i ≡ Some x → slice_get (xs ++ ys) i ≡ Some x
still_at [] ys i x there = absurd (same_none x there)
still_at (y ∷ xs) ys zero x there = there
still_at (y ∷ xs) ys (suc i) x there = still_at xs ys i x there

-- an item of a list with one more at the end is an item of the list, or is the last
before_last : {A : Type 0} (xs : List A) (y : A) (i : ℕ) (x : A) → slice_get (xs ++ y ∷ []) i ≡ Some x → (slice_get xs i ≡ Some x) ⊎ ((i ≡ length xs) × (y ≡ x))
before_last [] y zero x there = inr (refl, same_some y x there)
before_last [] y (suc i) x there = absurd (same_none x there)
before_last (z ∷ xs) y zero x there = inl there
before_last (z ∷ xs) y (suc i) x there = elim (before_last xs y i x there) [ inl here ↦ inl here | inr (is, same) ↦ inr (ap (λ (n : ℕ). suc n) is, same) ]

pub was_recorded : (rules : Rules) (b : ℕ) (lives : List ServedLife) (old : Books) (request : List ℕ) (answer : Answer) (till : Streams)
    → Appends till.output till.written request → Consumes till.input till.left (answer_bytes answer) → answer.status ≢ 503
    → IsAnsweredBy rules b lives old request answer till → WasRecorded rules b lives old request answer
was_recorded rules b lives old request answer till writes reads decided x = record {
  exchanges = x.exchanges;
  exchanged = record {
    till = till;
    server = x.server;
    serving = x.serving;
    most = x.most;
    writes = record { front = request; rest = []; parts = sym (append-nil request); writes = writes };
    joined = x.joined;
    serves = x.serves;
    short = x.short;
    fits = x.fits;
    reads = reads;
  };
  stand = x.stand;
  own = x.own;
  decided = decided;
}

one_more : (rules : Rules) (b : ℕ) (lives : List ServedLife) (old : Books) (journal : Journal) (request : List ℕ) (answer : Answer)
    → WereRecorded rules b lives old journal
    → waiting journal ≡ Some request → WasRecorded rules b lives old request answer → WereRecorded rules b lives old (with_reply answer journal)
one_more rules b lives old journal request answer recorded oldest was i other there = elim (before_last journal.replies answer i other there) [
  | inl before ↦ recorded i other before
  | inr (is, same) ↦ (
    request,
    ap (λ (n : ℕ). slice_get journal.entries n) is ∙ oldest,
    subst (λ (a : Answer). WasRecorded rules b lives old request a) same was,
  )
]

pub are_recorded : DeliveriesAreRecorded
are_recorded rules b lives old = record {
  none = λ i answer there. absurd (same_none answer there);
  enters = λ journal request recorded i answer there. let it = recorded i answer there in (it.0, still_at journal.entries (request ∷ []) i it.0 it.1, it.2);
  delivers = λ journal request answer till recorded oldest writes reads decided x.
      one_more rules b lives old journal request answer recorded oldest (was_recorded rules b lives old request answer till writes reads decided x);
}
