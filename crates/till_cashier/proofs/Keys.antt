-- The key that is open after replies, from the last accepted entry on.
use Rattle.std.proofs.Common.{◌≡◌, ◌∙◌, ◌+◌, ◌-◌, ◌≤◌, ◌∷◌, [], ℕ, suc, List, Option, Some, None, Bool, true, false, inl, inr, sym, ap, refl, arith, drop}
use Rattle.std.specs.Prelude.{◌⊎◌, ◌==◌, ◌||◌, if◌then◌else◌, filter, option_map, unwrap_or}
use Rattle.shop_model.specs.Refusals.{Decision, KeyUsed}
use Rattle.shop_model.specs.Rows.{numbered_from}
use Rattle.shop_model.specs.Answers.{Answer}
use Rattle.sqlite.specs.State.{State}
use Rattle.till_book.specs.Held.{last_or}
use Rattle.till_book.specs.Journal.{Journal}
use Rattle.till_book.specs.Marks.{is_reply_to}
use Rattle.till_book.specs.Steps.{FindsAtRest, Rests}
use Rattle.till_book.specs.Ends.{last_accepted, IsReadAfter}
use Rattle.till_book.specs.declared.ends.EntryNumber.{EntryNumber}
use Rattle.till_book.specs.declared.lists.BookRows.{BookRows}
use Rattle.till_cashier.specs.Office.{shows_used, key_after, open_key, last_number, HasOpenKey}

abbrev number_of : Option (ℕ × Answer) → Option ℕ
number_of it = option_map (λ (found : ℕ × Answer). found.0) it

-- the accepted answers, with their numbers
abbrev accepted_from : ℕ → List Answer → List (ℕ × Answer)
accepted_from n answers = filter (λ (it : ℕ × Answer). it.1.status == 200) (numbered_from n answers)

-- The answer of that number is in the list. The key after the whole list is the key after what follows that answer.
record IsAmong (n last : ℕ) (answers : List Answer) : Type 0 where
  pub at : n ≤ last
  pub keys : (key : ℕ) → key_after key n answers ≡ key_after (last + 1) (last + 1) (drop (last + 1 - n) answers)

drop_past : (k j : ℕ) (x : Answer) (xs : List Answer) → j ≡ suc k → drop j (x ∷ xs) ≡ drop k xs
drop_past k j x xs same = rw same refl

here_among : (n last : ℕ) (a : Answer) (more : List Answer) → (a.status == 200) ≡ true → n ≡ last → IsAmong n last (a ∷ more)
here_among n last a more is same =
    let used : shows_used a ≡ true = ap (λ (b : Bool). b || is_reply_to (Decision KeyUsed) a) is in
    record {
      at = omega (arith, same);
      keys = λ key.
          ap (λ (b : Bool). key_after (if b then n + 1 else key) (n + 1) more) used
          ∙ ap (λ (k : ℕ). key_after (k + 1) (k + 1) more) same
          ∙ ap (key_after (last + 1) (last + 1)) (sym (drop_past 0 (last + 1 - n) a more (omega (arith, same))));
    }

later_among : (n last : ℕ) (a : Answer) (more : List Answer) → IsAmong (n + 1) last more → IsAmong n last (a ∷ more)
later_among n last a more it =
    let at = it.at in
    record {
      at = omega (arith, at);
      keys = λ key.
          it.keys (if shows_used a then n + 1 else key)
          ∙ ap (key_after (last + 1) (last + 1)) (sym (drop_past (last + 1 - (n + 1)) (last + 1 - n) a more (omega (arith, at))));
    }

one_more : (b : Bool) (n last : ℕ) (a : Answer) (more : List Answer) (d : Option (ℕ × Answer)) → (a.status == 200) ≡ b
    → ((found : Option (ℕ × Answer)) → number_of (last_or found (accepted_from (n + 1) more)) ≡ Some last
    → (number_of found ≡ Some last) ⊎ IsAmong (n + 1) last more)
    → number_of (last_or d (if b then (n, a) ∷ accepted_from (n + 1) more else accepted_from (n + 1) more)) ≡ Some last
    → (number_of d ≡ Some last) ⊎ IsAmong n last (a ∷ more)
one_more true n last a more d is rest e =
    elim (rest (Some (n, a)) e) [
      | inl here ↦ inr (here_among n last a more is (let same : Some n ≡ Some last = here in cc))
      | inr it ↦ inr (later_among n last a more it)
    ]
one_more false n last a more d is rest e =
    elim (rest d e) [
      | inl before ↦ inl before
      | inr it ↦ inr (later_among n last a more it)
    ]

found : (n last : ℕ) (answers : List Answer) (d : Option (ℕ × Answer)) → number_of (last_or d (accepted_from n answers)) ≡ Some last
    → (number_of d ≡ Some last) ⊎ IsAmong n last answers
found n last [] d e = inl e
found n last (a ∷ more) d e = one_more (a.status == 200) n last a more d refl (λ other. found (n + 1) last more other) e

open_from : (journal : Journal) (last : ℕ) → Some last ≡ last_accepted journal
    → key_after (last + 1) (last + 1) (drop last journal.replies) ≡ open_key journal.replies
open_from journal last is =
    elim (found 1 last journal.replies None (sym is)) [
      | inl none ↦ absurd (let no : ◌≡◌ {A = Option ℕ} None (Some last) = none in cc)
      | inr it ↦
          let same : last + 1 - 1 ≡ last = omega arith in
          ap (λ (k : ℕ). key_after (last + 1) (last + 1) (drop k journal.replies)) (sym same) ∙ sym (it.keys 1)
    ]

open_at : (journal : Journal) (last : ℕ) (found : Option ℕ) → found ≡ last_accepted journal → last ≡ unwrap_or found 0
    → key_after (last + 1) (last + 1) (drop last journal.replies) ≡ open_key journal.replies
open_at journal last None is same = ap (λ (k : ℕ). key_after (k + 1) (k + 1) (drop k journal.replies)) same
open_at journal last (Some n) is same = ap (λ (k : ℕ). key_after (k + 1) (k + 1) (drop k journal.replies)) same ∙ open_from journal n is

-- the key after the rows that were read
pub open_after : (last n : ℕ) (rows : BookRows) (old mid new : State) → FindsAtRest (λ journal. last ≡ last_number journal) old mid
    → FindsAtRest (IsReadAfter last rows) mid new → n ≡ key_after (last + 1) (last + 1) rows.replies → HasOpenKey n old
open_after last n rows old mid new found read is journal rests =
    let one = found journal rests in
    let two = read journal one.0 in
    is ∙ ap (key_after (last + 1) (last + 1)) two.1.replies ∙ open_at journal last (last_accepted journal) refl one.1

-- ---- the last accepted entry

pub last_of : (row : Option EntryNumber) (old new : State)
    → FindsAtRest (λ journal. option_map (λ (it : EntryNumber). it.number) row ≡ last_accepted journal) old new
    → FindsAtRest (λ journal. unwrap_or (option_map (λ (it : EntryNumber). it.number) row) 0 ≡ last_number journal) old new
last_of row old new found journal rests =
    let one = found journal rests in
    (one.0, ap (λ (it : Option ℕ). unwrap_or it 0) one.1)
