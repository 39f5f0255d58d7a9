-- What one more entry, one more reply or one more settlement adds to what all entries mean.
use Rattle.sql_rows.proofs.Common.{◌≡◌, ◌≢◌, ◌∙◌, ◌+◌, ◌<◌, ◌≤◌, ◌==◌, ◌&&◌, ℕ, zero, suc, Bool, true, false, cond, List, [], ◌∷◌, ◌++◌, map, filter, length}
use Rattle.sql_rows.proofs.Common.{slice_get, Option, Some, None, refl, sym, ap, subst, subst₂, arith, inl, inr, cases_Bool, append_assoc, append-nil, flat_map}
use Rattle.sql_rows.proofs.Common.{option_to_list, IsPermutation, nat_tests}
use Rattle.std.proofs.lemmas.List.Sorted.{IsPermutation-append_right, IsPermutation-append_comm}
use Rattle.shop_model.specs.Rows.{numbered_from}
use Rattle.shop_model.specs.Values.{Act, AddCustomer, SetActive, Rent, TakeBack, Pay, Import, Dispatch, Receive, Scrap, Command}
use Rattle.shop_model.specs.Answers.{Answer}
use Rattle.shop_model.proofs.RowLemmas.{same_if, equal_test, differ_test}
use Rattle.shop_model.proofs.Resends.{same_some, same_none}
use Rattle.till_model.specs.Tills.{Entry}
use Rattle.till_model.specs.Laws.{entries_of}
use Rattle.till_model.specs.Settled.{accepted_of, or_reply, settled_entry, book_entries}
use Rattle.till_model.specs.Register.{rental_told}
use Rattle.till_book.specs.Marks.{rents_told, returns_told, all_told}

-- ---- the settlement of an entry

abbrev Settled : Type 0
Settled = List (ℕ × Answer)

abbrev and_one : ℕ → Answer → Settled → Settled
and_one n answer settled = settled ++ (n, answer) ∷ []

-- the settlements of other entries stay
pub accepted_other : (m n : ℕ) (answer : Answer) (settled : Settled) → m ≢ n → accepted_of m (and_one n answer settled) ≡ accepted_of m settled
accepted_other m n answer [] apart = rw (differ_test n m (λ e. apart (sym e))) refl
accepted_other m n answer (it ∷ settled) apart =
    ap (λ (o : Option Answer). cond (it.0 == m && it.1.status == 200) (Some it.1) o) (accepted_other m n answer settled apart)

-- of the entry its reply, if that is 200
pub accepted_one : (n : ℕ) (answer : Answer) (settled : Settled) → accepted_of n settled ≡ None
    → answer.status ≡ 200 → accepted_of n (and_one n answer settled) ≡ Some answer
accepted_one n answer [] none done = rw (equal_test n n refl, equal_test answer.status 200 done) refl
accepted_one n answer (it ∷ settled) none done = elim (cases_Bool (it.0 == n && it.1.status == 200)) [
  | inl is ↦ absurd (same_none it.1 (sym none ∙ rw is refl))
  | inr isnt ↦ rw isnt (accepted_one n answer settled (rw isnt at none) done)
]

-- a settlement other than 200 changes nothing
pub accepted_not : (m n : ℕ) (answer : Answer) (settled : Settled) → answer.status ≢ 200 → accepted_of m (and_one n answer settled) ≡ accepted_of m settled
accepted_not m n answer [] other = elim (cases_Bool (n == m)) [
  | inl is ↦ rw (is, differ_test answer.status 200 other) refl
  | inr isnt ↦ rw isnt refl
]
accepted_not m n answer (it ∷ settled) other =
    ap (λ (o : Option Answer). cond (it.0 == m && it.1.status == 200) (Some it.1) o) (accepted_not m n answer settled other)

-- ---- what all entries mean, by their commands and replies

module _ {A : Type 0} (tells : ℕ → Act → Option Answer → List A) where
  abbrev told_from : Settled → ℕ → List Command → List Answer → List A
  told_from settled k [] replies = []
  told_from settled k (c ∷ cs) [] = tells k c.act (or_reply (accepted_of k settled) None) ++ told_from settled (k + 1) cs []
  told_from settled k (c ∷ cs) (a ∷ replies) = tells k c.act (or_reply (accepted_of k settled) (Some a)) ++ told_from settled (k + 1) cs replies

  told_is : (settled : Settled) (k : ℕ) (cs : List Command) (replies : List Answer)
      → flat_map (λ (it : ℕ × Entry). tells it.0 it.1.command.act it.1.reply)
      (numbered_from k (map (settled_entry settled) (numbered_from k (entries_of cs replies))))
      ≡ told_from settled k cs replies
  told_is settled k [] replies = refl
  told_is settled k (c ∷ cs) [] = ap (λ l. tells k c.act (or_reply (accepted_of k settled) None) ++ l) (told_is settled (k + 1) cs [])
  told_is settled k (c ∷ cs) (a ∷ replies) = ap (λ l. tells k c.act (or_reply (accepted_of k settled) (Some a)) ++ l) (told_is settled (k + 1) cs replies)

  told_alike : (one two : Settled) (k : ℕ) (cs : List Command) (replies : List Answer)
      → ((m : ℕ) → k ≤ m → accepted_of m one ≡ accepted_of m two) → told_from one k cs replies ≡ told_from two k cs replies
  told_alike one two k [] replies same = refl
  told_alike one two k (c ∷ cs) [] same =
      let here = same k (omega arith) in
      let more = told_alike one two (k + 1) cs [] (λ m low. same m (omega (arith, low))) in
      λ i. tells k c.act (or_reply (here i) None) ++ more i
  told_alike one two k (c ∷ cs) (a ∷ replies) same =
      let here = same k (omega arith) in
      let more = told_alike one two (k + 1) cs replies (λ m low. same m (omega (arith, low))) in
      λ i. tells k c.act (or_reply (here i) (Some a)) ++ more i

  module _ (silent : (n : ℕ) (act : Act) → tells n act None ≡ []) (settled : Settled) where
    -- one more entry
    entry_told : (n k : ℕ) (cs : List Command) (replies : List Answer) (c : Command)
        → n ≡ k + length cs → length replies ≤ length cs → accepted_of n settled ≡ None
        → told_from settled k (cs ++ c ∷ []) replies ≡ told_from settled k cs replies
    entry_told n k [] [] c is few none =
        let here : n ≡ k = omega (arith, is) in
        ap (λ l. l ++ [])
        (ap (λ (o : Option Answer). tells k c.act (or_reply o None)) (subst (λ (m : ℕ). accepted_of m settled ≡ None) here none) ∙ silent k c.act)
    entry_told n k [] (a ∷ replies) c is few none = absurd (omega (arith, few))
    entry_told n k (x ∷ cs) [] c is few none =
        ap (λ l. tells k x.act (or_reply (accepted_of k settled) None) ++ l) (entry_told n (k + 1) cs [] c (omega (arith, is)) (omega arith) none)
    entry_told n k (x ∷ cs) (a ∷ replies) c is few none =
        ap (λ l. tells k x.act (or_reply (accepted_of k settled) (Some a)) ++ l)
        (entry_told n (k + 1) cs replies c (omega (arith, is)) (omega (arith, few)) none)

    -- one more reply
    reply_told : (n k : ℕ) (cs : List Command) (replies : List Answer) (a : Answer) (c : Command)
        → n ≡ k + length replies → slice_get cs (length replies) ≡ Some c → accepted_of n settled ≡ None
        → IsPermutation (told_from settled k cs replies ++ tells n c.act (Some a)) (told_from settled k cs (replies ++ a ∷ []))
    reply_told n k [] replies a c is there none = absurd (same_none c there)
    reply_told n k (x ∷ cs) [] a c is there none =
        let here : n ≡ k = omega (arith, is) in
        let same : x ≡ c = same_some x c there in
        let new : List A = tells n c.act (Some a) in
        let rest : List A = told_from settled (k + 1) cs [] in
        let unsettled : accepted_of k settled ≡ None = subst (λ (m : ℕ). accepted_of m settled ≡ None) here none in
        let before : tells k x.act (or_reply (accepted_of k settled) None) ≡ [] =
        ap (λ (o : Option Answer). tells k x.act (or_reply o None)) unsettled ∙ silent k x.act in
        let after : tells k x.act (or_reply (accepted_of k settled) (Some a)) ≡ new =
        ap (λ (o : Option Answer). tells k x.act (or_reply o (Some a))) unsettled ∙ (λ i. tells (sym here i) (same i).act (Some a)) in
        subst₂ IsPermutation (ap (λ l. (l ++ rest) ++ new) (sym before)) (ap (λ l. l ++ rest) (sym after)) (IsPermutation-append_comm rest new)
    reply_told n k (x ∷ cs) (r ∷ replies) a c is there none =
        let first : List A = tells k x.act (or_reply (accepted_of k settled) (Some r)) in
        let more = reply_told n (k + 1) cs replies a c (omega (arith, is)) there none in
        subst (λ l. IsPermutation l (first ++ told_from settled (k + 1) cs (replies ++ a ∷ [])))
        (sym (append_assoc first (told_from settled (k + 1) cs replies) (tells n c.act (Some a))))
        (IsPermutation-append_right first _ _ more)

  module _ (refused : (n : ℕ) (act : Act) (answer : Answer) → answer.status ≢ 200 → tells n act (Some answer) ≡ []) (settled : Settled) where
    -- a refused entry turns out to have acted
    settled_told : (n k i : ℕ) (cs : List Command) (replies : List Answer) (c : Command) (r b : Answer)
        → n ≡ k + i → slice_get cs i ≡ Some c → slice_get replies i ≡ Some r → r.status ≢ 200
        → b.status ≡ 200 → accepted_of n settled ≡ None
        → IsPermutation (told_from settled k cs replies ++ tells n c.act (Some b)) (told_from (and_one n b settled) k cs replies)
    settled_told n k i [] replies c r b is there told other done none = absurd (same_none c there)
    settled_told n k i (x ∷ cs) [] c r b is there told other done none = absurd (same_none r told)
    settled_told n k zero (x ∷ cs) (y ∷ replies) c r b is there told other done none =
        let here : n ≡ k = omega (arith, is) in
        let same : x ≡ c = same_some x c there in
        let reply : y ≡ r = same_some y r told in
        let new : List A = tells n c.act (Some b) in
        let rest : List A = told_from settled (k + 1) cs replies in
        let rest_new : List A = told_from (and_one n b settled) (k + 1) cs replies in
        let alike : rest ≡ rest_new =
        told_alike settled (and_one n b settled) (k + 1) cs replies
        (λ m low. sym (accepted_other m n b settled (λ e. absurd (omega (arith, low, e, here))))) in
        let unsettled : accepted_of k settled ≡ None = subst (λ (m : ℕ). accepted_of m settled ≡ None) here none in
        let before : tells k x.act (or_reply (accepted_of k settled) (Some y)) ≡ [] =
        ap (λ (o : Option Answer). tells k x.act (or_reply o (Some y))) unsettled
        ∙ refused k x.act y (subst (λ (it : Answer). it.status ≢ 200) (sym reply) other) in
        let acted : accepted_of k (and_one n b settled) ≡ Some b =
        subst (λ (m : ℕ). accepted_of m (and_one n b settled) ≡ Some b) here (accepted_one n b settled none done) in
        let after : tells k x.act (or_reply (accepted_of k (and_one n b settled)) (Some y)) ≡ new =
        ap (λ (o : Option Answer). tells k x.act (or_reply o (Some y))) acted ∙ (λ j. tells (sym here j) (same j).act (Some b)) in
        subst₂ IsPermutation (ap (λ l. (l ++ rest) ++ new) (sym before)) (λ j. sym after j ++ alike j) (IsPermutation-append_comm rest new)
    settled_told n k (suc i) (x ∷ cs) (y ∷ replies) c r b is there told other done none =
        let first : List A = tells k x.act (or_reply (accepted_of k settled) (Some y)) in
        let more = settled_told n (k + 1) i cs replies c r b (omega (arith, is)) there told other done none in
        let same : first ≡ tells k x.act (or_reply (accepted_of k (and_one n b settled)) (Some y)) =
        ap (λ (o : Option Answer). tells k x.act (or_reply o (Some y))) (sym (accepted_other k n b settled (λ e. absurd (omega (arith, is, e))))) in
        subst₂ IsPermutation (sym (append_assoc first (told_from settled (k + 1) cs replies) (tells n c.act (Some b))))
        (ap (λ l. l ++ told_from (and_one n b settled) (k + 1) cs replies) same)
        (IsPermutation-append_right first _ _ more)

-- ---- the same for the entries of a book

module _ {A : Type 0} (tells : ℕ → Act → Option Answer → List A) (silent : (n : ℕ) (act : Act) → tells n act None ≡ []) where
  whole : (cs : List Command) (replies : List Answer) (settled : Settled)
      → all_told tells (book_entries cs replies settled) ≡ told_from tells settled 1 cs replies
  whole cs replies settled = told_is tells settled 1 cs replies

  -- without a reply there is nothing
  pub none_told : (cs : List Command) → all_told tells (book_entries cs [] []) ≡ []
  none_told cs = whole cs [] [] ∙ go 1 cs
    where
      go : (k : ℕ) (cs : List Command) → told_from tells [] k cs [] ≡ []
      go k [] = refl
      go k (c ∷ cs) = ap (λ (l : List A). l ++ told_from tells [] (k + 1) cs []) (silent k c.act) ∙ go (k + 1) cs

  pub more_entries : (cs : List Command) (replies : List Answer) (settled : Settled) (c : Command)
      → length replies ≤ length cs → accepted_of (length cs + 1) settled ≡ None
      → all_told tells (book_entries (cs ++ c ∷ []) replies settled) ≡ all_told tells (book_entries cs replies settled)
  more_entries cs replies settled c few none =
      whole (cs ++ c ∷ []) replies settled
      ∙ entry_told tells silent settled (length cs + 1) 1 cs replies c (omega arith) few none ∙ sym (whole cs replies settled)

  pub more_replies : (n : ℕ) (cs : List Command) (replies : List Answer) (settled : Settled) (a : Answer) (c : Command)
      → n ≡ length replies + 1 → slice_get cs (length replies) ≡ Some c
      → accepted_of n settled ≡ None
      → IsPermutation (all_told tells (book_entries cs replies settled) ++ tells n c.act (Some a))
      (all_told tells (book_entries cs (replies ++ a ∷ []) settled))
  more_replies n cs replies settled a c is there none =
      subst₂ IsPermutation (ap (λ l. l ++ tells n c.act (Some a)) (sym (whole cs replies settled))) (sym (whole cs (replies ++ a ∷ []) settled))
      (reply_told tells silent settled n 1 cs replies a c (omega (arith, is)) there none)

  module _ (refused : (n : ℕ) (act : Act) (answer : Answer) → answer.status ≢ 200 → tells n act (Some answer) ≡ []) where
    pub more_settled : (n i : ℕ) (cs : List Command) (replies : List Answer) (settled : Settled) (c : Command) (r b : Answer)
        → n ≡ i + 1 → slice_get cs i ≡ Some c
        → slice_get replies i ≡ Some r → r.status ≢ 200 → b.status ≡ 200 → accepted_of n settled ≡ None
        → IsPermutation (all_told tells (book_entries cs replies settled) ++ tells n c.act (Some b))
        (all_told tells (book_entries cs replies (settled ++ (n, b) ∷ [])))
    more_settled n i cs replies settled c r b is there told other done none =
        subst₂ IsPermutation (ap (λ l. l ++ tells n c.act (Some b)) (sym (whole cs replies settled))) (sym (whole cs replies (settled ++ (n, b) ∷ [])))
        (settled_told tells refused settled n 1 i cs replies c r b (omega (arith, is)) there told other done none)

  -- only accepted settlements matter
  pub alike_settled : (cs : List Command) (replies : List Answer) (one two : Settled) → ((m : ℕ) → accepted_of m one ≡ accepted_of m two)
      → all_told tells (book_entries cs replies one) ≡ all_told tells (book_entries cs replies two)
  alike_settled cs replies one two same = whole cs replies one ∙ told_alike tells one two 1 cs replies (λ m low. same m) ∙ sym (whole cs replies two)

-- ---- rents and returns

pub rents_silent : (n : ℕ) (act : Act) → rents_told n act None ≡ []
rents_silent n (Rent customer copy) = refl
rents_silent n act = refl

pub returns_silent : (n : ℕ) (act : Act) → returns_told n act None ≡ []
returns_silent n (TakeBack rental) = refl
returns_silent n act = refl

no_rental : (answer : Answer) → answer.status ≢ 200 → rental_told answer ≡ None
no_rental answer other = rw (differ_test answer.status 200 other) refl

pub rents_refused : (n : ℕ) (act : Act) (answer : Answer) → answer.status ≢ 200 → rents_told n act (Some answer) ≡ []
rents_refused n (Rent customer copy) answer other =
    ap (λ (o : Option ℕ). map (λ (rental : ℕ). record { copy = copy; number = n; rental = rental; customer = customer }) (option_to_list o))
    (no_rental answer other)
rents_refused n act answer other = refl

pub returns_refused : (n : ℕ) (act : Act) (answer : Answer) → answer.status ≢ 200 → returns_told n act (Some answer) ≡ []
returns_refused n (TakeBack rental) answer other = rw (differ_test answer.status 200 other) refl
returns_refused n act answer other = refl
