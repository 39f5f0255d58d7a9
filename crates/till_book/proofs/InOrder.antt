-- Settlements in the order of their entries settle the same entries in the same way.
use Rattle.sql_rows.proofs.Common.{◌≡◌, ◌∙◌, ◌≤◌, ◌==◌, ◌&&◌, ℕ, Bool, true, false, List, [], ◌∷◌, filter, length, Option, Some, None, option_map, refl, sym}
use Rattle.sql_rows.proofs.Common.{ap, subst, arith, inl, inr, cases_Bool, IsPermutation, IsPermutation-filter, sort_by, by, Differ}
use Rattle.sqlite_keyed.proofs.ListLemmas.{ascending-filter}
use Rattle.sqlite_keyed.proofs.SortLemmas.{IsPermutation-sort_by}
use Rattle.sql_rows.proofs.Bags.{short_bag, number_total}
use Rattle.shop_model.specs.Values.{Command}
use Rattle.shop_model.specs.Answers.{Answer}
use Rattle.till_model.specs.Settled.{accepted_of, book_entries}
use Rattle.till_model.specs.Register.{rental_of}
use Rattle.till_book.specs.Marks.{Rented, rented_in, returned_in}
use Rattle.till_book.specs.Journal.{Journal, entries_in}
use Rattle.till_book.specs.Held.{last_rent, unless_returned, held_in, seen_held}
use Rattle.till_book.specs.Read.{in_order}
use Rattle.till_book.specs.declared.rents.HeldRental.{HeldRental}
use Rattle.till_book.proofs.Numbers.{number, picks_one}
use Rattle.till_book.proofs.Marked.{alike_settled, rents_silent, returns_silent}
use Rattle.till_book.proofs.ByRents.{register_by_rents}
use Rattle.till_book.specs.Marks.{rents_told, returns_told}

abbrev is_accepted : ℕ × Answer → Bool
is_accepted it = it.1.status == 200

abbrev accepts : ℕ → ℕ × Answer → Bool
accepts n it = it.0 == n && it.1.status == 200

twice : (n : ℕ) (xs : List (ℕ × Answer)) → filter (accepts n) xs ≡ filter (λ (it : ℕ × Answer). it.0 == n) (filter is_accepted xs)
twice n [] = refl
twice n (x ∷ xs) = elim (cases_Bool (x.0 == n)) [
  | inl is ↦ elim (cases_Bool (x.1.status == 200)) [
    | inl done ↦ rw (is, done) (rw is (ap (λ l. x ∷ l) (twice n xs)))
    | inr not_done ↦ rw (is, not_done) (twice n xs)
  ]
  | inr isnt ↦ elim (cases_Bool (x.1.status == 200)) [
    | inl done ↦ rw (isnt, done) (rw isnt (twice n xs))
    | inr not_done ↦ rw (isnt, not_done) (twice n xs)
  ]
]

abbrev first_of_all : List (ℕ × Answer) → Option Answer
first_of_all [] = None
first_of_all (x ∷ xs) = Some x.1

first_accepted : (n : ℕ) (xs : List (ℕ × Answer)) → accepted_of n xs ≡ first_of_all (filter (accepts n) xs)
first_accepted n [] = refl
first_accepted n (x ∷ xs) = elim (cases_Bool (x.0 == n && x.1.status == 200)) [
  | inl is ↦ rw is refl
  | inr isnt ↦ rw isnt (first_accepted n xs)
]

pub accepted_in_order : (n : ℕ) (settled : List (ℕ × Answer)) → Differ number settled → accepted_of n (in_order settled) ≡ accepted_of n settled
accepted_in_order n settled once =
    let few : length (filter (accepts n) settled) ≤ 1 =
    subst (λ (l : List (ℕ × Answer)). length l ≤ 1) (sym (twice n settled))
    (picks_one n (filter is_accepted settled) (ascending-filter _ is_accepted settled once)) in
    let same : filter (accepts n) (in_order settled) ≡ filter (accepts n) settled =
    short_bag _ _ (IsPermutation-filter (accepts n) _ _ (IsPermutation-sort_by (by number) (number_total number) settled)) few in
    first_accepted n (in_order settled) ∙ ap first_of_all same ∙ sym (first_accepted n settled)

-- ---- the register of the journal

same_held : (copy : ℕ) (commands : List Command) (journal : Journal) → Differ number journal.settled
    → held_in copy (book_entries commands journal.replies (in_order journal.settled)) ≡ held_in copy (entries_in commands journal)
same_held copy commands journal once =
    let alike : (n : ℕ) → accepted_of n (in_order journal.settled) ≡ accepted_of n journal.settled = λ n. accepted_in_order n journal.settled once in
    let rents = alike_settled rents_told rents_silent commands journal.replies (in_order journal.settled) journal.settled alike in
    let returns = alike_settled returns_told returns_silent commands journal.replies (in_order journal.settled) journal.settled alike in
    λ i. unless_returned (returns i) (last_rent copy (rents i))

pub register_is_held : (copy : ℕ) (it : Option HeldRental) (journal : Journal) (commands : List Command)
    → Differ number journal.settled → it ≡ option_map seen_held (held_in copy (entries_in commands journal))
    → option_map (λ (held : HeldRental). held.rental) it ≡ rental_of copy (book_entries commands journal.replies (in_order journal.settled))
register_is_held copy it journal commands once is =
    ap (option_map (λ (held : HeldRental). held.rental)) is ∙ twice_mapped (held_in copy (entries_in commands journal))
    ∙ ap (option_map (λ (rent : Rented). rent.rental)) (sym (same_held copy commands journal once))
    ∙ sym (register_by_rents copy (book_entries commands journal.replies (in_order journal.settled)))
  where
    twice_mapped : (o : Option Rented)
        → option_map (λ (held : HeldRental). held.rental) (option_map seen_held o) ≡ option_map (λ (rent : Rented). rent.rental) o
    twice_mapped None = refl
    twice_mapped (Some rent) = refl
