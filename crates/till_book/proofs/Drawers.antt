-- What is read of the book for the drawer is what came since a closing.
use Rattle.sql_rows.proofs.Common.{◌≡◌, ◌∙◌, ◌+◌, ◌<◌, ◌≤◌, ◌==◌, ◌&&◌, ◌||◌, ℕ, zero, suc, Bool, not, true, false, List, [], ◌∷◌, ◌++◌, map}
use Rattle.sql_rows.proofs.Common.{length, slice_get, Option, Some, None, option_map, refl, sym, ap, subst, arith, inl, inr, cases_Bool, nat_tests, Differ}
use Rattle.sql_rows.proofs.Common.{append_assoc, append-nil}
use Rattle.std.specs.Prelude.{is_some, nat_lt, drop, get_or, if◌then◌else◌}
use Rattle.shop_model.specs.Values.{Command}
use Rattle.shop_model.specs.Answers.{Answer}
use Rattle.shop_model.proofs.Resends.{same_some, same_none}
use Rattle.till_model.specs.Tills.{Entry}
use Rattle.till_model.specs.Laws.{entries_of}
use Rattle.till_book.specs.Saying.{Say, Says}
use Rattle.till_book.specs.Journal.{Journal}
use Rattle.till_book.specs.Read.{in_order}
use Rattle.till_book.specs.Ends.{IsReadAfter}
use Rattle.till_book.specs.Drawer.{Came, late_of, is_among, is_new, is_answered, came, counted_of, counts, counted_from, counted_since, IsSince}
use Rattle.till_book.specs.declared.drawer.Counted.TheVariants as counted
use Rattle.till_book.specs.declared.drawer.DrawerRows.{DrawerRows}
use Rattle.till_book.specs.declared.lists.BookRows.{BookRows}
use Rattle.till_book.proofs.Numbers.{number}
use Rattle.till_book.proofs.Saids.{said_at, as_long}
use Rattle.till_book.proofs.InOrder.{accepted_in_order}
use Rattle.till_book.proofs.Differences.{late_is}

-- ---- entries after a number

say_drop : (n : ℕ) (entries : List (List ℕ)) (commands : List Command) → Say entries commands → Say (drop n entries) (drop n commands)
say_drop zero entries commands say = say
say_drop (suc n) [] [] say = tt
say_drop (suc n) [] (c ∷ commands) say = absurd say
say_drop (suc n) (b ∷ entries) [] say = absurd say
say_drop (suc n) (b ∷ entries) (c ∷ commands) say = say_drop n entries commands say.1

drop_nothing : {A : Type 0} (n : ℕ) → ◌≡◌ {A = List A} (drop n []) []
drop_nothing zero = refl
drop_nothing (suc n) = refl

drop_entries : (n : ℕ) (commands : List Command) (replies : List Answer)
    → entries_of (drop n commands) (drop n replies) ≡ drop n (entries_of commands replies)
drop_entries zero commands replies = refl
drop_entries (suc n) [] replies = refl
drop_entries (suc n) (c ∷ commands) [] = ap (entries_of (drop n commands)) (sym (drop_nothing n)) ∙ drop_entries n commands []
drop_entries (suc n) (c ∷ commands) (a ∷ replies) = drop_entries n commands replies

entry_there : (commands : List Command) (replies : List Answer) (i : ℕ) (c : Command) → slice_get commands i ≡ Some c
    → slice_get (entries_of commands replies) i ≡ Some (record { command = c; reply = slice_get replies i })
entry_there [] replies i c there = absurd (same_none c there)
entry_there (x ∷ commands) [] zero c there = ap (λ (it : Command). Some (record { command = it; reply = None })) (same_some x c there)
entry_there (x ∷ commands) [] (suc i) c there =
    entry_there commands [] i c there ∙ ap (λ (o : Option Answer). Some (record { command = c; reply = o })) (nothing_at i)
  where
    nothing_at : (i : ℕ) → ◌≡◌ {A = Option Answer} (slice_get [] i) None
    nothing_at zero = refl
    nothing_at (suc i) = refl
entry_there (x ∷ commands) (a ∷ replies) zero c there = ap (λ (it : Command). Some (record { command = it; reply = Some a })) (same_some x c there)
entry_there (x ∷ commands) (a ∷ replies) (suc i) c there = entry_there commands replies i c there

next_of : {A : Type 0} (xs : List A) (i : ℕ) (x : A) → slice_get xs i ≡ Some x → drop i xs ≡ x ∷ drop (i + 1) xs
next_of [] i x there = absurd (same_none x there)
next_of (y ∷ xs) zero x there = ap (λ (it : _). it ∷ xs) (same_some y x there)
next_of (y ∷ xs) (suc i) x there =
    let place : suc i + 1 ≡ suc (i + 1) = omega arith in
    next_of xs i x there ∙ ap (λ (m : ℕ). x ∷ drop m (y ∷ xs)) (sym place)

pub at_place : {X Y : Type 0} (f : X → Y) (xs : List X) (i : ℕ) (x : X) → i < length xs → x ≡ get_or xs i x → slice_get (map f xs) i ≡ Some (f x)
at_place f [] i x low is = absurd (omega (arith, low))
at_place f (y ∷ xs) zero x low is = ap (λ z. Some (f z)) (sym is)
at_place f (y ∷ xs) (suc i) x low is = at_place f xs i x (omega (arith, low)) is

pub past : {X Y : Type 0} (f : X → Y) (xs : List X) (i : ℕ) → length xs ≤ i → slice_get (map f xs) i ≡ None
past f [] i high = refl
past f (y ∷ xs) zero high = absurd (omega (arith, high))
past f (y ∷ xs) (suc i) high = past f xs i (omega (arith, high))

-- nothing is left to count after the last entry
pub all_counted : (n : ℕ) (known late : List ℕ) (k i : ℕ) (entries : List (List ℕ)) (commands : List Command) (replies : List Answer) (all : List Came)
    → Say entries commands → length entries ≤ i
    → all ++ counted_from n known late (k + i) (drop i (entries_of commands replies)) ≡ counted_from n known late k (entries_of commands replies)
    → all ≡ counted_from n known late k (entries_of commands replies)
all_counted n known late k i entries commands replies all say high is =
    let long : length (entries_of commands replies) ≤ i = omega (arith, high, as_long entries commands say, as_many commands replies) in
    sym (append-nil all) ∙ ap (λ l. all ++ counted_from n known late (k + i) l) (sym (gone i (entries_of commands replies) long)) ∙ is
  where
    as_many : (commands : List Command) (replies : List Answer) → length (entries_of commands replies) ≡ length commands
    as_many [] replies = refl
    as_many (c ∷ commands) [] = ap (λ (m : ℕ). suc m) (as_many commands [])
    as_many (c ∷ commands) (a ∷ replies) = ap (λ (m : ℕ). suc m) (as_many commands replies)

    gone : {A : Type 0} (i : ℕ) (xs : List A) → length xs ≤ i → drop i xs ≡ []
    gone zero [] high = refl
    gone (suc i) [] high = refl
    gone zero (x ∷ xs) high = absurd (omega (arith, high))
    gone (suc i) (x ∷ xs) high = gone i xs (omega (arith, high))

-- one entry more is counted
pub one_counted : (n : ℕ) (known late : List ℕ) (k i : ℕ) (entries : List (List ℕ)) (request : List ℕ) (commands : List Command) (replies : List Answer)
    (so_far more : List Came) → Say entries commands → slice_get entries i ≡ Some request
    → ((command : Command) → Says request command → more ≡ counts n known late (k + i) (record { command = command; reply = slice_get replies i }))
    → so_far ++ counted_from n known late (k + i) (drop i (entries_of commands replies)) ≡ counted_from n known late k (entries_of commands replies)
    → (so_far ++ more) ++ counted_from n known late (k + (i + 1)) (drop (i + 1) (entries_of commands replies))
    ≡ counted_from n known late k (entries_of commands replies)
one_counted n known late k i entries request commands replies so_far more say there counts_it before =
    let said = said_at entries commands i request say there in
    let entry : Entry = record { command = said.0; reply = slice_get replies i } in
    let rest : drop i (entries_of commands replies) ≡ entry ∷ drop (i + 1) (entries_of commands replies) =
    next_of (entries_of commands replies) i entry (entry_there commands replies i said.0 said.1) in
    let place : k + (i + 1) ≡ k + i + 1 = omega arith in
    let here : more ++ counted_from n known late (k + (i + 1)) (drop (i + 1) (entries_of commands replies))
    ≡ counted_from n known late (k + i) (drop i (entries_of commands replies)) =
    ap (λ (m : ℕ). more ++ counted_from n known late m (drop (i + 1) (entries_of commands replies))) place
    ∙ ap (λ l. l ++ counted_from n known late (k + i + 1) (drop (i + 1) (entries_of commands replies))) (counts_it said.0 said.2)
    ∙ sym (ap (counted_from n known late (k + i)) rest) in
    append_assoc so_far more (counted_from n known late (k + (i + 1)) (drop (i + 1) (entries_of commands replies)))
    ∙ ap (λ l. so_far ++ l) here ∙ before

-- ---- what was accepted late

among_alike : (journal : Journal) → Differ number journal.settled → (m : ℕ)
    → is_among m (late_of (in_order journal.settled)) ≡ is_among m (late_of journal.settled)
among_alike journal once m =
    late_is m (in_order journal.settled) ∙ ap is_some (accepted_in_order m journal.settled once) ∙ sym (late_is m journal.settled)

counted_alike : (n : ℕ) (known one two : List ℕ) → ((m : ℕ) → is_among m one ≡ is_among m two) → (k : ℕ) (entries : List Entry)
    → counted_from n known one k entries ≡ counted_from n known two k entries
counted_alike n known one two alike k [] = refl
counted_alike n known one two alike k (entry ∷ entries) =
    let more = counted_alike n known one two alike (k + 1) entries in
    let same = alike k in
    λ i. (if nat_lt n k && accepted entry || same i && not (is_among k known) then came k (counted_of entry.command) ∷ []
    else (if is_answered n k entry.reply then came k counted.Refused ∷ [] else [])) ++ more i
  where
    accepted : Entry → Bool
    accepted it = Rattle.till_book.specs.Drawer.is_accepted it.reply

-- ---- entries that needn't be read

module _ (n : ℕ) (known late : List ℕ) (from : ℕ) (low : from ≤ n)
    (before : (m : ℕ) → 0 < m → is_among m late ≡ true → is_among m known ≡ false → from < m) where
  quiet : (k : ℕ) (entry : Entry) → 0 < k → k ≤ from → counts n known late k entry ≡ []
  quiet k entry some high = elim (cases_Bool (is_among k late)) [
    | inl is ↦ elim (cases_Bool (is_among k known)) [
      | inl also ↦ rw (early, is, also) refl
      | inr isnt ↦ absurd (omega (arith, high, before k some is isnt))
    ]
    | inr isnt ↦ rw (early, isnt) refl
  ]
    where
      early : nat_lt n k ≡ false
      early = grind (arith, nat_tests)

  skipped : (i k : ℕ) (entries : List Entry) → 0 < k → k + i ≤ from + 1
      → counted_from n known late k entries ≡ counted_from n known late (k + i) (drop i entries)
  skipped zero k entries some high = let same : k ≡ k + 0 = omega arith in ap (λ (m : ℕ). counted_from n known late m entries) same
  skipped (suc i) k [] some high = refl
  skipped (suc i) k (entry ∷ entries) some high =
      let same : k + 1 + i ≡ k + suc i = omega arith in
      ap (λ l. l ++ counted_from n known late (k + 1) entries) (quiet k entry some (omega (arith, high)))
      ∙ skipped i (k + 1) entries (omega arith) (omega (arith, high)) ∙ ap (λ (m : ℕ). counted_from n known late m (drop i entries)) same

-- ---- the whole

pub is_since : (n : ℕ) (known : List ℕ) (from replies : ℕ) (rows : BookRows) (journal : Journal) (settled : List (ℕ × Answer)) (drawer : DrawerRows)
    → Differ number journal.settled → settled ≡ in_order journal.settled → drawer.late.items ≡ late_of settled → from ≤ n
    → ((m : ℕ) → 0 < m → is_among m drawer.late.items ≡ true → is_among m known ≡ false → from < m)
    → IsReadAfter from rows journal
    → ((commands : List Command) → Say rows.entries commands
    → drawer.came.items ≡ counted_from n known drawer.late.items (from + 1) (entries_of commands rows.replies))
    → drawer.replies ≡ length journal.replies → IsSince n known drawer journal
is_since n known from replies rows journal settled drawer once ordered late low before read counts_it many = record {
  counted = λ commands say.
      let es : List Entry = entries_of commands journal.replies in
      let its : drawer.late.items ≡ late_of (in_order journal.settled) = late ∙ ap late_of ordered in
      let say_rows : Say rows.entries (drop from commands) =
      subst (λ l. Say l (drop from commands)) (sym read.entries) (say_drop from journal.entries commands say) in
      let place : from + 1 ≡ 1 + from = omega arith in
      counts_it (drop from commands) say_rows
      ∙ ap (λ l. counted_from n known drawer.late.items (from + 1) (entries_of (drop from commands) l)) read.replies
      ∙ ap (counted_from n known drawer.late.items (from + 1)) (drop_entries from commands journal.replies)
      ∙ ap (λ (m : ℕ). counted_from n known drawer.late.items m (drop from es)) place
      ∙ sym (skipped n known drawer.late.items from low before from 1 es (omega arith) (omega arith))
      ∙ counted_alike n known drawer.late.items (late_of journal.settled) (λ m. ap (is_among m) its ∙ among_alike journal once m) 1 es;
  replies = many;
  late = late ∙ ap late_of ordered;
}
