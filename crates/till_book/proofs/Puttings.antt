-- The journal after the statements of one change.
use Rattle.sql_rows.proofs.Common.{◌≡◌, ◌≢◌, ◌∙◌, ◌+◌, ◌<◌, ◌≤◌, ◌==◌, ℕ, zero, suc, Bool, true, false, List, [], ◌∷◌, ◌++◌, map, filter, length, slice_get}
use Rattle.sql_rows.proofs.Common.{Option, Some, None, refl, sym, ap, subst, subst₂, arith, inl, inr, cases_Bool, append-nil, map_push, IsPermutation}
use Rattle.sql_rows.proofs.Common.{IsPermutation-map, IsPermutation-refl, IsPermutation-trans, State, Trees, HasRows, IsOf, IsKeyed, Holds, if◌then◌else◌}
use Rattle.std.proofs.lemmas.List.{length-append, length-map}
use Rattle.shop_model.proofs.Common.{map-append}
use Rattle.sqlite_value.specs.Order as sql
use Rattle.sqlite_keyed.specs.Lists.{delete_where}
use Rattle.shop_model.specs.Rows.{numbered}
use Rattle.shop_model.specs.Values.{Act, Command}
use Rattle.shop_model.specs.Answers.{Answer}
use Rattle.shop_model.proofs.RowLemmas.{numbered_push, same_if, differ_if}
use Rattle.shop_model.proofs.Resends.{same_some, same_none}
use Rattle.till_model.specs.Settled.{accepted_of, book_entries}
use Rattle.till_book.specs.Tables.{book_schema, entry_table, reply_table, settled_table, unsure_table, rented_table, returned_table}
use Rattle.till_book.specs.Saying.{Says, Say}
use Rattle.till_book.specs.Marks.{Rented, Returned, rents_told, returns_told, all_told, rented_in, returned_in, is_unsure}
use Rattle.till_book.specs.Journal.{Journal, IsJournal, StandsFor, AreMarked, entry_columns, reply_columns, unsure_columns, rented_columns, returned_columns}
use Rattle.till_book.specs.Journal.{settled_of, is_refused, unsure_of, entries_in, with_entry, with_reply, with_settled, IsUnsettled, PutsEntry, PutsReply}
use Rattle.till_book.specs.Journal.{PutsRefused, PutsSettled, Finds, FindsEntry}
use Rattle.till_book.specs.Statements.{Adds, HasAdded, DropsUnsure, HasDropped, Marks, HasMarked, rents_marked, returns_marked, unsure_marked}
use Rattle.till_book.specs.Marking.{IsMarkOf}
use Rattle.till_book.specs.declared.marks.EntryMark.{EntryMark}
use Rattle.till_book.specs.declared.marks.EntryMark.TheVariants as mark
use Rattle.till_book.proofs.Saids.{as_long, said_at, say_before}
use Rattle.till_book.proofs.Marked.{accepted_other, accepted_not, more_entries, more_replies, more_settled, alike_settled, rents_silent, returns_silent}
use Rattle.till_book.proofs.Marked.{rents_refused, returns_refused}
use Rattle.till_book.proofs.Refusals.{refused_at, stay_refused, one_refused, none_settled, none_accepted, one_if, unsure_more, unsure_less, unsure_once}
use Rattle.till_book.proofs.Numbers.{differ_push, none_of, nothing_in}

-- the added row is the next numbered one
pushed : {A : Type 0} (columns : ℕ × A → sql.Row) (xs : List A) (x : A) (n : ℕ) → n ≡ length xs + 1
    → map columns (numbered xs) ++ columns (n, x) ∷ [] ≡ map columns (numbered (xs ++ x ∷ []))
pushed {A = A} columns xs x n is =
    let number : n ≡ 1 + length xs = omega arith in
    ap (λ (m : ℕ). map columns (numbered xs) ++ columns (m, x) ∷ []) number
    ∙ sym (map_push columns (numbered xs) (1 + length xs, x))
    ∙ ap (map columns) (sym (numbered_push 1 xs x))

-- a table that didn't change has the same rows
moved : (width : ℕ) (old new rows : List sql.Row) → new ≡ old → HasRows width old rows → HasRows width new rows
moved width old new rows same has = subst (λ (tree : List sql.Row). HasRows width tree rows) (sym same) has

-- the rows of a table stand for another list with the same items
other_items : {A : Type 0} (width : ℕ) (tree : List sql.Row) (columns : A → sql.Row) (xs ys : List A)
    → IsPermutation xs ys → HasRows width tree (map columns xs) → HasRows width tree (map columns ys)
other_items width tree columns xs ys same has = IsPermutation-trans _ _ _ has (IsPermutation-map columns xs ys same)

-- ---- an entry more

module _ (n : ℕ) (request : List ℕ) (it : Journal) (is : n ≡ length it.entries + 1) (sound : IsJournal it) where
  entered : Journal
  entered = with_entry request it

  module _ {A : Type 0} (tells : ℕ → Act → Option Answer → List A) (silent : (n : ℕ) (act : Act) → tells n act None ≡ []) where
    -- an entry without a reply adds nothing
    entry_tells : (commands : List Command) → Say (it.entries ++ request ∷ []) commands
        → (before : List Command) × Say it.entries before
        × (all_told tells (entries_in before it) ≡ all_told tells (book_entries commands it.replies it.settled))
    entry_tells commands say =
        let split = say_before it.entries request commands say in
        let long : length split.0 ≡ length it.entries = as_long it.entries split.0 split.3 in
        let none : accepted_of (length split.0 + 1) it.settled ≡ None =
        none_accepted (length split.0 + 1) it.settled
        (none_settled it.replies it.settled (length split.0 + 1) sound.refused (omega (arith, long, sound.answered))) in (
          split.0,
          split.3,
          sym (more_entries tells silent split.0 it.replies it.settled split.1 (omega (arith, long, sound.answered)) none)
              ∙ ap (λ (cs : List Command). all_told tells (book_entries cs it.replies it.settled)) (sym split.2),
        )

pub puts_entry : (n : ℕ) (request : List ℕ) (old new : State) → Adds entry_table 2 (entry_columns (n, request)) old new → PutsEntry n request old new
puts_entry n request old new adds it holds next =
    let done = adds holds.schema_is in
    let s = holds.stands in
    record {
      schema_is = done.schema_is;
      keyed = done.keyed holds.keyed;
      stands = record {
        entries = subst (HasRows 2 (new.now.trees 0)) (pushed entry_columns it.entries request n next) (done.rows _ s.entries);
        replies = moved 3 (old.now.trees 2) (new.now.trees 2) _ (done.others.1.0 (λ e. absurd (omega (arith, e)))) s.replies;
        settled = moved 3 (old.now.trees 4) (new.now.trees 4) _ (done.others.1.1.0 (λ e. absurd (omega (arith, e)))) s.settled;
        is = record {
          once = s.is.once;
          refused = s.is.refused;
          answered = let long = length-append it.entries (request ∷ []) in omega (arith, long, s.is.answered);
        };
        unsure = moved 1 (old.now.trees 6) (new.now.trees 6) _ (done.others.1.1.1.0 (λ e. absurd (omega (arith, e)))) s.unsure;
        rented = λ commands say.
            let told = entry_tells n request it next s.is rents_told rents_silent commands say in
            subst (λ (l : List Rented). HasRows 4 (new.now.trees 8) (map rented_columns l)) told.2
            (moved 4 (old.now.trees 8) (new.now.trees 8) _ (done.others.1.1.1.1.0 (λ e. absurd (omega (arith, e)))) (s.rented told.0 told.1));
        returned = λ commands say.
            let told = entry_tells n request it next s.is returns_told returns_silent commands say in
            subst (λ (l : List Returned). HasRows 2 (new.now.trees 10) (map returned_columns l)) told.2
            (moved 2 (old.now.trees 10) (new.now.trees 10) _ (done.others.1.1.1.1.1.0 (λ e. absurd (omega (arith, e)))) (s.returned told.0 told.1));
      };
    }

-- ---- what a mark adds

marked : {A : Type 0} (width : ℕ) (tree : List sql.Row) (columns : A → sql.Row) (xs more told ys : List A) → more ≡ told → IsPermutation (xs ++ told) ys
    → HasRows width tree (map columns xs ++ map columns more) → HasRows width tree (map columns ys)
marked width tree columns xs more told ys are same has =
    other_items width tree columns (xs ++ told) ys same
    (subst (HasRows width tree) (ap (λ l. map columns xs ++ map columns l) are ∙ sym (map-append columns xs told)) has)

if_one : (b : Bool) (n : ℕ) → (if b then n ∷ [] else []) ≡ one_if b n
if_one true n = refl
if_one false n = refl

-- ---- a reply more

pub marks_reply : (n : ℕ) (answer : Answer) (request : List ℕ) (sign : EntryMark) (two new : State) (it : Journal)
    → n ≡ length it.replies + 1 → slice_get it.entries (length it.replies) ≡ Some request
    → IsMarkOf request answer (is_unsure answer) sign → HasMarked n sign two new → AreMarked two.now.trees it → AreMarked new.now.trees (with_reply answer it)
marks_reply n answer request sign two new it next there is_mark done s =
    let low : length it.replies < n = omega (arith, next) in
    let unsettled : settled_of n it.settled ≡ [] = none_settled it.replies it.settled n s.is.refused low in
    let none : accepted_of n it.settled ≡ None = none_accepted n it.settled unsettled in
    record {
      is = record {
        once = s.is.once;
        refused = stay_refused it.replies it.settled answer s.is.refused;
        answered =
            let long = length-append it.replies (answer ∷ []) in let room = inside it.entries (length it.replies) request there in omega (arith, long, room);
      };
      unsure =
          subst (HasRows 1 (new.now.trees 6))
          (ap (λ (l : List ℕ). map unsure_columns (unsure_of it) ++ map unsure_columns l) (is_mark.unsure n ∙ if_one (is_unsure answer) n)
          ∙ sym (map-append unsure_columns (unsure_of it) (one_if (is_unsure answer) n))
          ∙ ap (map unsure_columns) (sym (unsure_more it n answer next unsettled)))
          (done.unsure _ s.unsure);
      rented = λ commands say.
          let said = said_at it.entries commands (length it.replies) request say there in
          marked 4 (new.now.trees 8) rented_columns (rented_in (entries_in commands it))
          (rents_marked n sign) (rents_told n said.0.act (Some answer)) _ (is_mark.rents said.0 said.2 n)
          (more_replies rents_told rents_silent n commands it.replies it.settled answer said.0 next said.1 none)
          (done.rented _ (s.rented commands say));
      returned = λ commands say.
          let said = said_at it.entries commands (length it.replies) request say there in
          marked 2 (new.now.trees 10) returned_columns (returned_in (entries_in commands it))
          (returns_marked n sign) (returns_told n said.0.act (Some answer)) _ (is_mark.returns said.0 said.2 n)
          (more_replies returns_told returns_silent n commands it.replies it.settled answer said.0 next said.1 none)
          (done.returned _ (s.returned commands say));
    }
  where
    inside : {A : Type 0} (xs : List A) (i : ℕ) (x : A) → slice_get xs i ≡ Some x → i < length xs
    inside [] i x is = absurd (same_none x is)
    inside (y ∷ xs) zero x is = omega arith
    inside (y ∷ xs) (suc i) x is = omega (arith, inside xs i x is)

pub puts_reply : (n : ℕ) (answer : Answer) (request : List ℕ) (sign : EntryMark) (old one two new : State)
    → FindsEntry n (Some request) old one → Adds reply_table 3 (reply_columns (n, answer)) one two
    → IsMarkOf request answer (is_unsure answer) sign → Marks n sign two new → PutsReply n answer old new
puts_reply n answer request sign old one two new finds adds is_mark marks it first next =
    let found = finds it first in
    let holds = found.0 in
    let added = adds holds.schema_is in
    let done = marks added.schema_is in
    let s = holds.stands in
    let there : slice_get it.entries (length it.replies) ≡ Some request = sym (found.1 (length it.replies) next) in
    let before : AreMarked two.now.trees it = record {
      is = s.is;
      unsure = moved 1 (one.now.trees 6) (two.now.trees 6) _ (added.others.1.1.1.0 (λ e. absurd (omega (arith, e)))) s.unsure;
      rented = λ commands say. moved 4 (one.now.trees 8) (two.now.trees 8) _ (added.others.1.1.1.1.0 (λ e. absurd (omega (arith, e)))) (s.rented commands say);
      returned =
          λ commands say. moved 2 (one.now.trees 10) (two.now.trees 10) _ (added.others.1.1.1.1.1.0 (λ e. absurd (omega (arith, e)))) (s.returned commands say);
    } in
    let now = marks_reply n answer request sign two new it next there is_mark done before in
    record {
      schema_is = done.schema_is;
      keyed = done.keyed (added.keyed holds.keyed);
      stands = record {
        entries = moved 2 (one.now.trees 0) (new.now.trees 0) _ (done.entries ∙ added.others.0 (λ e. absurd (omega (arith, e)))) s.entries;
        replies =
            moved 3 (two.now.trees 2) (new.now.trees 2) _ done.replies
            (subst (HasRows 3 (two.now.trees 2)) (pushed reply_columns it.replies answer n next) (added.rows _ s.replies));
        settled = moved 3 (one.now.trees 4) (new.now.trees 4) _ (done.settled ∙ added.others.1.1.0 (λ e. absurd (omega (arith, e)))) s.settled;
        is = now.is;
        unsure = now.unsure;
        rented = now.rented;
        returned = now.returned;
      };
    }

-- ---- a settlement more

module _ (n : ℕ) (answer : Answer) (request : List ℕ) (sign : EntryMark) (it : Journal) (i : ℕ)
    (r : Answer) (is : n ≡ i + 1) (replied : slice_get it.replies i ≡ Some r) (other : r.status ≢ 200)
    (there : slice_get it.entries i ≡ Some request) (none : accepted_of n it.settled ≡ None) {A : Type 0}
    (tells : ℕ → Act → Option Answer → List A) (silent : (n : ℕ) (act : Act) → tells n act None ≡ [])
    (refused : (n : ℕ) (act : Act) (answer : Answer) → answer.status ≢ 200 → tells n act (Some answer) ≡ []) where
  settlement_tells : (commands : List Command) (said : Command) → slice_get commands i ≡ Some said
      → IsPermutation (all_told tells (entries_in commands it) ++ tells n said.act (Some answer))
      (all_told tells (entries_in commands (with_settled n answer it)))
  settlement_tells commands said is_said = elim (cases_Bool (answer.status == 200)) [
    | inl done ↦
        more_settled tells silent refused n i commands it.replies it.settled said r answer is is_said replied other (same_if answer.status 200 done) none
    | inr fails ↦
        let not_done : answer.status ≢ 200 = differ_if answer.status 200 fails in
        let nothing : tells n said.act (Some answer) ≡ [] = refused n said.act answer not_done in
        subst (IsPermutation (all_told tells (entries_in commands it) ++ tells n said.act (Some answer)))
        (ap (λ l. all_told tells (entries_in commands it) ++ l) nothing ∙ append-nil _
        ∙ alike_settled tells silent commands it.replies it.settled (it.settled ++ (n, answer) ∷ []) (λ m. sym (accepted_not m n answer it.settled not_done)))
        (same_bag (all_told tells (entries_in commands it) ++ tells n said.act (Some answer)))
  ]
    where
      same_bag : (xs : List A) → IsPermutation xs xs
      same_bag xs = IsPermutation-refl xs

pub marks_settled : (n : ℕ) (answer : Answer) (request : List ℕ) (sign : EntryMark) (three four new : State) (it : Journal)
    → settled_of n it.settled ≡ [] → is_refused it.replies n ≡ true
    → ((i : ℕ) → n ≡ i + 1 → Some request ≡ slice_get it.entries i) → IsMarkOf request answer false sign
    → HasDropped n three four → IsKeyed book_schema three → HasMarked n sign four new
    → AreMarked three.now.trees it → AreMarked new.now.trees (with_settled n answer it)
marks_settled n answer request sign three four new it unsettled refusal found is_mark dropped keyed done s =
    let place = refused_at n it.replies refusal in
    let none : accepted_of n it.settled ≡ None = none_accepted n it.settled unsettled in
    let there : slice_get it.entries place.0 ≡ Some request = sym (found place.0 place.2) in
    record {
      is = record {
        once =
            differ_push n answer it.settled s.is.once
            (none_of n it.settled (nothing_in (λ (x : ℕ × Answer). x.1) (filter (λ (x : ℕ × Answer). x.0 == n) it.settled) unsettled));
        refused = one_refused it.replies it.settled n answer s.is.refused refusal;
        answered = s.is.answered;
      };
      unsure =
          subst (HasRows 1 (new.now.trees 6))
          (ap (λ (l : List ℕ). map unsure_columns (delete_where (λ (m : ℕ). m == n) (unsure_of it)) ++ map unsure_columns l) (is_mark.unsure n)
          ∙ append-nil _ ∙ ap (map unsure_columns) (sym (unsure_less it n answer)))
          (done.unsure _ (dropped.rows keyed (unsure_of it) s.unsure (unsure_once it n)));
      rented = λ commands say.
          let said = said_at it.entries commands place.0 request say there in
          marked 4 (new.now.trees 8) rented_columns (rented_in (entries_in commands it))
          (rents_marked n sign) (rents_told n said.0.act (Some answer)) _ (is_mark.rents said.0 said.2 n)
          (settlement_tells n answer request sign it place.0 place.1 place.2 place.3 place.4
          there none rents_told rents_silent rents_refused commands said.0 said.1)
          (done.rented _
          (moved 4 (three.now.trees 8) (four.now.trees 8) _ (dropped.others.1.1.1.1.0 (λ e. absurd (omega (arith, e)))) (s.rented commands say)));
      returned = λ commands say.
          let said = said_at it.entries commands place.0 request say there in
          marked 2 (new.now.trees 10) returned_columns (returned_in (entries_in commands it))
          (returns_marked n sign) (returns_told n said.0.act (Some answer)) _ (is_mark.returns said.0 said.2 n)
          (settlement_tells n answer request sign it place.0 place.1 place.2 place.3 place.4
          there none returns_told returns_silent returns_refused commands said.0 said.1)
          (done.returned _
          (moved 2 (three.now.trees 10) (four.now.trees 10) _ (dropped.others.1.1.1.1.1.0 (λ e. absurd (omega (arith, e)))) (s.returned commands say)));
    }

pub puts_refused : (n : ℕ) (answer : Answer) (request : List ℕ) (sign : EntryMark) (one two three four new : State)
    → FindsEntry n (Some request) one two → Adds settled_table 3 (reply_columns (n, answer)) two three → DropsUnsure n three four
    → IsMarkOf request answer false sign → Marks n sign four new → PutsRefused n answer one new
puts_refused n answer request sign one two three four new finds adds drops is_mark marks it before given =
    let found = finds it before in
    let holds = found.0 in
    let added = adds holds.schema_is in
    let dropped = drops added.schema_is in
    let done = marks dropped.schema_is in
    let s = holds.stands in
    let keyed = added.keyed holds.keyed in
    let first : AreMarked three.now.trees it = record {
      is = s.is;
      unsure = moved 1 (two.now.trees 6) (three.now.trees 6) _ (added.others.1.1.1.0 (λ e. absurd (omega (arith, e)))) s.unsure;
      rented =
          λ commands say. moved 4 (two.now.trees 8) (three.now.trees 8) _ (added.others.1.1.1.1.0 (λ e. absurd (omega (arith, e)))) (s.rented commands say);
      returned = λ commands say.
          moved 2 (two.now.trees 10) (three.now.trees 10) _ (added.others.1.1.1.1.1.0 (λ e. absurd (omega (arith, e)))) (s.returned commands say);
    } in
    let now = marks_settled n answer request sign three four new it given.0 given.1 found.1 is_mark dropped keyed done first in
    record {
      schema_is = done.schema_is;
      keyed = done.keyed (dropped.keyed keyed);
      stands = record {
        entries =
            moved 2 (two.now.trees 0) (new.now.trees 0) _
            (done.entries ∙ dropped.others.0 (λ e. absurd (omega (arith, e))) ∙ added.others.0 (λ e. absurd (omega (arith, e)))) s.entries;
        replies =
            moved 3 (two.now.trees 2) (new.now.trees 2) _
            (done.replies ∙ dropped.others.1.0 (λ e. absurd (omega (arith, e))) ∙ added.others.1.0 (λ e. absurd (omega (arith, e)))) s.replies;
        settled =
            moved 3 (three.now.trees 4) (new.now.trees 4) _ (done.settled ∙ dropped.others.1.1.0 (λ e. absurd (omega (arith, e))))
            (subst (HasRows 3 (three.now.trees 4)) (sym (map_push reply_columns it.settled (n, answer))) (added.rows _ s.settled));
        is = now.is;
        unsure = now.unsure;
        rented = now.rented;
        returned = now.returned;
      };
    }

pub puts_settled : (n : ℕ) (answer : Answer) (is : Bool) (old one new : State)
    → Finds (λ it. is ≡ is_refused it.replies n) old one → is ≡ true → PutsRefused n answer one new → PutsSettled n answer old new
puts_settled n answer is old one new finds refusal puts it before unsettled = let found = finds it before in puts it found.0 (unsettled, sym found.1 ∙ refusal)

-- ---- marks

same_rows : (width : ℕ) (old new rows : List sql.Row) → new ≡ old → HasRows width old rows → HasRows width new (rows ++ [])
same_rows width old new rows same has = subst (HasRows width new) (sym (append-nil rows)) (moved width old new rows same has)

pub marks_rent : (copy n rental customer : ℕ) (old new : State)
    → Adds rented_table 4 (rented_columns (record { copy = copy; number = n; rental = rental; customer = customer })) old new
    → Marks n (mark.Rent copy rental customer) old new
marks_rent copy n rental customer old new adds has =
    let done = adds has in
    record {
      schema_is = done.schema_is;
      keyed = done.keyed;
      entries = done.others.0 (λ e. absurd (omega (arith, e)));
      replies = done.others.1.0 (λ e. absurd (omega (arith, e)));
      settled = done.others.1.1.0 (λ e. absurd (omega (arith, e)));
      unsure = λ rows h. same_rows 1 (old.now.trees 6) (new.now.trees 6) rows (done.others.1.1.1.0 (λ e. absurd (omega (arith, e)))) h;
      rented = done.rows;
      returned = λ rows h. same_rows 2 (old.now.trees 10) (new.now.trees 10) rows (done.others.1.1.1.1.1.0 (λ e. absurd (omega (arith, e)))) h;
    }

pub marks_return : (rental n : ℕ) (old new : State)
    → Adds returned_table 2 (returned_columns (record { rental = rental; number = n })) old new → Marks n (mark.Return rental) old new
marks_return rental n old new adds has =
    let done = adds has in
    record {
      schema_is = done.schema_is;
      keyed = done.keyed;
      entries = done.others.0 (λ e. absurd (omega (arith, e)));
      replies = done.others.1.0 (λ e. absurd (omega (arith, e)));
      settled = done.others.1.1.0 (λ e. absurd (omega (arith, e)));
      unsure = λ rows h. same_rows 1 (old.now.trees 6) (new.now.trees 6) rows (done.others.1.1.1.0 (λ e. absurd (omega (arith, e)))) h;
      rented = λ rows h. same_rows 4 (old.now.trees 8) (new.now.trees 8) rows (done.others.1.1.1.1.0 (λ e. absurd (omega (arith, e)))) h;
      returned = done.rows;
    }

pub marks_unsure : (n : ℕ) (old new : State) → Adds unsure_table 1 (unsure_columns n) old new → Marks n mark.Unsure old new
marks_unsure n old new adds has =
    let done = adds has in
    record {
      schema_is = done.schema_is;
      keyed = done.keyed;
      entries = done.others.0 (λ e. absurd (omega (arith, e)));
      replies = done.others.1.0 (λ e. absurd (omega (arith, e)));
      settled = done.others.1.1.0 (λ e. absurd (omega (arith, e)));
      unsure = done.rows;
      rented = λ rows h. same_rows 4 (old.now.trees 8) (new.now.trees 8) rows (done.others.1.1.1.1.0 (λ e. absurd (omega (arith, e)))) h;
      returned = λ rows h. same_rows 2 (old.now.trees 10) (new.now.trees 10) rows (done.others.1.1.1.1.1.0 (λ e. absurd (omega (arith, e)))) h;
    }

pub marks_nothing : (n : ℕ) (s : State) → Marks n mark.Nothing s s
marks_nothing n s has = record {
  schema_is = has;
  keyed = λ keyed. keyed;
  entries = refl;
  replies = refl;
  settled = refl;
  unsure = λ rows h. same_rows 1 (s.now.trees 6) (s.now.trees 6) rows refl h;
  rented = λ rows h. same_rows 4 (s.now.trees 8) (s.now.trees 8) rows refl h;
  returned = λ rows h. same_rows 2 (s.now.trees 10) (s.now.trees 10) rows refl h;
}

-- the same for a mark that is known to be a rent
pub marks_rent_as : (it : EntryMark) (copy n rental customer : ℕ) (old new : State) → it ≡ mark.Rent copy rental customer
    → Adds rented_table 4 (rented_columns (record { copy = copy; number = n; rental = rental; customer = customer })) old new → Marks n it old new
marks_rent_as it copy n rental customer old new is adds = subst (λ (m : EntryMark). Marks n m old new) (sym is) (marks_rent copy n rental customer old new adds)

pub marks_return_as : (it : EntryMark) (rental n : ℕ) (old new : State) → it ≡ mark.Return rental
    → Adds returned_table 2 (returned_columns (record { rental = rental; number = n })) old new → Marks n it old new
marks_return_as it rental n old new is adds = subst (λ (m : EntryMark). Marks n m old new) (sym is) (marks_return rental n old new adds)

pub marks_unsure_as : (it : EntryMark) (n : ℕ) (old new : State) → it ≡ mark.Unsure → Adds unsure_table 1 (unsure_columns n) old new → Marks n it old new
marks_unsure_as it n old new is adds = subst (λ (m : EntryMark). Marks n m old new) (sym is) (marks_unsure n old new adds)

pub marks_nothing_as : (it : EntryMark) (n : ℕ) (s : State) → it ≡ mark.Nothing → Marks n it s s
marks_nothing_as it n s is = subst (λ (m : EntryMark). Marks n m s s) (sym is) (marks_nothing n s)
