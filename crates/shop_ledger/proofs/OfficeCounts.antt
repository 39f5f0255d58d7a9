-- What head office's commands make of the books' own counts, and its count of kept commands, whose caller is 0.
use Rattle.shop_schema.proofs.Common.{◌≡◌, ◌+◌, ◌-◌, ◌<◌, ◌≤◌, ◌^◌, ◌==◌, ◌&&◌, ℕ, List, [], ◌∷◌, ◌++◌, map, filter, length, true, false, cond, not, Some, None}
use Rattle.shop_schema.proofs.Common.{refl, sym, ap, subst, ◌∙◌, arith, true≢false, IsPermutation, slice_get, AllByRecursion, list_all, nat_tests, length_push}
use Rattle.shop_schema.proofs.Common.{All-push, State, column, all-slice_get, number_value, still_holds, same_number, Row, Owned, at, lacks, is_empty, set_at}
use Rattle.shop_schema.proofs.Common.{numbered, numbered_from, Branch, Customer, Rental, Payment, OfficeAct, AddCountry, AddBranch, SetManager, OfficeCommand}
use Rattle.shop_schema.proofs.Common.{Kept, OfficeKept, Catalogue, office_acted, office_text, office_done, has_row, HasOwners, Books, BookCopy, same_if}
use Rattle.shop_schema.proofs.Common.{more_no, length_map, numbered_push, Count, Counts, is_count, branch_counts, office_count, counts_of, raise, raised}
use Rattle.shop_schema.proofs.Common.{add_count, new_count, with_branch, IsHeld, shop_schema, StandsFor, AreTermed, Holds, HoldsWith, Reads, all-permutation}
use Rattle.shop_schema.proofs.Common.{Customers, CopyRows, Rentals, Payments, all_from_test, all_weaker, filter_none, cases_Bool, inl, inr}
use Rattle.std.specs.Prelude.{flat_map}
use Rattle.sqlite.specs.State.{Shown}
use Rattle.shop_schema.proofs.Lists.{flat_map_push}
use Rattle.shop_ledger.specs.declared.counts.TheConstants.{SELECT_COUNT}
use Rattle.shop_ledger.specs.declared.counts.Count.{Count as TheCount}
use Rattle.shop_ledger.specs.declared.counts.Count.TheVariants.{OfficeKeys, Of}
use Rattle.shop_ledger.specs.Counted.{kind_number, caller_of, kind_of, counted, IsCount, CountsOnce, office_grown, office_counted}
use Rattle.shop_ledger.proofs.CountTexts.{select_count_means, shows_counts}
use Rattle.shop_ledger.proofs.CountsOf.{held_once, agreed}
use Rattle.shop_ledger.proofs.CountLemmas.{read_count}
use Rattle.sqlite_value.specs.Order as sql
use Rattle.shop_ledger.specs.declared.counts.CountKind.TheVariants as kind
use Rattle.shop_schema.specs.Counts.{kept_kind}

-- ---- no count of a branch is head office's

abbrev IsBranchs : Count → Type 0
IsBranchs c = 1 ≤ c.caller

not_office : (b : ℕ) → 1 ≤ b → (b == 0) ≡ false
not_office b low = grind (arith, nat_tests)

callers : (books : Books) (k : ℕ) → 1 ≤ k → (branches : List Branch) → AllByRecursion IsBranchs (flat_map (branch_counts books) (numbered_from k branches))
callers books k low [] = tt
callers books k low (branch ∷ branches) = (low, (low, (low, (low, (low, callers books (k + 1) (omega arith) branches)))))

apart : (k : ℕ) (c : Count) → IsBranchs c → is_count 0 k c ≡ false
apart k c low = ap (λ t. t && c.kind == k) (not_office c.caller low)

none_picked : (cs : List Count) → AllByRecursion IsBranchs cs → filter (is_count 0 4) cs ≡ []
none_picked cs all = filter_none (is_count 0 4) cs (all_weaker IsBranchs _ (λ c low. apart 4 c low) cs all)

none_raised : (cs : List Count) → AllByRecursion IsBranchs cs → map (λ c. cond (is_count 0 4 c) (raised 1 c) c) cs ≡ cs
none_raised [] all = refl
none_raised (c ∷ cs) all = λ i. cond (apart 4 c all.0 i) (raised 1 c) c ∷ none_raised cs all.1 i

-- ---- the count that is head office's

pub own_counts : (books : Books) → filter (is_count 0 4) (counts_of books).counters ≡ office_count books ∷ []
own_counts books =
    ap (λ l. office_count books ∷ l)
    (none_picked (flat_map (branch_counts books) (numbered books.catalogue.branches)) (callers books 1 (omega arith) books.catalogue.branches))

read_office_count : (old new : State) (rows : List sql.Row) → Shown SELECT_COUNT.now (number_value 0 ∷ number_value 4 ∷ []) old new rows
    → (row : sql.Row) (n : ℕ) → slice_get rows 0 ≡ Some row → column row 0 ≡ number_value n → Reads old new (λ books. n ≡ length books.catalogue.kept)
read_office_count old new rows h row n some is books holds held =
    let P : sql.Row → Type 0 = λ vs. vs ≡ number_value (length books.catalogue.kept) ∷ [] in
    let same =
    subst (λ (cs : List Count). IsPermutation (map (λ (c : Count). number_value c.last ∷ []) cs) rows)
    (own_counts books) (shows_counts old new 0 4 rows books holds.schema_is h holds.stands) in
    let all = all-permutation P _ rows same (refl, tt) in
    let one : row ≡ number_value (length books.catalogue.kept) ∷ [] = all-slice_get P rows 0 row some all in (
      still_holds shop_schema StandsFor SELECT_COUNT.now (number_value 0 ∷ number_value 4 ∷ []) old new select_count_means.plain rows h books holds,
      same_number _ _ (sym is ∙ ap (λ r. column r 0) one),
    )

pub read_counted : (counter : TheCount) → IsCount counter → (old new : State) (rows : List sql.Row)
    → Shown SELECT_COUNT.now (number_value (caller_of counter) ∷ number_value (kind_number (kind_of counter)) ∷ []) old new rows
    → (row : sql.Row) (n : ℕ) → slice_get rows 0 ≡ Some row → column row 0 ≡ number_value n → Reads old new (λ books. n ≡ counted counter books)
read_counted OfficeKeys is old new rows h = read_office_count old new rows h
read_counted (Of b kind) low old new rows h = read_count old new b (kind_number kind) rows h low

-- head office's count in the books' own counts can be raised by one
pub office_once : (books : Books) → IsHeld books → CountsOnce 0 kind.Kept (counts_of books)
office_once books held = record {
  once = subst (λ (n : ℕ). n ≤ 1) (sym (ap length (own_counts books))) (omega arith);
  small = (held_once books held kind.Kept 1 (omega arith)).small;
}

one_more : (c : Count) (counts : Counts) → 1 ≤ c.caller → c.last ≡ 0 → CountsOnce 0 kind.Kept counts → CountsOnce 0 kind.Kept (add_count c counts)
one_more c counts low none given = record {
  once = subst (λ (n : ℕ). n ≤ 1) (sym same) given.once;
  small = All-push (λ (it : Count). it.last < 2 ^ 32) counts.counters c given.small (omega (arith, none));
}
  where
    same : length (filter (is_count 0 4) (counts.counters ++ c ∷ [])) ≡ length (filter (is_count 0 4) counts.counters)
    same =
        sym (length_map (λ (it : Count). it) (filter (is_count 0 4) (counts.counters ++ c ∷ [])))
        ∙ ap length (more_no (λ (it : Count). it) (is_count 0 4) counts.counters c (apart 4 c low))
        ∙ length_map (λ (it : Count). it) (filter (is_count 0 4) counts.counters)

new_branch_once : (b : ℕ) (counts : Counts) → 1 ≤ b → CountsOnce 0 kind.Kept counts → CountsOnce 0 kind.Kept (with_branch b counts)
new_branch_once b counts low given = one_more _ _ low refl (one_more _ _ low refl (one_more _ _ low refl (one_more _ _ low refl (one_more _ _ low refl given))))

-- and so are they with a new branch's
pub branch_once : (b : ℕ) (books : Books) → 1 ≤ b → IsHeld books → CountsOnce 0 kind.Kept (with_branch b (counts_of books))
branch_once b books low held = new_branch_once b (counts_of books) low (office_once books held)

-- ---- a new branch has nothing

pub lacks_next : {A : Type 0} (n : ℕ) (xs : List A) → length xs < n → lacks xs n ≡ true
lacks_next n [] more = refl
lacks_next n (x ∷ xs) more = ap (λ t. is_empty (cond t (x ∷ []) (at (n - 1) xs))) other ∙ lacks_next (n - 1) xs (omega (arith, more))
  where
    other : (n == 1) ≡ false
    other = grind (arith, nat_tests)

pub none_of : {X : Type 0} (owner : X → ℕ) (branches : List Branch) (b : ℕ) → lacks branches b ≡ true
    → (xs : List X) → list_all (λ x. has_row branches (owner x)) xs ≡ true → filter (λ x. owner x == b) xs ≡ []
none_of {X} owner branches b lacking xs all = filter_none _ xs (all_weaker _ _ away xs (all_from_test (λ x. has_row branches (owner x)) xs all))
  where
    away : (x : X) → has_row branches (owner x) ≡ true → (owner x == b) ≡ false
    away x there = elim (cases_Bool (owner x == b)) [
      | inl is ↦ absurd (true≢false (sym (subst (λ n. has_row branches n ≡ true) (same_if (owner x) b is) there) ∙ ap not lacking))
      | inr isnt ↦ isnt
    ]

new_counts : (books : Books) (b : ℕ) (branch : Branch) → lacks books.catalogue.branches b ≡ true → HasOwners books.catalogue.branches books
    → branch_counts books (b, branch) ≡ new_count b 0 ∷ new_count b 1 ∷ new_count b 2 ∷ new_count b 3 ∷ new_count b 4 ∷ []
new_counts books b branch lacking owners =
    let branches = books.catalogue.branches in
    let customers =
    ap (λ (rows : List (Row Customer)). length (map (λ (row : Row Customer). row.it) rows))
    (none_of (λ (row : Row Customer). row.branch) branches b lacking books.customers (owners.rows Customers)) in
    let copies =
    ap (λ (rows : List (Row BookCopy)). length (map (λ (row : Row BookCopy). row.it) rows))
    (none_of (λ (row : Row BookCopy). row.branch) branches b lacking books.copies (owners.rows CopyRows)) in
    let rentals =
    ap (λ (rows : List (Row Rental)). length (map (λ (row : Row Rental). row.it) rows))
    (none_of (λ (row : Row Rental). row.branch) branches b lacking books.rentals (owners.rows Rentals)) in
    let payments =
    ap (λ (rows : List (Row Payment)). length (map (λ (row : Row Payment). row.it) rows))
    (none_of (λ (row : Row Payment). row.branch) branches b lacking books.payments (owners.rows Payments)) in
    let kept =
    ap (λ (rows : List (Owned Kept)). length (map (λ (row : Owned Kept). row.it) rows))
    (none_of (λ (row : Owned Kept). row.owner) branches b lacking books.kept owners.kept) in
    λ i.
    record { caller = b; kind = 0; last = customers i }
    ∷ record { caller = b; kind = 1; last = copies i } ∷ record { caller = b; kind = 2; last = rentals i }
    ∷ record { caller = b; kind = 3; last = payments i } ∷ record { caller = b; kind = 4; last = kept i } ∷ []

-- ---- what the rows of a command make of the counts

five_put : (xs : List Count) (a b c d e : Count) → xs ++ a ∷ b ∷ c ∷ d ∷ e ∷ [] ≡ ((((xs ++ a ∷ []) ++ b ∷ []) ++ c ∷ []) ++ d ∷ []) ++ e ∷ []
five_put [] a b c d e = refl
five_put (x ∷ xs) a b c d e = ap (λ l. x ∷ l) (five_put xs a b c d e)

branch_put : (books : Books) (branch : Branch) → HasOwners books.catalogue.branches books
    → office_count books ∷ flat_map (branch_counts books) (numbered (books.catalogue.branches ++ branch ∷ []))
    ≡ (with_branch (length books.catalogue.branches + 1) (counts_of books)).counters
branch_put books branch owners =
    let branches = books.catalogue.branches in
    let n = length branches + 1 in
    let place : 1 + length branches ≡ n = omega arith in
    let new = new_counts books n branch (lacks_next n branches (omega arith)) owners in
    ap (λ (cs : List Count). office_count books ∷ cs)
    (ap (flat_map (branch_counts books)) (numbered_push 1 branches branch)
    ∙ flat_map_push (branch_counts books) (numbered branches) (1 + length branches, branch)
    ∙ ap (λ (cs : List Count). flat_map (branch_counts books) (numbered branches) ++ cs) (ap (λ (k : ℕ). branch_counts books (k, branch)) place ∙ new))
    ∙ five_put (office_count books ∷ flat_map (branch_counts books) (numbered branches)) _ _ _ _ _

branch_set : (books : Books) (k n : ℕ) (f : Branch → Branch) (branches : List Branch)
    → flat_map (branch_counts books) (numbered_from k (set_at n f branches)) ≡ flat_map (branch_counts books) (numbered_from k branches)
branch_set books k n f [] = refl
branch_set books k n f (branch ∷ branches) =
    elim (n == 1) as (λ hit.
    flat_map (branch_counts books) (numbered_from k (cond hit (f branch ∷ branches) (branch ∷ set_at (n - 1) f branches)))
    ≡ flat_map (branch_counts books) (numbered_from k (branch ∷ branches)))
    [ true ↦ refl | false ↦ ap (λ (cs : List Count). branch_counts books (k, branch) ++ cs) (branch_set books (k + 1) (n - 1) f branches) ]

pub office_rows_counted : (act : OfficeAct) (books : Books) → HasOwners books.catalogue.branches books
    → counts_of (record books { catalogue = office_acted act books.catalogue }) ≡ office_grown act (length books.catalogue.branches + 1) (counts_of books)
office_rows_counted (AddBranch branch) books owners =
    λ i. record { counters = branch_put books (record branch { manager = None }) owners i; outs = (counts_of books).outs; pairs = (counts_of books).pairs }
office_rows_counted (SetManager b staff) books owners = λ i.
    record {
      counters = office_count books ∷ branch_set books 1 b (λ r. record r { manager = Some staff }) books.catalogue.branches i;
      outs = (counts_of books).outs;
      pairs = (counts_of books).pairs;
    }
office_rows_counted act books owners = refl

pub kept_stays : (act : OfficeAct) (it : Catalogue) → (office_acted act it).kept ≡ it.kept
kept_stays (AddCountry name) it = refl
kept_stays act it = refl

-- after the key is kept, head office's count is one more than after the rows alone
pub office_counted_raised : (command : OfficeCommand) (books : Books)
    → counts_of (record books { catalogue = office_done command books.catalogue })
    ≡ raise 0 kept_kind 1 (counts_of (record books { catalogue = office_acted command.act books.catalogue }))
office_counted_raised command books =
    let it = office_acted command.act books.catalogue in
    let kept : OfficeKept = record { command = command; reply = office_text command books.catalogue } in
    let more : length (books.catalogue.kept ++ kept ∷ []) ≡ length it.kept + 1 =
    length_push books.catalogue.kept kept ∙ ap (λ (ks : List OfficeKept). length ks + 1) (sym (kept_stays command.act books.catalogue)) in
    let others = none_raised (flat_map (branch_counts books) (numbered it.branches)) (callers books 1 (omega arith) it.branches) in
    λ i. record { counters = record { caller = 0; kind = 4; last = more i } ∷ sym others i; outs = (counts_of books).outs; pairs = (counts_of books).pairs }

-- so the books after a command have the counts that the command makes
pub office_counts_done : (command : OfficeCommand) (books : Books) → HasOwners books.catalogue.branches books
    → counts_of (record books { catalogue = office_done command books.catalogue })
    ≡ office_counted command.act (length books.catalogue.branches + 1) (counts_of books)
office_counts_done command books owners = office_counted_raised command books ∙ ap (raise 0 kept_kind 1) (office_rows_counted command.act books owners)

pub office_counts_agreed : (s : State) (command : OfficeCommand) (books : Books) → HasOwners books.catalogue.branches books → AreTermed books
    → HoldsWith (office_counted command.act (length books.catalogue.branches + 1) (counts_of books)) s
    (record books { catalogue = office_done command books.catalogue })
    → Holds s (record books { catalogue = office_done command books.catalogue })
office_counts_agreed s command books owners termed holds =
    agreed s (record books { catalogue = office_done command books.catalogue })
    (office_counted command.act (length books.catalogue.branches + 1) (counts_of books)) (office_counts_done command books owners) termed holds

-- after the rows alone, the count of keys can be raised by one
pub office_grown_once : (act : OfficeAct) (b : ℕ) (books : Books) → 1 ≤ b → IsHeld books → CountsOnce 0 kind.Kept (office_grown act b (counts_of books))
office_grown_once (AddBranch branch) b books low held = branch_once b books low held
office_grown_once act b books low held = office_once books held
