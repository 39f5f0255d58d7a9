-- Each step keeps that the branches of rows are there, and the places of consignments.
use Rattle.shop_model.proofs.Common.{◌≡◌, inl, inr, ℕ, ◌+◌, List, [], ◌∷◌, map, length, Bool, true, not, refl, subst, ap, ◌∙◌, arith, ◌==◌, list_any, list_all}
use Rattle.shop_model.proofs.Common.{cases_Bool, and_parts, false≢true, map_push, Row, Owned, at, next, put_all, set_row, set_rows, update_where, is_row}
use Rattle.shop_model.proofs.Common.{IsCounted, Moment, Text, Branch, Staff, Act, Dispatch, Receive, Command, Rules, Kept, Catalogue, act_refusals, staff_is}
use Rattle.shop_model.proofs.Common.{reply_text, Books, Consignment, Table, RowOf, RowsOf, rows_of, with_rows, Edit, Put, Set, PutLot, Append, Update, edited}
use Rattle.shop_model.proofs.Common.{edits_of, shop_of, book_acted, book_done, has_row, is_staff_of, HasOwners, AreRowsOwned}
use Rattle.shop_model.specs.Rows.{put}
use Rattle.shop_model.proofs.RowLemmas.{same_if, length_map, counted_more}
use Rattle.shop_model.proofs.Accepted.{NoneHold}
use Rattle.shop_model.proofs.EditLemmas.{by_table, AskedOfSend, AskedOfSends, sends_keep}
use Rattle.shop_model.proofs.GoodShops.{all_more, all_weaker}
use Rattle.shop_model.proofs.Origins.{all_filter}
use Rattle.shop_model.proofs.LinkLemmas.{all_at}

-- ---- who gives a command is of the branch, so the branch is there

pub staff_works : (b : ℕ) (staff : List Staff) (s : ℕ) → list_any (staff_is b) (at s staff) ≡ true → is_staff_of b staff s ≡ true
staff_works b staff s some = by_rows (at s staff) some where
  by_rows : (rows : List Staff) → list_any (staff_is b) rows ≡ true → list_any (λ (it : Staff). it.branch == b) rows ≡ true
  by_rows [] some = some
  by_rows (row ∷ rows) some = elim (cases_Bool (row.branch == b)) [
    | inl is ↦ rw is
    | inr isnt ↦ rw isnt (by_rows rows (rw isnt at some))
  ]

pub branch_there : (b : ℕ) (branches : List Branch) (staff : List Staff) (s : ℕ)
    → list_all (λ (it : Staff). has_row branches it.branch) staff ≡ true → is_staff_of b staff s ≡ true → has_row branches b ≡ true
branch_there b branches staff s all some = by_rows (at s staff) (all_at (λ (it : Staff). has_row branches it.branch) s staff all) some where
  by_rows : (rows : List Staff) → list_all (λ (it : Staff). has_row branches it.branch) rows ≡ true
      → list_any (λ (it : Staff). it.branch == b) rows ≡ true → has_row branches b ≡ true
  by_rows [] all some = absurd (false≢true some)
  by_rows (row ∷ rows) all some = let h = and_parts (has_row branches row.branch) _ all in elim (cases_Bool (row.branch == b)) [
    | inl is ↦ let P : ℕ → Type 0 = λ n. has_row branches n ≡ true in subst P (same_if row.branch b is) h.0
    | inr isnt ↦ by_rows rows h.1 (rw isnt at some)
  ]

-- ---- rows of all branches

put_owned : {A : Type 0} (branches : List Branch) (b : ℕ) (make : ℕ → A) (rows : List (Row A))
    → has_row branches b ≡ true → list_all (λ (row : Row A). has_row branches row.branch) rows ≡ true
    → list_all (λ (row : Row A). has_row branches row.branch) (put b make rows) ≡ true
put_owned {A = A} branches b make rows there all =
    all_more (λ (row : Row A). has_row branches row.branch) rows (record { branch = b; number = next b rows; it = make (next b rows) }) all there

put_all_owned : {A : Type 0} (branches : List Branch) (b : ℕ) (makes : List (ℕ → A)) (rows : List (Row A))
    → has_row branches b ≡ true → list_all (λ (row : Row A). has_row branches row.branch) rows ≡ true
    → list_all (λ (row : Row A). has_row branches row.branch) (put_all b makes rows) ≡ true
put_all_owned branches b [] rows there all = all
put_all_owned branches b (make ∷ makes) rows there all = put_all_owned branches b makes (put b make rows) there (put_owned branches b make rows there all)

update_all : {A : Type 0} (p q : A → Bool) (f : A → A) (rows : List A) → ((x : A) → p (f x) ≡ p x) → list_all p (update_where q f rows) ≡ list_all p rows
update_all p q f [] keeps = refl
update_all p q f (row ∷ rows) keeps = elim (cases_Bool (q row)) [
  | inl hit ↦ rw (hit, keeps row, update_all p q f rows keeps)
  | inr miss ↦ rw (miss, update_all p q f rows keeps)
]

set_owned : {A : Type 0} (branches : List Branch) (b n : ℕ) (f : A → A) (rows : List (Row A))
    → list_all (λ (row : Row A). has_row branches row.branch) rows ≡ true
    → list_all (λ (row : Row A). has_row branches row.branch) (set_row b n f rows) ≡ true
set_owned {A = A} branches b n f rows all =
    update_all (λ (row : Row A). has_row branches row.branch) (is_row b n) (λ (row : Row A). record row { it = f row.it }) rows (λ x. refl) ∙ all

set_all_owned : {A : Type 0} (branches : List Branch) (b : ℕ) (ns : List ℕ) (f : A → A) (rows : List (Row A))
    → list_all (λ (row : Row A). has_row branches row.branch) rows ≡ true
    → list_all (λ (row : Row A). has_row branches row.branch) (set_rows b ns f rows) ≡ true
set_all_owned branches b [] f rows all = all
set_all_owned branches b (n ∷ ns) f rows all = set_all_owned branches b ns f (set_row b n f rows) (set_owned branches b n f rows all)

-- another list in one table
with_owned : (branches : List Branch) (t : Table) (new : RowsOf t) (books : Books)
    → AreRowsOwned branches t new → HasOwners branches books → HasOwners branches (with_rows t new books)
with_owned branches t new books is h =
    record {
      rows = by_table (AreRowsOwned branches) t new books is h.rows;
      lots = h.lots;
      kept = h.kept;
      lasts = h.lasts;
      sources = h.sources;
      addressees = h.addressees;
    }

-- other lots and consignments
with_others : (branches : List Branch) (lots : List (Owned Text)) (cs : List Consignment) (books : Books)
    → HasOwners branches books → list_all (λ (row : Owned Text). has_row branches row.owner) lots ≡ true
    → list_all (λ (it : Consignment). has_row branches it.source) cs ≡ true → list_all (λ (it : Consignment). has_row branches it.addressee) cs ≡ true
    → HasOwners branches (record books { lots = lots; consignments = cs })
with_others branches lots cs books h lots_are sources addressees =
    record { rows = h.rows; lots = lots_are; kept = h.kept; lasts = h.lasts; sources = sources; addressees = addressees }

-- what edits of consignments are asked
abbrev IsBetween : List Branch → Books → Consignment → Type 0
IsBetween branches books it = (has_row branches it.source ≡ true) × (has_row branches it.addressee ≡ true)

abbrev KeepsBranches : (Consignment → Consignment) → Type 0
KeepsBranches f = (it : Consignment) → ((f it).source ≡ it.source) × ((f it).addressee ≡ it.addressee)

owners_edited : (branches : List Branch) (b : ℕ) → has_row branches b ≡ true → (books : Books) (edit : Edit)
    → AskedOfSend (IsBetween branches) KeepsBranches books edit → HasOwners branches books → HasOwners branches (edited b edit books)
owners_edited branches b there books (Put t makes) asked h = with_owned branches t _ books (put_all_owned branches b makes (rows_of books t) there (h.rows t)) h
owners_edited branches b there books (Set t ns f) asked h = with_owned branches t _ books (set_all_owned branches b ns f (rows_of books t) (h.rows t)) h
owners_edited branches b there books (PutLot lot) asked h =
    with_others branches _ books.consignments books h (all_more _ books.lots (record { owner = b; it = lot }) h.lots there) h.sources h.addressees
owners_edited branches b there books (Append it) asked h =
    with_others branches books.lots _ books h h.lots (all_more _ books.consignments it h.sources asked.0)
    (all_more _ books.consignments it h.addressees asked.1)
owners_edited branches b there books (Update test f) asked h = with_others branches books.lots _ books h h.lots
    (update_all (λ (it : Consignment). has_row branches it.source) test f books.consignments (λ it. ap (has_row branches) (asked it).0) ∙ h.sources)
    (update_all (λ (it : Consignment). has_row branches it.addressee) test f books.consignments (λ it. ap (has_row branches) (asked it).1) ∙ h.addressees)

sends_owned : (rules : Rules) (b : ℕ) (catalogue : Catalogue) (command : Command) (act : Act) (books : Books) → has_row catalogue.branches b ≡ true
    → NoneHold (act_refusals rules b catalogue (shop_of b books) command.moment act)
    → AskedOfSends b (IsBetween catalogue.branches) KeepsBranches (edits_of rules b command act books) books
sends_owned rules b catalogue command (Dispatch to xs) books there none = ((there, rw none.1.1.1.0), tt)
sends_owned rules b catalogue command (Receive source number missing) books there none = (λ it. (refl, refl), tt)
sends_owned rules b catalogue command act books there none = tt

owners_acted : (rules : Rules) (b : ℕ) (catalogue : Catalogue) (command : Command) (act : Act) (books : Books)
    → HasOwners catalogue.branches books → has_row catalogue.branches b ≡ true
    → NoneHold (act_refusals rules b catalogue (shop_of b books) command.moment act) → HasOwners catalogue.branches (book_acted rules b command act books)
owners_acted rules b catalogue command act books h there none =
    sends_keep (HasOwners catalogue.branches) (IsBetween catalogue.branches) KeepsBranches b
    (owners_edited catalogue.branches b there) (edits_of rules b command act books) books
    (sends_owned rules b catalogue command act books there none) h

pub owners_done : (rules : Rules) (b : ℕ) (catalogue : Catalogue) (command : Command) (books : Books)
    → HasOwners catalogue.branches books → has_row catalogue.branches b ≡ true
    → NoneHold (act_refusals rules b catalogue (shop_of b books) command.moment command.act) → HasOwners catalogue.branches (book_done rules b command books)
owners_done rules b catalogue command books h there none = let g = owners_acted rules b catalogue command command.act books h there none in record {
  rows = g.rows;
  lots = g.lots;
  kept =
      all_more (λ (row : Owned Kept). has_row catalogue.branches row.owner) books.kept
      (record { owner = b; it = record { command = command; reply = reply_text rules command (shop_of b books) } }) h.kept there;
  lasts =
      rw there (all_filter (λ (row : Owned Moment). has_row catalogue.branches row.owner) (λ (row : Owned Moment). not (row.owner == b)) books.lasts h.lasts);
  sources = g.sources;
  addressees = g.addressees;
}

pub owners_grow : (old new : List Branch) (books : Books) → ((n : ℕ) → has_row old n ≡ true → has_row new n ≡ true) → HasOwners old books → HasOwners new books
owners_grow old new books more h = record {
  rows = λ t. all_weaker (λ (row : Row (RowOf t)). has_row old row.branch) _ (rows_of books t) (λ (row : Row (RowOf t)) is. more row.branch is) (h.rows t);
  lots = all_weaker (λ (row : Owned Text). has_row old row.owner) _ books.lots (λ (row : Owned Text) is. more row.owner is) h.lots;
  kept = all_weaker (λ (row : Owned Kept). has_row old row.owner) _ books.kept (λ (row : Owned Kept) is. more row.owner is) h.kept;
  lasts = all_weaker (λ (row : Owned Moment). has_row old row.owner) _ books.lasts (λ (row : Owned Moment) is. more row.owner is) h.lasts;
  sources = all_weaker (λ (it : Consignment). has_row old it.source) _ books.consignments (λ (it : Consignment) is. more it.source is) h.sources;
  addressees = all_weaker (λ (it : Consignment). has_row old it.addressee) _ books.consignments (λ (it : Consignment) is. more it.addressee is) h.addressees;
}

-- ---- places

places_updated : (q : Consignment → Bool) (f : Consignment → Consignment) (cs : List Consignment) → ((it : Consignment) → (f it).place ≡ it.place)
    → map (λ (it : Consignment). it.place) (update_where q f cs) ≡ map (λ (it : Consignment). it.place) cs
places_updated q f [] keeps = refl
places_updated q f (c ∷ cs) keeps = elim (cases_Bool (q c)) [
  | inl hit ↦ rw (hit, keeps c, places_updated q f cs keeps)
  | inr miss ↦ rw (miss, places_updated q f cs keeps)
]

abbrev HavePlaces : Books → Type 0
HavePlaces books = IsCounted 1 (map (λ (it : Consignment). it.place) books.consignments)

abbrev HasNextPlace : Books → Consignment → Type 0
HasNextPlace books it = it.place ≡ length books.consignments + 1

abbrev KeepsPlace : (Consignment → Consignment) → Type 0
KeepsPlace f = (it : Consignment) → (f it).place ≡ it.place

places_edited : (b : ℕ) (books : Books) (edit : Edit) → AskedOfSend HasNextPlace KeepsPlace books edit → HavePlaces books → HavePlaces (edited b edit books)
places_edited b books (Append it) asked counted =
    let n = length_map (λ (it : Consignment). it.place) books.consignments in
    rw (map_push (λ (it : Consignment). it.place) books.consignments it)
    (counted_more 1 (map (λ (it : Consignment). it.place) books.consignments) it.place counted (omega (arith, n, asked)))
places_edited b books (Update test f) asked counted = rw (places_updated test f books.consignments asked) counted
places_edited b books edit asked counted = counted

pub places_kept : (rules : Rules) (b : ℕ) (command : Command) (act : Act) (books : Books) → HavePlaces books → HavePlaces (book_acted rules b command act books)
places_kept rules b command act books counted =
    sends_keep HavePlaces HasNextPlace KeepsPlace b (places_edited b) (edits_of rules b command act books) books (sends_placed act) counted where
      sends_placed : (act : Act) → AskedOfSends b HasNextPlace KeepsPlace (edits_of rules b command act books) books
      sends_placed (Dispatch to xs) = (refl, tt)
      sends_placed (Receive source number missing) = (λ it. refl, tt)
      sends_placed act = tt
