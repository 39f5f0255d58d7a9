-- Tests of what one branch has.
use Rattle.std.specs.Prelude.{◌≡◌, ℕ, ◌+◌, ◌==◌, ◌&&◌, nat_le, Bool, true, List, [], ◌∷◌, map, filter, length, Option}
use Rattle.std.specs.List.{list_any, list_all}
use Rattle.std.specs.Str.{bytes_eq}
use Rattle.shop_model.specs.Calendar.{Moment, seconds_of}
use Rattle.shop_model.specs.Rows.{at}
use Rattle.shop_model.specs.Books.{Table, Customers, CopyRows, Rentals, TermRows, Payments}
use Rattle.shop_model.specs.GoodShop.{is_within, rental_by, are_apart}
use Rattle.shop_model.specs.Links.{are_different, pays_for}
use Rattle.shop_types.specs.Seen.{seen_rental, seen_payment}
use Rattle.audit_rows.specs.declared.books.OrderedBooks.{OrderedBooks}
use Rattle.audit_rows.specs.declared.branches.BranchRows.{BranchRows}
use Rattle.audit_rows.specs.declared.branches.Rest.{Rest}
use Rattle.audit_rows.specs.declared.rows.CheckedStaff.{CheckedStaff}
use Rattle.audit_rows.specs.declared.rows.CheckedBranch.{CheckedBranch}
use Rattle.audit_rows.specs.declared.rows.CheckedLot.{CheckedLot}
use Rattle.audit_rows.specs.declared.rows.CheckedKept.{CheckedKept}
use Rattle.audit_rows.specs.declared.rows.CheckedHeader.{CheckedHeader}
use Rattle.audit_rows.specs.Lists.{counts_from, rises_from, front_of, back_of}
use Rattle.audit_rows.specs.Seen.{shop_copy}
use Rattle.audit_rows.specs.Shops.{is_among, open_keys, is_held_here}
use Rattle.audit_rows.specs.Tables.{CheckedOf, is_in, checked_rows, lent_rows, all_tables}

-- one branch's rows, and the numbers of its lots, of its kept commands and of the consignments that it sent
pub record PartRows : Type 0 where
  pub rows : (t : Table) → List (CheckedOf t)
  pub lots : ℕ
  pub kept : ℕ
  pub sent : ℕ

abbrev pub rows_of : BranchRows → PartRows
rows_of part = record { rows = lent_rows part.rows; lots = part.lots; kept = part.kept; sent = part.sent }

-- ---- numbers and sizes

abbrev pub is_numbered : PartRows → Bool
is_numbered part = list_all (λ t. counts_from 1 (map (λ (row : CheckedOf t). row.number) (part.rows t))) all_tables

-- each rental has its terms, under its number, and there are no others
abbrev pub is_termed : PartRows → Bool
is_termed part = length (part.rows TermRows) == length (part.rows Rentals)

abbrev pub is_sized : PartRows → Bool
is_sized part =
    nat_le part.kept 1000000 && nat_le (length (part.rows CopyRows)) 1000000
    && nat_le (length (part.rows Customers)) part.kept && nat_le (length (part.rows Rentals)) part.kept
    && nat_le (length (part.rows Payments)) part.kept && nat_le part.lots part.kept && nat_le part.sent part.kept

-- ---- moments

abbrev pub is_timely : Option Moment → PartRows → Bool
is_timely last part =
    list_all (λ (row : CheckedOf Customers). is_within last row.it.created) (part.rows Customers)
    && list_all (λ (row : CheckedOf Rentals). rental_by last (seen_rental row.it)) (part.rows Rentals)
    && list_all (λ (row : CheckedOf Payments). is_within last row.it.paid) (part.rows Payments)
    && rises_from 0 (map (λ (row : CheckedOf Rentals). seconds_of row.it.rented) (part.rows Rentals))
    && rises_from 0 (map (λ (row : CheckedOf Payments). seconds_of row.it.paid) (part.rows Payments))

-- ---- references

abbrev pub is_staff_row : ℕ → List CheckedStaff → ℕ → Bool
is_staff_row b staff s = list_any (λ (row : CheckedStaff). row.branch == b) (at s staff)

abbrev pub has_places : OrderedBooks → PartRows → Bool
has_places books part =
    list_all (λ (row : CheckedOf Customers). is_among (length books.cities.items) row.it.city) (part.rows Customers)
    && list_all (λ (row : CheckedOf CopyRows). is_among (length books.films.items) row.it.film) (part.rows CopyRows)

abbrev pub has_people : ℕ → List CheckedStaff → PartRows → Bool
has_people b staff part =
    list_all (λ (row : CheckedOf Rentals).
    is_among (length (part.rows CopyRows)) row.it.copy && is_among (length (part.rows Customers)) row.it.customer && is_staff_row b staff row.it.staff)
    (part.rows Rentals)

abbrev pub has_payers : ℕ → List CheckedStaff → PartRows → Bool
has_payers b staff part =
    list_all (λ (row : CheckedOf Payments). is_among (length (part.rows Customers)) row.it.customer && is_staff_row b staff row.it.staff
    && pays_for (map (λ (it : CheckedOf Rentals). seen_rental it.it) (part.rows Rentals)) (seen_payment row.it)) (part.rows Payments)

abbrev pub has_links : OrderedBooks → ℕ → PartRows → Bool
has_links books b part = has_places books part && has_people b books.staff.items part && has_payers b books.staff.items part

-- ---- rentals

abbrev pub is_held : PartRows → Bool
is_held part =
    list_all (λ (row : CheckedOf Rentals). is_held_here (map shop_copy (part.rows CopyRows)) (seen_rental row.it)) (part.rows Rentals)
    && are_different bytes_eq (open_keys (map (λ (row : CheckedOf Rentals). seen_rental row.it) (part.rows Rentals)))
    && are_apart (map (λ (row : CheckedOf Rentals). seen_rental row.it) (part.rows Rentals))

-- ---- all of it

abbrev pub has_good_rows : OrderedBooks → ℕ → Option Moment → PartRows → Bool
has_good_rows books b last part = is_numbered part && is_termed part && is_sized part && is_timely last part && has_links books b part

abbrev pub is_good_part : OrderedBooks → ℕ → Option Moment → PartRows → Bool
is_good_part books b last part = has_good_rows books b last part && is_held part

-- ---- one branch after another

-- the rows that have the branch in their column
abbrev pub branch_rows : OrderedBooks → ℕ → PartRows
branch_rows books b = record {
  rows = λ t. filter (is_in b) (checked_rows books t);
  lots = length (filter (λ (row : CheckedLot). row.branch == b) books.lots.items);
  kept = length (filter (λ (row : CheckedKept). row.branch == b) books.kept.items);
  sent = length (filter (λ (row : CheckedHeader). row.source == b) books.headers.items);
}

-- the leading rows, which are the branch's
abbrev pub front_rows : Rest → ℕ → PartRows
front_rows rest b = record {
  rows = λ t. front_of (is_in b) (lent_rows rest.rows t);
  lots = length (front_of (λ (row : CheckedLot). row.branch == b) rest.lots.now);
  kept = length (front_of (λ (row : CheckedKept). row.branch == b) rest.kept.now);
  sent = length (front_of (λ (row : CheckedHeader). row.source == b) rest.headers.now);
}

-- the rows after the leading rows of branch b
pub record AreBehind (rest more : Rest) (b : ℕ) : Type 0 where
  pub rows : (t : Table) → lent_rows more.rows t ≡ back_of (is_in b) (lent_rows rest.rows t)
  pub lots : more.lots.now ≡ back_of (λ (row : CheckedLot). row.branch == b) rest.lots.now
  pub kept : more.kept.now ≡ back_of (λ (row : CheckedKept). row.branch == b) rest.kept.now
  pub headers : more.headers.now ≡ back_of (λ (row : CheckedHeader). row.source == b) rest.headers.now

-- branch b and all later branches pass
abbrev pub are_good_from : OrderedBooks → ℕ → List CheckedBranch → Bool
are_good_from books b [] = true
are_good_from books b (row ∷ rows) = is_good_part books b row.last (branch_rows books b) && are_good_from books (b + 1) rows

-- ---- branch columns

abbrev pub are_rows_owned : OrderedBooks → Bool
are_rows_owned books = list_all (λ t. list_all (λ (row : CheckedOf t). is_among (length books.branches.items) row.branch) (checked_rows books t)) all_tables

abbrev pub are_others_owned : OrderedBooks → Bool
are_others_owned books =
    list_all (λ (row : CheckedLot). is_among (length books.branches.items) row.branch) books.lots.items
    && list_all (λ (row : CheckedKept). is_among (length books.branches.items) row.branch) books.kept.items

abbrev pub are_consignments_owned : OrderedBooks → Bool
are_consignments_owned books =
    list_all (λ (row : CheckedHeader). is_among (length books.branches.items) row.source) books.headers.items
    && list_all (λ (row : CheckedHeader). is_among (length books.branches.items) row.addressee) books.headers.items

abbrev pub is_owned : OrderedBooks → Bool
is_owned books = are_rows_owned books && are_others_owned books && are_consignments_owned books
