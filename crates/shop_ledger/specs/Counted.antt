-- Counts of a branch's rows by their kinds, and copies that are out.
use Rattle.std.specs.Prelude.{ℕ, ◌≤◌, ◌<◌, ◌^◌, ⊤, length}
use Rattle.std.specs.List.{AllByRecursion}
use Rattle.sql_rows.specs.Rows.{PicksOne}
use Rattle.shop_model.specs.Values.{OfficeAct, AddBranch}
use Rattle.shop_model.specs.Books.{Books}
use Rattle.shop_schema.specs.Counts.{Counts, is_count, count_in, raise, with_branch, is_out_by, customers_kind, copies_kind, rentals_kind, payments_kind}
use Rattle.shop_schema.specs.Counts.{kept_kind}
use Rattle.shop_ledger.specs.declared.counts.CountKind.{CountKind}
use Rattle.shop_ledger.specs.declared.counts.CountKind.TheVariants as kind
use Rattle.shop_ledger.specs.declared.counts.Count.{Count}
use Rattle.shop_ledger.specs.declared.counts.Count.TheVariants.{OfficeKeys, Of}

-- the number of the kind in the table
abbrev pub kind_number : CountKind → ℕ
kind_number kind.Customers = customers_kind
kind_number kind.Copies = copies_kind
kind_number kind.Rentals = rentals_kind
kind_number kind.Payments = payments_kind
kind_number kind.Kept = kept_kind

-- the number in the table of the counter's caller: a branch's number, or 0 for head office
abbrev pub caller_of : Count → ℕ
caller_of OfficeKeys = 0
caller_of (Of b kind) = b

abbrev pub kind_of : Count → CountKind
kind_of OfficeKeys = kind.Kept
kind_of (Of b kind) = kind

abbrev pub IsCount : Count → Type 0
IsCount OfficeKeys = ⊤
IsCount (Of b kind) = 1 ≤ b

-- the count that the books give
abbrev pub counted : Count → Books → ℕ
counted OfficeKeys books = length books.catalogue.kept
counted (Of b kind) books = count_in (kind_number kind) b books

-- the branch has at most one count of the kind, and each count is below 2 ^ 32 (a raised count fits 64 bits)
pub record CountsOnce (b : ℕ) (kind : CountKind) (counts : Counts) : Type 0 where
  pub once : PicksOne (is_count b (kind_number kind)) counts.counters
  pub small : AllByRecursion (λ it. it.last < 2 ^ 32) counts.counters

-- the branch's copy is out by the rental at most once
abbrev pub IsOutBy : ℕ → ℕ → ℕ → Counts → Type 0
IsOutBy b copy rental counts = PicksOne (is_out_by b copy rental) counts.outs

-- how the rows of a command of head office change the counts: a new branch, whose number is b, has its five counts, which are zero
abbrev pub office_grown : OfficeAct → ℕ → Counts → Counts
office_grown (AddBranch branch) b counts = with_branch b counts
office_grown act b counts = counts

-- how a whole command of head office changes the counts: there is one more kept key
abbrev pub office_counted : OfficeAct → ℕ → Counts → Counts
office_counted act b counts = raise 0 kept_kind 1 (office_grown act b counts)
