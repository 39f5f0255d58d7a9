-- How far a book goes, and what is in it after a number.
use Rattle.std.specs.Prelude.{◌≡◌, ◌==◌, ℕ, nat_lt, List, drop, filter, length, Option, None, option_map}
use Rattle.sqlite_keyed.specs.Lists.{sort_by}
use Rattle.sql_rows.specs.Rows.{by}
use Rattle.shop_model.specs.Rows.{numbered}
use Rattle.shop_model.specs.Answers.{Answer}
use Rattle.till_book.specs.Held.{last_or}
use Rattle.till_book.specs.Read.{in_order}
use Rattle.till_book.specs.Journal.{Journal, unsure_of}
use Rattle.till_book.specs.declared.lists.BookRows.{BookRows}
use Rattle.till_book.specs.declared.ends.BookEnd.{BookEnd}
use Rattle.till_book.specs.declared.ends.LastEntry.{LastEntry}

-- the end has the numbers of entries and replies, and the last entry
pub record IsEndOf (end : BookEnd) (journal : Journal) : Type 0 where
  pub entries : end.entries ≡ length journal.entries
  pub replies : end.replies ≡ length journal.replies
  pub last : end.last ≡ last_or None journal.entries

abbrev pub settled_after : ℕ → List (ℕ × Answer) → List (ℕ × Answer)
settled_after n settled = filter (λ (it : ℕ × Answer). nat_lt n it.0) settled

-- the rows are what the journal has after that number
pub record IsReadAfter (n : ℕ) (rows : BookRows) (journal : Journal) : Type 0 where
  pub entries : rows.entries ≡ drop n journal.entries
  pub replies : rows.replies ≡ drop n journal.replies
  pub settled : rows.settled ≡ in_order (settled_after n journal.settled)

-- the last entry, with its number
abbrev pub last_entry : Journal → Option (ℕ × List ℕ)
last_entry journal = last_or None (numbered journal.entries)

abbrev pub seen_last : LastEntry → ℕ × List ℕ
seen_last it = (it.number, it.request)

-- the number of the last reply
abbrev pub last_reply : Journal → Option ℕ
last_reply journal = option_map (λ (it : ℕ × Answer). it.0) (last_or None (numbered journal.replies))

-- the number of the last entry whose reply is 200
abbrev pub last_accepted : Journal → Option ℕ
last_accepted journal = option_map (λ (it : ℕ × Answer). it.0) (last_or None (filter (λ (it : ℕ × Answer). it.1.status == 200) (numbered journal.replies)))

-- the unsure entries before that number, in order
abbrev pub unsure_before : ℕ → Journal → List ℕ
unsure_before n journal = sort_by (by (λ (m : ℕ). m)) (filter (λ (m : ℕ). nat_lt m n) (unsure_of journal))
