-- The book as it was read, whole.
use Rattle.std.specs.Prelude.{◌≡◌, ℕ, List}
use Rattle.sqlite_keyed.specs.Lists.{sort_by}
use Rattle.sql_rows.specs.Rows.{by}
use Rattle.shop_model.specs.Answers.{Answer}
use Rattle.till_book.specs.declared.lists.BookRows.{BookRows}
use Rattle.till_book.specs.Journal.{Journal}

-- settlements in the order of their entries
abbrev pub in_order : List (ℕ × Answer) → List (ℕ × Answer)
in_order settled = sort_by (by (λ (it : ℕ × Answer). it.0)) settled

-- the rows are the journal, whole
pub record IsReadOf (rows : BookRows) (journal : Journal) : Type 0 where
  pub entries : rows.entries ≡ journal.entries
  pub replies : rows.replies ≡ journal.replies
  pub settled : rows.settled ≡ in_order journal.settled
