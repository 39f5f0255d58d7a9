-- Rows of three numbers, which the tables of counts have.
use Rattle.std.specs.Prelude.{◌≡◌, ◌<◌, ◌+◌, ℕ, List, [], ◌∷◌, length, get_or}
use Rattle.sqlite_value.specs.declared.value.Value.{Value}
use Rattle.sqlite_value.specs.Order as sql
use Rattle.sql_rows.specs.Rows.{number_value}
use Rattle.shop_schema.specs.Counts.{Pair}
use Rattle.audit_rows.specs.declared.books.OrderedBooks.{OrderedBooks}
use Rattle.books_audit.specs.declared.counts.Triple.{Triple}
use Rattle.books_audit.specs.declared.counts.Tallies.{Tallies}
use Rattle.books_audit.specs.Read.{how_many}

abbrev pub IsWhole : Value → Type 0
IsWhole v = (n : ℕ) × (v ≡ number_value n)

abbrev pub triple_columns : Triple → sql.Row
triple_columns x = number_value x.first ∷ number_value x.second ∷ number_value x.third ∷ []

abbrev pub seen_pair : Triple → Pair
seen_pair x = record { source = x.first; addressee = x.second; last = x.third }

abbrev pub IsTriple : Triple → sql.Row → Type 0
IsTriple x r = triple_columns x ≡ r

abbrev pub OneTriple : sql.Row → Type 0
OneTriple r = (x : Triple) × IsTriple x r

-- at each branch's number, the list has the count of the branch's rows
pub record AreMany {X : Type 0} (branch : X → ℕ) (xs : List X) (places : ℕ) (counts : List ℕ) : Type 0 where
  pub many : length counts ≡ places
  pub each : (b : ℕ) → b < places → get_or counts b 0 ≡ how_many branch b xs

pub record AreTallies (rows : OrderedBooks) (tallies : Tallies) : Type 0 where
  pub customers : AreMany (λ x. x.branch) rows.customers.items (length rows.branches.items + 1) tallies.customers.items
  pub copies : AreMany (λ x. x.branch) rows.copies.items (length rows.branches.items + 1) tallies.copies.items
  pub rentals : AreMany (λ x. x.branch) rows.rentals.items (length rows.branches.items + 1) tallies.rentals.items
  pub payments : AreMany (λ x. x.branch) rows.payments.items (length rows.branches.items + 1) tallies.payments.items
  pub kept : AreMany (λ x. x.branch) rows.kept.items (length rows.branches.items + 1) tallies.kept.items
