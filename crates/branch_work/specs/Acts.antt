-- Defines what the calls that carry out an accepted command say of their results, and of the states before and after them.
use Rattle.std.specs.Prelude.{ℕ, ◌≡◌, ◌+◌, ◌∷◌, [], map, filter, string_bytes, String, Result, IfOk}
use Rattle.std.specs.Borrow.{MutBor}
use Rattle.std.specs.declared.alloc.Global.{Global}
use Rattle.sqlite.specs.Store.{Ghosts}
use Rattle.sqlite.specs.Held.{Held, state}
use Rattle.sqlite.specs.State.{State, HasCleanDisk}
use Rattle.sql_rows.specs.Calls.{StaysWithin}
use Rattle.shop_model.specs.Values.{Text, Act, Command, Rules}
use Rattle.shop_model.specs.Books.{Books}
use Rattle.shop_schema.specs.Counts.{counts_of, is_count, raise}
use Rattle.shop_schema.specs.Shop.{Holds, Tallies}
use Rattle.shop_ledger.specs.declared.counts.CountKind.{CountKind}
use Rattle.shop_ledger.specs.declared.counts.CountKind.TheVariants as kind
use Rattle.shop_ledger.specs.Counted.{kind_number, CountsOnce}
use Rattle.branch_core.specs.declared.found.RowsFound.{RowsFound}
use Rattle.branch_work.specs.Added.{IsActed, with_kept}

-- the number is the next number of the branch's rows of the kind, and the count of the rows grows by one
abbrev pub Takes : ℕ → CountKind → ℕ → State → State → Type 0
Takes b of_kind number old new =
    Tallies old new (CountsOnce b of_kind) (raise b (kind_number of_kind) 1)
    (λ counts. map (λ it. it.last + 1) (filter (is_count b (kind_number of_kind)) counts.counters) ≡ number ∷ [])

-- the command is kept with its reply, and its moment is the branch's last
abbrev pub Keeps : ℕ → Command → Text → State → State → Type 0
Keeps b command reply old new = (books : Books) → Holds old books → CountsOnce b kind.Kept (counts_of books) → Holds new (with_kept b command reply books)

-- What a call says that carries out an accepted command's act, by what was found of the rows that the act names. It stays in its transaction and commits
-- nothing. If it succeeds and the disk was honest, the act is carried out, whatever the rules, and the text is the reply. What an arm of `carry_out` knows is a
-- parameter. So the function that the arm calls says all that the arm has to say.
pub record CarriesOut {S E : Type 0} (g : Ghosts S) (old new : MutBor (Held S)) (b : ℕ)
    (command : Command) (act : Act) (found : RowsFound) (result : Result (String Global) E) :
    Type 0 where
  pub inside : StaysWithin g old new result
  pub says : HasCleanDisk (state g new.now)
      → IfOk result (λ text. (rules : Rules) → IsActed rules b command act found (string_bytes text) (state g old.now) (state g new.now))
