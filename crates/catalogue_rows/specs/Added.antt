-- Defines the books after the rows of an accepted command of head office are written, and the reply to it.
use Rattle.std.specs.Prelude.{◌≡◌, ℕ, ◌+◌, [], ◌∷◌, ◌++◌, length}
use Rattle.sqlite.specs.State.{State}
use Rattle.shop_model.specs.Values.{Text, OfficeAct, OfficeCommand}
use Rattle.shop_model.specs.Machine.{Done, office_text, office_done}
use Rattle.shop_model.specs.OfficeActs.{office_acted, office_told}
use Rattle.shop_model.specs.Answers.{Answer, answer_of}
use Rattle.shop_model.specs.Books.{Books}
use Rattle.shop_schema.specs.Counts.{Counts, counts_of, kept_kind, raise}
use Rattle.shop_schema.specs.Held.{IsHeld}
use Rattle.shop_schema.specs.Shop.{Holds, HoldsWith}
use Rattle.shop_ledger.specs.declared.counts.CountKind.TheVariants as kind
use Rattle.shop_ledger.specs.Counted.{CountsOnce, office_grown}
use Rattle.shop_views.specs.Bodies.{office_members}

-- the books with the rows of an act, and the counts that go with them
abbrev pub with_act : OfficeAct → Books → Books
with_act act books = record books { catalogue = office_acted act books.catalogue }

abbrev pub with_counts : OfficeAct → Books → Counts
with_counts act books = office_grown act (length books.catalogue.branches + 1) (counts_of books)

-- afterwards the tables hold the books with the rows and their counts
abbrev pub IsActed : OfficeAct → State → Books → Type 0
IsActed act new books = HoldsWith (with_counts act books) new (with_act act books)

-- afterwards the tables hold the books with the rows, and the number is the number of the new row, if the act has one
abbrev pub IsNumbered : OfficeAct → ℕ → State → State → Type 0
IsNumbered act number old new =
    (books : Books) → Holds old books → IsHeld books → IsActed act new books × (office_members act number ≡ office_told act books.catalogue)

-- the books with the command kept
abbrev pub with_kept : OfficeCommand → Text → Books → Books
with_kept command reply books =
    record books { catalogue = record books.catalogue { kept = books.catalogue.kept ++ record { command = command; reply = reply } ∷ [] } }

-- if the counts have room for one more key, afterwards the tables hold the books with the command kept, and the key is counted
abbrev pub IsKept : OfficeCommand → Text → State → State → Type 0
IsKept command reply old new =
    (counts : Counts) (books : Books) → HoldsWith counts old books → CountsOnce 0 kind.Kept counts
    → HoldsWith (raise 0 kept_kind 1 counts) new (with_kept command reply books)

-- afterwards the tables hold the books after the accepted command, and the reply is the reply to the command
abbrev pub IsAdded : OfficeCommand → Answer → State → State → Type 0
IsAdded command answer old new =
    (books : Books) → Holds old books → IsHeld books
    → Holds new (record books { catalogue = office_done command books.catalogue }) × (answer ≡ answer_of (Done (office_text command books.catalogue)))
