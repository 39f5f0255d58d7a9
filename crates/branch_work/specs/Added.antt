-- Defines the books after an accepted act, and the reply to the act.
use Rattle.std.specs.Prelude.{◌≡◌, ⊤, ℕ, ◌≤◌, List, ◌∷◌, ◌++◌, length, map, IfSome, []}
use Rattle.sqlite.specs.State.{State}
use Rattle.shop_model.specs.Json.{object}
use Rattle.shop_model.specs.Rows.{Row}
use Rattle.shop_model.specs.Values as model
use Rattle.shop_model.specs.Values.{Text, Act, Command, Rules}
use Rattle.shop_model.specs.Acts.{told}
use Rattle.shop_model.specs.Books.{BookCopy, Books, book_acted, imported, set_last, shop_of}
use Rattle.shop_schema.specs.Held.{IsHeld}
use Rattle.shop_schema.specs.Shop.{Holds}
use Rattle.branch_core.specs.declared.found.RowsFound.{RowsFound}
use Rattle.branch_core.specs.Agreed.{ActAgrees}
use Rattle.branch_core.specs.Marked.{AreMarked}
use Rattle.branch_core.specs.Consigned.{made_from}

-- imported copies of the films, with numbers from the first on
abbrev pub copies_from : ℕ → ℕ → List ℕ → List (Row BookCopy)
copies_from b first films = made_from b first (map (imported b) films)

-- a consignment that is received has 100 lines at most
abbrev pub HasFewLines : Act → RowsFound → Type 0
HasFewLines (model.Receive source number missing) found = IfSome found.arrival (λ it. length it.lines ≤ 100)
HasFewLines act found = ⊤

-- The tables hold the books before the act, and the books agree with what was found of the rows that the act names. Then the tables hold the books after the
-- act, and the text is its reply. A receipt has at most 100 lines, so the counts of copies and of kept commands may still grow.
abbrev pub IsActed : Rules → ℕ → Command → Act → RowsFound → Text → State → State → Type 0
IsActed rules b command act found text old new =
    (books : Books) → Holds old books → IsHeld books → ActAgrees rules books.catalogue (shop_of b books) command.moment act found → AreMarked b act found books
    → Holds new (book_acted rules b command act books) × (text ≡ object (told rules act (shop_of b books))) × HasFewLines act found

-- the books with the command kept, and its moment as the branch's last
abbrev pub with_kept : ℕ → Command → Text → Books → Books
with_kept b command reply books = record books {
  kept = books.kept ++ record { owner = b; it = record { command = command; reply = reply } } ∷ [];
  lasts = set_last b command.moment books.lasts;
}
