-- Defines the books of all branches after a dispatch and after a receipt, and the replies to both.
use Rattle.std.specs.Prelude.{ℕ, ◌+◌, false, List, [], ◌∷◌, ◌++◌, length, map, codes, decimal}
use Rattle.shop_model.specs.Json.{numbers_text, object}
use Rattle.shop_model.specs.Rows.{Row, arrived, put_all, set_rows, update_where}
use Rattle.shop_model.specs.Values.{Text, Here, Sent}
use Rattle.shop_model.specs.Acts.{numbers_from}
use Rattle.shop_model.specs.Books.{Books, BookCopy, Line, UnderWay, between, checked, is_consignment, put_state}
use Rattle.shop_types.specs.declared.parcel.ParcelLine.{ParcelLine}
use Rattle.shop_types.specs.Seen.{seen_mark}

-- rows of a branch with numbers from that one on
abbrev pub made_from : {A : Type 0} → ℕ → ℕ → List (ℕ → A) → List (Row A)
made_from b n [] = []
made_from b n (make ∷ makes) = record { branch = b; number = n; it = make n } ∷ made_from b (n + 1) makes

-- a line that is under way
abbrev pub sent_line : ParcelLine → Line
sent_line line = record { film = line.film; mark = seen_mark line.mark; state = UnderWay }

-- The books after the copies are sent as a consignment of the given lines. It has the next number of the branch's consignments to the addressee, and the next
-- place in the chain.
abbrev pub with_dispatch : ℕ → ℕ → List ℕ → List ParcelLine → Books → Books
with_dispatch b to xs lines books = record books {
  copies = set_rows b xs (put_state Sent) books.copies;
  consignments = books.consignments ++ record {
    source = b;
    addressee = to;
    number = length (between b to books.consignments) + 1;
    place = length books.consignments + 1;
    received = false;
    lines = map sent_line lines;
  } ∷ [];
}

abbrev pub dispatch_text : ℕ → ℕ → Text
dispatch_text consignment to = object ((codes "consignment", decimal consignment) ∷ (codes "to", decimal to) ∷ [])

-- a line that came, as a copy of that number
abbrev pub come_copy : ParcelLine → ℕ → BookCopy
come_copy line number = record { film = line.film; state = Here; mark = seen_mark line.mark }

-- The books with the consignment received. The lines at these places are missing. The other lines are copies with the branch's next numbers.
abbrev pub with_receipt : ℕ → ℕ → ℕ → List ParcelLine → List ℕ → Books → Books
with_receipt b source number lines missing books = record books {
  copies = put_all b (map come_copy (arrived missing lines)) books.copies;
  consignments = update_where (is_consignment source b number) (checked missing) books.consignments;
}

-- the reply to a receipt: the numbers of the new copies, one for each film, from the first number on
abbrev pub receipt_text : ℕ → List ℕ → Text
receipt_text first films = object ((codes "copies", numbers_text (numbers_from first films)) ∷ [])
