-- Head office's readings, over the books of all branches. Sales are the manual's `sales_by_store` over all stores; the others are our own.
use Rattle.std.specs.Prelude.{ℕ, ◌==◌, ◌&&◌, ◌||◌, nat_lt, Bool, true, not, if◌then◌else◌, List, [], ◌∷◌, map, filter, flat_map}
use Rattle.std.specs.List.{list_any}
use Rattle.shop_model.specs.Rows.{Row, lacks, numbered}
use Rattle.shop_model.specs.Values.{Here, Branch, OfficeAsk, Sales, Custody, Transit, Audit}
use Rattle.shop_model.specs.Refusals.{NoCopy, NoBranch}
use Rattle.shop_model.specs.Views.{listed_store, sales_by_store, sorted_by}
use Rattle.shop_model.specs.Machine.{Reply, Sorry, Shows, RowsAre, HereAt, UnderWayTo, Gone, TransitIs, AuditIs}
use Rattle.shop_model.specs.Books.{Books, BookCopy, Mark, Line, UnderWay, Consignment, shop_of}
use Rattle.shop_model.specs.Sound.{copy_is, line_is, is_mark, made, here, transit, gone}

-- a copy that is here, or a line that is under way; a mark that was made and is neither is gone, scrapped or missing
abbrev pub custody_of : Mark → List (Row BookCopy) → List Consignment → Reply
custody_of mark (row ∷ rows) consignments = Shows (HereAt row.branch row.number)
custody_of mark [] (it ∷ consignments) = Shows (UnderWayTo it.source it.addressee it.number)
custody_of mark [] [] = Shows Gone

abbrev pub place_of : Mark → Books → Reply
place_of mark books = custody_of mark
    (filter (λ (row : Row BookCopy). copy_is row.it.state Here && is_mark mark row.it.mark) books.copies)
    (filter (λ (it : Consignment). list_any (λ (line : Line). line_is line.state UnderWay && is_mark mark line.mark) it.lines) books.consignments)

-- by sender, addressee, number
abbrev pub goes_before : Consignment → Consignment → Bool
goes_before a b = nat_lt a.source b.source || a.source == b.source && (nat_lt a.addressee b.addressee || a.addressee == b.addressee && nat_lt a.number b.number)

-- Sales have a row for each branch with such a payment; custody asks for the branch first and then for the mark. An audit is the reply over sound books,
-- and says without a look at them that they are. Of other books that would be wrong; its premise is that there are none to be read. The books with which
-- a chain begins are sound (`OpeningBooksAreSound`, `EmptyIsSound`). A chain has others only if they are sound, and each request leaves sound books sound
-- (`StaySound`).
abbrev pub office_look : OfficeAsk → Books → Reply
office_look Sales books = Shows (RowsAre (map listed_store
    (flat_map (λ (it : ℕ × Branch). sales_by_store it.0 books.catalogue (shop_of it.0 books)) (numbered books.catalogue.branches))))
office_look (Custody b x) books =
    let mark : Mark = record { branch = b; copy = x } in
    if lacks books.catalogue.branches b then Sorry NoBranch
    else (if nat_lt 0 (made (is_mark mark) books) then place_of mark books else Sorry NoCopy)
office_look Transit books =
    Shows (TransitIs (map (λ (it : Consignment). (it.source, it.addressee, it.number, map (λ line. line.film) it.lines))
    (sorted_by goes_before (filter (λ (it : Consignment). not it.received) books.consignments))))
office_look Audit books = Shows (AuditIs true (made (λ _. true) books) (here (λ _. true) books) (transit (λ _. true) books) (gone (λ _. true) books))
