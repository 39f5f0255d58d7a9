-- Worked rows: stock files, rentals and what is in stock.
use Rattle.shop_model.proofs.Common.{[], ◌∷◌, ◌++◌, false, refl, codes, AddCustomer, SetActive, Rent, TakeBack, Import, Scrap, InStock, HeldBy, FilmInStock}
use Rattle.shop_model.proofs.Common.{FilmNotInStock}
use Rattle.shop_model.proofs.RowScripts.{computing, ten, four_copies, two_copies, two_and_unknown, none_on_third_line, header_alone, limited, rules, does, asks}
use Rattle.shop_model.proofs.RowScripts.{mary, ok, no, Script, Plays}

-- the first branch has copies 1 to 3 of the first film and copy 4 of the second
abbrev pub four_copies_in : Script
four_copies_in =
    (does 1 (codes "i1") ten (Import (codes "L1") four_copies), ok (codes "{\"copies\":4,\"first\":1}"))
    ∷ []

abbrev pub two_customers : Script
two_customers =
    (does 1 (codes "c1") ten (AddCustomer mary), ok (codes "{\"customer\":1}"))
    ∷ (does 1 (codes "c2") ten (AddCustomer mary), ok (codes "{\"customer\":2}"))
    ∷ []

-- a copy goes out twice at one moment, but not twice to the same customer
rent_return_rent : Plays rules [] (
    four_copies_in ++
    two_customers ++
    (does 1 (codes "a") ten (Rent 1 1), ok (codes "{\"rental\":1}"))
    ∷ (does 1 (codes "b") ten (TakeBack 1), ok (codes "{\"returned\":1}"))
    ∷ (does 1 (codes "c") ten (Rent 1 1), no (codes "{\"refused\":\"same_moment\"}"))
    ∷ (does 1 (codes "d") ten (Rent 2 1), ok (codes "{\"rental\":2}"))
    ∷ (asks 1 (HeldBy 1), ok (codes "{\"customer\":2}"))
    ∷ (asks 1 (FilmInStock 1), ok (codes "{\"copies\":[2,3],\"count\":2}"))
    ∷ (asks 1 (InStock 5), no (codes "{\"refused\":\"no_copy\"}"))
    ∷ [])
unfolding computing
rent_return_rent = refl

abbrev pub one_out_one_scrapped : Script
one_out_one_scrapped =
    (does 1 (codes "a") ten (Rent 1 1), ok (codes "{\"rental\":1}"))
    ∷ (does 1 (codes "b") ten (Scrap 3), ok (codes "{\"scrapped\":3}"))
    ∷ []

scrapped_and_out : Plays rules (four_copies_in ++ two_customers) (
    one_out_one_scrapped ++
    (asks 1 (FilmInStock 1), ok (codes "{\"copies\":[2],\"count\":1}"))
    ∷ (asks 1 (FilmNotInStock 1), ok (codes "{\"copies\":[1],\"count\":1}"))
    ∷ (asks 1 (InStock 3), ok (codes "{\"in_stock\":true}"))
    ∷ (does 1 (codes "c") ten (Scrap 1), no (codes "{\"refused\":\"copy_out\"}"))
    ∷ (does 1 (codes "d") ten (Rent 1 3), no (codes "{\"refused\":\"copy_not_here\"}"))
    ∷ (does 1 (codes "e") ten (Scrap 3), no (codes "{\"refused\":\"copy_not_here\"}"))
    ∷ (does 1 (codes "f") ten (Rent 1 5), no (codes "{\"refused\":\"no_copy\"}"))
    ∷ (asks 1 (FilmInStock 9), no (codes "{\"refused\":\"no_film\"}"))
    ∷ [])
unfolding computing
scrapped_and_out = refl

-- who isn't active can't rent, and can give back
inactive_customer : Plays rules (four_copies_in ++ two_customers ++ one_out_one_scrapped) (
    (does 1 (codes "g") ten (SetActive 1 false), ok (codes "{\"active\":false,\"customer\":1}"))
    ∷ (does 1 (codes "h") ten (SetActive 1 false), no (codes "{\"refused\":\"already\"}"))
    ∷ (does 1 (codes "i") ten (Rent 1 2), no (codes "{\"refused\":\"customer_inactive\"}"))
    ∷ (does 1 (codes "j") ten (Rent 1 99), no (codes "{\"refused\":\"customer_inactive\"}"))
    ∷ (does 1 (codes "k") ten (TakeBack 1), ok (codes "{\"returned\":1}"))
    ∷ (does 1 (codes "l") ten (TakeBack 1), no (codes "{\"refused\":\"rental_returned\"}"))
    ∷ (does 1 (codes "m") ten (TakeBack 2), no (codes "{\"refused\":\"no_rental\"}"))
    ∷ [])
unfolding computing
inactive_customer = refl

-- a stock file with a fault leaves nothing, so that the next copy is the first
bad_stock_file : Plays rules [] (
    (does 1 (codes "a") ten (Import (codes "L1") none_on_third_line), no (codes "{\"line\":3,\"refused\":\"bad_csv\"}"))
    ∷ (does 1 (codes "b") ten (Import (codes "L1") four_copies), ok (codes "{\"copies\":4,\"first\":1}"))
    ∷ (does 1 (codes "c") ten (Import (codes "L2") header_alone), no (codes "{\"line\":2,\"refused\":\"bad_csv\"}"))
    ∷ (does 1 (codes "d") ten (Import (codes "L2") []), no (codes "{\"line\":1,\"refused\":\"bad_csv\"}"))
    ∷ (does 1 (codes "e") ten (Import (codes "L1") four_copies), no (codes "{\"refused\":\"lot_in\"}"))
    ∷ [])
unfolding computing
bad_stock_file = refl

-- a refused import leaves its lot free
unknown_film_then_lot : Plays rules [] (
    (does 1 (codes "a") ten (Import (codes "L1") two_and_unknown), no (codes "{\"refused\":\"no_film\"}"))
    ∷ (does 1 (codes "b") ten (Import (codes "L1") two_copies), ok (codes "{\"copies\":2,\"first\":1}"))
    ∷ [])
unfolding computing
unknown_film_then_lot = refl

-- a lot that is in, with a stock file that doesn't read
lot_before_csv : Plays rules four_copies_in (
    (does 1 (codes "a") ten (Import (codes "L1") none_on_third_line), no (codes "{\"refused\":\"lot_in\"}"))
    ∷ [])
unfolding computing
lot_before_csv = refl

-- a stock file that reads and is too large is refused for that, whatever its films are
full_before_film : Plays (limited 1000000 2) [] (
    (does 1 (codes "a") ten (Import (codes "L1") two_and_unknown), no (codes "{\"refused\":\"full\"}"))
    ∷ [])
unfolding computing
full_before_film = refl
