-- Worked rows: consignments, and where each copy is.
use Rattle.shop_model.proofs.Common.{◌≡◌, ℕ, List, [], ◌∷◌, ◌++◌, true, refl, codes, Here, AddCustomer, Rent, TakeBack, Import, Dispatch, Receive, Scrap}
use Rattle.shop_model.proofs.Common.{Arrivals, SentOff, Custody, Transit, Audit, Books, made, transit, gone, set_row, put_state}
use Rattle.shop_model.specs.Sound.{here}
use Rattle.shop_model.proofs.RowScripts.{computing, ten, four_copies, two_copies, one_copy, limited, rules, does, asks, wants, mary, ok, no, Script, Plays}
use Rattle.shop_model.proofs.RowScripts.{books_after}

-- the first branch has four copies, the second two
abbrev pub stocked : Script
stocked =
    (does 1 (codes "c1") ten (AddCustomer mary), ok (codes "{\"customer\":1}"))
    ∷ (does 1 (codes "i1") ten (Import (codes "L1") four_copies), ok (codes "{\"copies\":4,\"first\":1}"))
    ∷ (does 2 (codes "i1") ten (Import (codes "L1") two_copies), ok (codes "{\"copies\":2,\"first\":1}"))
    ∷ []

-- one copy goes to the third branch, and then three to the second
abbrev pub dispatched : Script
dispatched =
    (does 1 (codes "d1") ten (Dispatch 3 (3 ∷ [])), ok (codes "{\"consignment\":1,\"to\":3}"))
    ∷ (does 1 (codes "d2") ten (Dispatch 2 (1 ∷ 2 ∷ 4 ∷ [])), ok (codes "{\"consignment\":1,\"to\":2}"))
    ∷ []

-- consignments are numbered by their sender and addressee
two_dispatches : Plays rules [] (
    stocked ++
    (does 2 (codes "r1") ten (Receive 1 1 []), no (codes "{\"refused\":\"no_arrival\"}"))
    ∷ dispatched ++
    (asks 2 Arrivals, ok (codes "[{\"films\":[1,1,2],\"from\":1,\"number\":1,\"received\":false}]"))
    ∷ (asks 1 SentOff, ok (codes "[{\"films\":[1],\"number\":1,\"to\":3},{\"films\":[1,1,2],\"number\":1,\"to\":2}]"))
    ∷ (does 1 (codes "a") ten (Rent 1 1), no (codes "{\"refused\":\"copy_not_here\"}"))
    ∷ [])
unfolding computing
two_dispatches = refl

-- the sender is shown the same, before and after the receipt
receipt_with_missing : Plays rules (stocked ++ dispatched) (
    (does 2 (codes "r2") ten (Receive 1 1 (2 ∷ [])), ok (codes "{\"copies\":[3,4]}"))
    ∷ (does 2 (codes "r3") ten (Receive 1 1 (2 ∷ [])), no (codes "{\"refused\":\"arrival_received\"}"))
    ∷ (wants (Custody 1 2), ok (codes "{\"place\":\"gone\"}"))
    ∷ (wants (Custody 1 4), ok (codes "{\"branch\":2,\"copy\":4,\"place\":\"here\"}"))
    ∷ (wants (Custody 1 3), ok (codes "{\"from\":1,\"number\":1,\"place\":\"transit\",\"to\":3}"))
    ∷ (wants Audit, ok (codes "{\"gone\":1,\"here\":4,\"made\":6,\"sound\":true,\"transit\":1}"))
    ∷ (asks 1 SentOff, ok (codes "[{\"films\":[1],\"number\":1,\"to\":3},{\"films\":[1,1,2],\"number\":1,\"to\":2}]"))
    ∷ (asks 2 Arrivals, ok (codes "[{\"films\":[1,1,2],\"from\":1,\"number\":1,\"received\":true}]"))
    ∷ [])
unfolding computing
receipt_with_missing = refl

-- a copy that comes home has a new number and its old mark
there_and_back : Plays rules [] (
    (does 1 (codes "c1") ten (AddCustomer mary), ok (codes "{\"customer\":1}"))
    ∷ (does 1 (codes "i1") ten (Import (codes "L1") one_copy), ok (codes "{\"copies\":1,\"first\":1}"))
    ∷ (does 1 (codes "a") ten (Dispatch 2 (1 ∷ [])), ok (codes "{\"consignment\":1,\"to\":2}"))
    ∷ (does 2 (codes "a") ten (Receive 1 1 []), ok (codes "{\"copies\":[1]}"))
    ∷ (does 2 (codes "b") ten (Dispatch 1 (1 ∷ [])), ok (codes "{\"consignment\":1,\"to\":1}"))
    ∷ (does 1 (codes "b") ten (Receive 2 1 []), ok (codes "{\"copies\":[2]}"))
    ∷ (wants (Custody 1 1), ok (codes "{\"branch\":1,\"copy\":2,\"place\":\"here\"}"))
    ∷ (wants (Custody 1 2), no (codes "{\"refused\":\"no_copy\"}"))
    ∷ (does 1 (codes "c") ten (Rent 1 2), ok (codes "{\"rental\":1}"))
    ∷ (does 1 (codes "d") ten (Dispatch 2 (2 ∷ [])), no (codes "{\"refused\":\"copy_out\"}"))
    ∷ (does 1 (codes "e") ten (TakeBack 1), ok (codes "{\"returned\":1}"))
    ∷ (does 1 (codes "f") ten (Dispatch 1 (2 ∷ [])), no (codes "{\"refused\":\"own_branch\"}"))
    ∷ [])
unfolding computing
there_and_back = refl

-- by sender and addressee, not by the order of dispatch
in_transit : Plays rules (stocked ++ dispatched) (
    (wants Transit, ok (codes "[{\"films\":[1,1,2],\"from\":1,\"number\":1,\"to\":2},{\"films\":[1],\"from\":1,\"number\":1,\"to\":3}]"))
    ∷ [])
unfolding computing
in_transit = refl

abbrev all_of : Books → List ℕ
all_of books = made (λ _. true) books ∷ here (λ _. true) books ∷ transit (λ _. true) books ∷ gone (λ _. true) books ∷ []

in_transit_counts : all_of (books_after rules (stocked ++ dispatched)) ≡ 6 ∷ 2 ∷ 4 ∷ 0 ∷ []
unfolding computing
in_transit_counts = refl

-- a copy that is under way and is said to be here as well is in two places, and the numbers no longer agree
copy_in_two_places : (let books = books_after rules (stocked ++ dispatched) in all_of (record books { copies = set_row 1 1 (put_state Here) books.copies }))
    ≡ 6 ∷ 3 ∷ 4 ∷ 0 ∷ []
unfolding computing
copy_in_two_places = refl

-- no copy, a copy twice, a copy and a branch that aren't there, and of two faults the first
bad_lines_sent : Plays rules stocked (
    (does 1 (codes "a") ten (Dispatch 2 []), no (codes "{\"refused\":\"bad_lines\"}"))
    ∷ (does 1 (codes "b") ten (Dispatch 2 (1 ∷ 1 ∷ [])), no (codes "{\"refused\":\"bad_lines\"}"))
    ∷ (does 1 (codes "c") ten (Dispatch 2 (1 ∷ 9 ∷ [])), no (codes "{\"refused\":\"no_copy\"}"))
    ∷ (does 1 (codes "d") ten (Dispatch 9 (1 ∷ [])), no (codes "{\"refused\":\"no_branch\"}"))
    ∷ (does 1 (codes "e") ten (Dispatch 1 []), no (codes "{\"refused\":\"own_branch\"}"))
    ∷ (does 1 (codes "f") ten (Dispatch 9 (9 ∷ [])), no (codes "{\"refused\":\"no_copy\"}"))
    ∷ [])
unfolding computing
bad_lines_sent = refl

-- missing lines are named in order; none and all may be missing
bad_lines_received : Plays rules (stocked ++ dispatched) (
    (does 2 (codes "a") ten (Receive 1 1 (4 ∷ [])), no (codes "{\"refused\":\"bad_lines\"}"))
    ∷ (does 2 (codes "b") ten (Receive 1 1 (2 ∷ 1 ∷ [])), no (codes "{\"refused\":\"bad_lines\"}"))
    ∷ (does 2 (codes "c") ten (Receive 1 2 []), no (codes "{\"refused\":\"no_arrival\"}"))
    ∷ (does 2 (codes "d") ten (Receive 1 1 (1 ∷ 2 ∷ 3 ∷ [])), ok (codes "{\"copies\":[]}"))
    ∷ [])
unfolding computing
bad_lines_received = refl

-- four copies are allowed, and two are there
full_at_receipt : Plays (limited 1000000 4) (stocked ++ dispatched) (
    (does 2 (codes "a") ten (Receive 1 1 []), no (codes "{\"refused\":\"full\"}"))
    ∷ (does 2 (codes "b") ten (Receive 1 1 (2 ∷ [])), ok (codes "{\"copies\":[3,4]}"))
    ∷ [])
unfolding computing
full_at_receipt = refl

-- a copy that was sent keeps its row
sent_copies_count : Plays (limited 1000000 1) [] (
    (does 1 (codes "a") ten (Import (codes "L1") one_copy), ok (codes "{\"copies\":1,\"first\":1}"))
    ∷ (does 1 (codes "b") ten (Dispatch 2 (1 ∷ [])), ok (codes "{\"consignment\":1,\"to\":2}"))
    ∷ (does 1 (codes "c") ten (Import (codes "L2") one_copy), no (codes "{\"refused\":\"full\"}"))
    ∷ [])
unfolding computing
sent_copies_count = refl

scrapped_is_gone : Plays rules stocked (
    (does 1 (codes "a") ten (Scrap 2), ok (codes "{\"scrapped\":2}"))
    ∷ (wants (Custody 1 2), ok (codes "{\"place\":\"gone\"}"))
    ∷ (wants (Custody 9 1), no (codes "{\"refused\":\"no_branch\"}"))
    ∷ (wants Audit, ok (codes "{\"gone\":1,\"here\":5,\"made\":6,\"sound\":true,\"transit\":0}"))
    ∷ [])
unfolding computing
scrapped_is_gone = refl
