-- Worked rows: whole histories of several branches.
use Rattle.shop_model.proofs.Common.{◌≡◌, ℕ, List, [], ◌∷◌, ◌++◌, map, Some, refl, codes, decimal, Moment, AddCustomer, Rent, TakeBack, Pay, Import, Dispatch}
use Rattle.shop_model.proofs.Common.{Receive, FilmList, InStock, HeldBy, Balance, OneView, Audit, Answer, answer_of, opening_books, Event, run, replies_to}
use Rattle.shop_model.proofs.Common.{office_look, replicate}
use Rattle.shop_model.proofs.RowScripts.{computing, moment, ten, two_copies, one_copy, rules, does, asks, wants, mary, ok, Plays}
use Rattle.shop_model.proofs.RowsOfRentals.{four_copies_in}

-- the same, counted from 1
abbrev ten_times : (ℕ → Event) → List Event
ten_times event = map event (1 ∷ 2 ∷ 3 ∷ 4 ∷ 5 ∷ 6 ∷ 7 ∷ 8 ∷ 9 ∷ 10 ∷ [])

abbrev new_year : Moment
new_year = moment 2027 1 1 0 0 0

abbrev ten_customers : List Event
ten_customers = ten_times (λ n. does 1 (codes "c" ++ decimal n) new_year (AddCustomer mary))

abbrev ten_imports : List Event
ten_imports = ten_times (λ n. does 1 (codes "i" ++ decimal n) new_year (Import (codes "l" ++ decimal n) one_copy))

abbrev ten_rentals : List Event
ten_rentals = ten_times (λ n. does 1 (codes "r" ++ decimal n) new_year (Rent 10 n))

abbrev ten_looks : List Event
ten_looks = ten_times (λ n. asks 1 (InStock n))

abbrev customer_comes : Event
customer_comes = does 2 (codes "a") ten (AddCustomer mary)

abbrev copies_come : Event
copies_come = does 2 (codes "b") ten (Import (codes "L1") two_copies)

abbrev copy_goes_out : Event
copy_goes_out = does 2 (codes "c") ten (Rent 1 2)

abbrev holder_is_asked : Event
holder_is_asked = asks 2 (HeldBy 2)

abbrev alone : List Event
alone = customer_comes ∷ copies_come ∷ copy_goes_out ∷ holder_is_asked ∷ []

abbrev among_others : List Event
among_others = ten_customers ++ customer_comes ∷ ten_imports ++ copies_come ∷ ten_rentals ++ copy_goes_out ∷ ten_looks ++ holder_is_asked ∷ []

abbrev sent_to : ℕ → List Event → List Answer
sent_to b events = map answer_of (replies_to b (run rules office_look events opening_books))

abbrev told : List Answer
told =
    ok (codes "{\"customer\":1}")
    ∷ ok (codes "{\"copies\":2,\"first\":1}")
    ∷ ok (codes "{\"rental\":1}")
    ∷ ok (codes "{\"customer\":1}")
    ∷ []

none_between : sent_to 2 alone ≡ told
unfolding computing
none_between = refl

-- forty requests of another branch between change no byte of it
forty_between : sent_to 2 among_others ≡ told
unfolding computing
forty_between = refl

forty_accepted : map (λ (it : Answer). it.status) (sent_to 1 among_others) ≡ replicate 40 200
unfolding computing
forty_accepted = refl

-- one request of each kind, from the first customer to the audit
whole_day : Plays rules [] (
    (does 1 (codes "k1") ten (AddCustomer mary), ok (codes "{\"customer\":1}"))
    ∷ four_copies_in ++
    (does 1 (codes "a") ten (Rent 1 1), ok (codes "{\"rental\":1}"))
    ∷ (does 1 (codes "b") ten (TakeBack 1), ok (codes "{\"returned\":1}"))
    ∷ (does 1 (codes "c") ten (Pay 1 (Some 1) 499), ok (codes "{\"payment\":1}"))
    ∷ (asks 1 (Balance 1 ten), ok (codes "{\"balance\":0}"))
    ∷ (
      asks 1 (OneView FilmList),
      ok (codes "[{\"actors\":\"ANN HILL, BO KERR\",\"category\":\"Action\",\"description\":\"\",\"film\":1,\"length\":86,\"price\":499,\"rating\":\"PG\",\"title\":\"RIVER DAWN\"},{\"actors\":\"BO KERR\",\"category\":\"Comedy\",\"description\":\"\",\"film\":2,\"length\":null,\"price\":299,\"rating\":\"G\",\"title\":\"NORTH LIGHT\"}]"),
    )
    ∷ (does 1 (codes "d") ten (Dispatch 2 (3 ∷ [])), ok (codes "{\"consignment\":1,\"to\":2}"))
    ∷ (does 2 (codes "a") ten (Receive 1 1 []), ok (codes "{\"copies\":[1]}"))
    ∷ (wants Audit, ok (codes "{\"gone\":0,\"here\":4,\"made\":4,\"sound\":true,\"transit\":0}"))
    ∷ [])
unfolding computing
whole_day = refl
