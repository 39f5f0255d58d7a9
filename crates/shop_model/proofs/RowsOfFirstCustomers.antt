-- Worked rows: a customer, keys that come again, callers and limits.
use Rattle.shop_model.proofs.Common.{[], ◌∷◌, ◌++◌, None, refl, codes, AddCustomer, Pay, Import, OneCustomer, Arrivals, Sales, NoRoute, BadBody, Unread, Look}
use Rattle.shop_model.proofs.Common.{OfficeLook}
use Rattle.shop_model.proofs.RowScripts.{computing, moment, ten, march, four_copies, three_copies, limited, rules, sends, does_by, does, asks, newcomer, mary}
use Rattle.shop_model.proofs.RowScripts.{ok, no, Script, Plays}

-- the first request of all
abbrev pub mary_comes : Script
mary_comes =
    (does 1 (codes "k1") ten (AddCustomer mary), ok (codes "{\"customer\":1}"))
    ∷ []

first_customer : Plays rules [] (
    mary_comes ++ (
      asks 1 (OneCustomer 1),
      ok (codes "{\"active\":true,\"address\":\"1 Main\",\"city\":1,\"created\":\"2026-03-01T10:00:00\",\"customer\":1,\"first\":\"MARY\",\"last\":\"SMITH\",\"phone\":\"555\",\"postal\":\"\"}"),
    )
    ∷ [])
unfolding computing
first_customer = refl

-- the same request again, then its key with another name
repeat_and_used_key : Plays rules mary_comes (
    mary_comes ++
    (does 1 (codes "k1") ten (AddCustomer (newcomer (codes "MARIA"))), no (codes "{\"refused\":\"key_used\"}"))
    ∷ (asks 1 (OneCustomer 2), no (codes "{\"refused\":\"no_customer\"}"))
    ∷ [])
unfolding computing
repeat_and_used_key = refl

-- another branch numbers its own customers and has its own keys
same_key_elsewhere : Plays rules mary_comes (
    (does 2 (codes "k1") ten (AddCustomer mary), ok (codes "{\"customer\":1}"))
    ∷ [])
unfolding computing
same_key_elsewhere = refl

-- a command that comes again is answered as before, though the moments have gone on; a new command of that moment is late
repeat_after_later_command : Plays rules mary_comes (
    (does 1 (codes "k2") (march 5) (AddCustomer mary), ok (codes "{\"customer\":2}"))
    ∷ mary_comes ++
    (does 1 (codes "k3") ten (AddCustomer mary), no (codes "{\"refused\":\"moment_back\"}"))
    ∷ [])
unfolding computing
repeat_after_later_command = refl

-- staff of another branch, a city that isn't there, and both
staff_before_city : Plays rules [] (
    (does_by 1 2 (codes "a") ten (AddCustomer mary), no (codes "{\"refused\":\"no_staff\"}"))
    ∷ (does 1 (codes "b") ten (AddCustomer (record { person = record mary.person { city = 9 } })), no (codes "{\"refused\":\"no_shared_row\"}"))
    ∷ (does_by 1 2 (codes "c") ten (AddCustomer (record { person = record mary.person { city = 9 } })), no (codes "{\"refused\":\"no_staff\"}"))
    ∷ [])
unfolding computing
staff_before_city = refl

-- a token that nobody has, with and without a route, and no token at all
unknown_token : Plays rules [] (
    (sends 9 (Look Arrivals), record { status = 403; body = codes "{\"refused\":\"no_counter\"}" })
    ∷ (sends 9 (Unread NoRoute), record { status = 403; body = codes "{\"refused\":\"no_counter\"}" })
    ∷ (record { token = None; request = λ _. Look Arrivals }, record { status = 403; body = codes "{\"refused\":\"no_counter\"}" })
    ∷ [])
unfolding computing
unknown_token = refl

-- head office asks as a branch, and a branch as head office
route_of_another_caller : Plays rules [] (
    (sends 0 (Look Arrivals), record { status = 404; body = codes "{\"refused\":\"no_route\"}" })
    ∷ (sends 1 (OfficeLook Sales), record { status = 404; body = codes "{\"refused\":\"no_route\"}" })
    ∷ [])
unfolding computing
route_of_another_caller = refl

-- three copies are allowed
limits_of_copies : Plays (limited 1000000 3) [] (
    (does 1 (codes "a") ten (Import (codes "L1") four_copies), no (codes "{\"refused\":\"full\"}"))
    ∷ (does 1 (codes "b") ten (Import (codes "L1") three_copies), ok (codes "{\"copies\":3,\"first\":1}"))
    ∷ [])
unfolding computing
limits_of_copies = refl

-- one kept key is allowed: a new key finds no room, and the kept one is answered as before
limits_of_commands : Plays (limited 1 1000000) mary_comes (
    (does 1 (codes "k2") ten (AddCustomer mary), no (codes "{\"refused\":\"full\"}"))
    ∷ (does 1 (codes "k3") ten (Import (codes "L1") four_copies), no (codes "{\"refused\":\"full\"}"))
    ∷ mary_comes)
unfolding computing
limits_of_commands = refl

-- the greatest payment, a body that doesn't read, and the last moment that there is
amounts_and_moments : Plays rules mary_comes (
    (does 1 (codes "a") ten (Pay 1 None 99999), ok (codes "{\"payment\":1}"))
    ∷ (sends 1 (Unread BadBody), record { status = 400; body = codes "{\"refused\":\"bad_body\"}" })
    ∷ (does 1 (codes "b") (moment 9999 12 31 23 59 59) (AddCustomer mary), ok (codes "{\"customer\":2}"))
    ∷ (does 1 (codes "c") ten (AddCustomer mary), no (codes "{\"refused\":\"moment_back\"}"))
    ∷ [])
unfolding computing
amounts_and_moments = refl
