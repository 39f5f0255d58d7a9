-- Worked rows: payments, balances, overdue rentals and rewards.
use Rattle.shop_model.proofs.Common.{◌≡◌, [], ◌∷◌, ◌++◌, Some, None, refl, codes, days_in_month, ByCode, ByComment, AddCustomer, Rent, TakeBack, Pay, Import}
use Rattle.shop_model.proofs.Common.{PriceFilm, ChooseRule, Balance, Overdue, Rewards}
use Rattle.shop_model.proofs.RowScripts.{computing, moment, ten, march, one_copy, rules, does, asks, orders, mary, ok, no, Script, Plays}

-- one copy of the first film, at 499 cents for three days, and one customer
abbrev pub copy_and_customer : Script
copy_and_customer =
    (does 1 (codes "i1") ten (Import (codes "L1") one_copy), ok (codes "{\"copies\":1,\"first\":1}"))
    ∷ (does 1 (codes "k1") ten (AddCustomer mary), ok (codes "{\"customer\":1}"))
    ∷ []

-- rented and paid at once, and returned on the fifth day after
abbrev pub five_days_out : Script
five_days_out =
    (does 1 (codes "a") ten (Rent 1 1), ok (codes "{\"rental\":1}"))
    ∷ (does 1 (codes "b") ten (Pay 1 (Some 1) 499), ok (codes "{\"payment\":1}"))
    ∷ (does 1 (codes "c") (moment 2026 3 6 9 0 0) (TakeBack 1), ok (codes "{\"returned\":1}"))
    ∷ []

-- the return isn't compared with the moment that is asked for; a rental is
two_late_days : Plays rules copy_and_customer (
    five_days_out ++
    (asks 1 (Balance 1 (march 10)), ok (codes "{\"balance\":200}"))
    ∷ (asks 1 (Balance 1 (march 3)), ok (codes "{\"balance\":200}"))
    ∷ (asks 1 (Balance 1 (moment 2026 3 1 9 59 59)), ok (codes "{\"balance\":0}"))
    ∷ [])
unfolding computing
two_late_days = refl

-- days are counted by their numbers, not by hours
one_late_day : Plays rules copy_and_customer (
    (does 1 (codes "a") (moment 2026 3 1 23 59 59) (Rent 1 1), ok (codes "{\"rental\":1}"))
    ∷ (does 1 (codes "b") (march 5) (TakeBack 1), ok (codes "{\"returned\":1}"))
    ∷ (asks 1 (Balance 1 (march 10)), ok (codes "{\"balance\":599}"))
    ∷ [])
unfolding computing
one_late_day = refl

-- an open rental adds no late fee, and is overdue after its period
open_rental_overdue : Plays rules copy_and_customer (
    (does 1 (codes "a") ten (Rent 1 1), ok (codes "{\"rental\":1}"))
    ∷ (asks 1 (Balance 1 (moment 2026 12 31 0 0 0)), ok (codes "{\"balance\":499}"))
    ∷ (asks 1 (Overdue (moment 2026 3 4 23 59 59)), ok (codes "[]"))
    ∷ (asks 1 (Overdue (march 5)), ok (codes "[{\"customer\":\"SMITH, MARY\",\"phone\":\"555\",\"title\":\"RIVER DAWN\"}]"))
    ∷ [])
unfolding computing
open_rental_overdue = refl

-- a balance counts the price for which it was rented
price_lowered : Plays rules (copy_and_customer ++ five_days_out) (
    (orders (codes "p1") (PriceFilm 1 299), ok (codes "{\"film\":1,\"rate\":299}"))
    ∷ (asks 1 (Balance 1 (march 10)), ok (codes "{\"balance\":200}"))
    ∷ [])
unfolding computing
price_lowered = refl

price_and_back : Plays rules (copy_and_customer ++ (does 1 (codes "a") ten (Rent 1 1), ok (codes "{\"rental\":1}")) ∷ []) (
    (asks 1 (Balance 1 (march 2)), ok (codes "{\"balance\":499}"))
    ∷ (orders (codes "p1") (PriceFilm 1 299), ok (codes "{\"film\":1,\"rate\":299}"))
    ∷ (asks 1 (Balance 1 (march 2)), ok (codes "{\"balance\":499}"))
    ∷ (orders (codes "p2") (PriceFilm 1 499), ok (codes "{\"film\":1,\"rate\":499}"))
    ∷ (asks 1 (Balance 1 (march 2)), ok (codes "{\"balance\":499}"))
    ∷ [])
unfolding computing
price_and_back = refl

-- by the comment's rule a rental counts as it was seen at the moment: back on the fifth day, out on the third, and one day late on the fourth after
rule_by_comment : Plays rules (copy_and_customer ++ five_days_out) (
    (orders (codes "r1") (ChooseRule ByComment), ok (codes "{\"rule\":\"comment\"}"))
    ∷ (asks 1 (Balance 1 (march 10)), ok (codes "{\"balance\":200}"))
    ∷ (asks 1 (Balance 1 (march 3)), ok (codes "{\"balance\":0}"))
    ∷ (asks 1 (Balance 1 (moment 2026 3 5 12 0 0)), ok (codes "{\"balance\":100}"))
    ∷ (orders (codes "r2") (ChooseRule ByCode), ok (codes "{\"rule\":\"code\"}"))
    ∷ (asks 1 (Balance 1 (march 3)), ok (codes "{\"balance\":200}"))
    ∷ [])
unfolding computing
rule_by_comment = refl

-- An open rental is charged each day past its period, and its replacement cost once these are more than twice the period. Six days aren't.
replacement_charged : Plays rules (copy_and_customer ++ (does 1 (codes "a") ten (Rent 1 1), ok (codes "{\"rental\":1}")) ∷ []) (
    (asks 1 (Balance 1 (march 10)), ok (codes "{\"balance\":499}"))
    ∷ (asks 1 (Balance 1 (march 11)), ok (codes "{\"balance\":499}"))
    ∷ (asks 1 (Balance 1 (moment 2026 12 31 0 0 0)), ok (codes "{\"balance\":499}"))
    ∷ (orders (codes "r1") (ChooseRule ByComment), ok (codes "{\"rule\":\"comment\"}"))
    ∷ (asks 1 (Balance 1 (march 10)), ok (codes "{\"balance\":1099}"))
    ∷ (asks 1 (Balance 1 (march 11)), ok (codes "{\"balance\":3198}"))
    ∷ (asks 1 (Balance 1 (moment 2026 12 31 0 0 0)), ok (codes "{\"balance\":32698}"))
    ∷ [])
unfolding computing
replacement_charged = refl

-- both thresholds have to be passed
rewards_in_leap_month : Plays rules copy_and_customer (
    (does 1 (codes "a") (moment 2028 2 1 0 0 0) (Pay 1 None 300), ok (codes "{\"payment\":1}"))
    ∷ (does 1 (codes "b") (moment 2028 2 29 23 59 59) (Pay 1 None 200), ok (codes "{\"payment\":2}"))
    ∷ (asks 1 (Rewards (moment 2028 3 31 0 0 0) 1 499), ok (codes "{\"count\":1,\"customers\":[1]}"))
    ∷ (asks 1 (Rewards (moment 2028 3 31 0 0 0) 1 500), ok (codes "{\"count\":0,\"customers\":[]}"))
    ∷ (asks 1 (Rewards (moment 2028 3 31 0 0 0) 2 499), ok (codes "{\"count\":0,\"customers\":[]}"))
    ∷ (asks 1 (Rewards (moment 2028 3 31 0 0 0) 0 499), no (codes "{\"refused\":\"bad_threshold\"}"))
    ∷ [])
unfolding computing
rewards_in_leap_month = refl

-- a threshold of nothing is refused also where there is no month before
no_month_before : Plays rules copy_and_customer (
    (asks 1 (Rewards (moment 1970 1 31 0 0 0) 1 1), ok (codes "{\"count\":0,\"customers\":[]}"))
    ∷ (asks 1 (Rewards (moment 1970 1 31 0 0 0) 0 1), no (codes "{\"refused\":\"bad_threshold\"}"))
    ∷ (asks 1 (Rewards (moment 1970 1 31 0 0 0) 1 0), no (codes "{\"refused\":\"bad_threshold\"}"))
    ∷ [])
unfolding computing
no_month_before = refl

balance_below_zero : Plays rules copy_and_customer (
    (does 1 (codes "a") ten (Pay 1 None 1000), ok (codes "{\"payment\":1}"))
    ∷ (asks 1 (Balance 1 ten), ok (codes "{\"balance\":-1000}"))
    ∷ (asks 1 (Balance 1 (moment 2026 3 1 9 59 59)), ok (codes "{\"balance\":0}"))
    ∷ [])
unfolding computing
balance_below_zero = refl

rental_of_another : Plays rules copy_and_customer (
    (does 1 (codes "a") ten (AddCustomer mary), ok (codes "{\"customer\":2}"))
    ∷ (does 1 (codes "b") ten (Rent 1 1), ok (codes "{\"rental\":1}"))
    ∷ (does 1 (codes "c") ten (Pay 2 (Some 1) 499), no (codes "{\"refused\":\"wrong_customer\"}"))
    ∷ (does 1 (codes "d") ten (Pay 2 (Some 9) 499), no (codes "{\"refused\":\"no_rental\"}"))
    ∷ [])
unfolding computing
rental_of_another = refl

-- the month before March 2028 has 29 days, that before March 2026 has 28
leap_month : (days_in_month 2028 2 ≡ 29) × (days_in_month 2026 2 ≡ 28)
leap_month = (refl, refl)
