-- The refusals in the order in which they are tested: their numbers, names and statuses. The names and the order are our own. The statuses are from RFC 9110.
use Rattle.std.specs.Prelude.{ℕ, ◌==◌, ◌&&◌, nat_le, if◌then◌else◌, codes}
use Rattle.shop_model.specs.Values.{Text}

-- what a decision may refuse a request for
pub data Refusal : Type 0 where
  TooLong NoCounter NoRoute BadBody KeyUsed Full MomentBack NoStaff NoCustomer CustomerInactive NoCopy
      CopyNotHere CopyOut FilmWithdrawn SameMoment NoRental RentalReturned WrongCustomer NoFilm LotIn :
      Refusal
  BadCsv : ℕ → Refusal  -- line
  NoBranch OwnBranch NoArrival ArrivalReceived BadLines BadThreshold TokenTaken NoSharedRow Already Usage : Refusal

-- why there is no other answer: a decision, a text that is no message, or a store that can't do its part
pub data Problem : Type 0 where
  BadHead : Problem
  Decision : Refusal → Problem
  Memory Size StoreFailed : Problem

abbrev pub refusal_number : Refusal → ℕ
refusal_number TooLong = 2
refusal_number NoCounter = 3
refusal_number NoRoute = 4
refusal_number BadBody = 5
refusal_number KeyUsed = 6
refusal_number Full = 7
refusal_number MomentBack = 8
refusal_number NoStaff = 9
refusal_number NoCustomer = 10
refusal_number CustomerInactive = 11
refusal_number NoCopy = 12
refusal_number CopyNotHere = 13
refusal_number CopyOut = 14
refusal_number FilmWithdrawn = 15
refusal_number SameMoment = 16
refusal_number NoRental = 17
refusal_number RentalReturned = 18
refusal_number WrongCustomer = 19
refusal_number NoFilm = 20
refusal_number LotIn = 21
refusal_number (BadCsv line) = 22
refusal_number NoBranch = 23
refusal_number OwnBranch = 24
refusal_number NoArrival = 25
refusal_number ArrivalReceived = 26
refusal_number BadLines = 27
refusal_number BadThreshold = 28
refusal_number TokenTaken = 29
refusal_number NoSharedRow = 30
refusal_number Already = 31
refusal_number Usage = 32

abbrev pub problem_number : Problem → ℕ
problem_number BadHead = 1
problem_number (Decision refusal) = refusal_number refusal
problem_number Memory = 40
problem_number Size = 41
problem_number StoreFailed = 42

abbrev pub refusal_name : Refusal → Text
refusal_name TooLong = codes "too_long"
refusal_name NoCounter = codes "no_counter"
refusal_name NoRoute = codes "no_route"
refusal_name BadBody = codes "bad_body"
refusal_name KeyUsed = codes "key_used"
refusal_name Full = codes "full"
refusal_name MomentBack = codes "moment_back"
refusal_name NoStaff = codes "no_staff"
refusal_name NoCustomer = codes "no_customer"
refusal_name CustomerInactive = codes "customer_inactive"
refusal_name NoCopy = codes "no_copy"
refusal_name CopyNotHere = codes "copy_not_here"
refusal_name CopyOut = codes "copy_out"
refusal_name FilmWithdrawn = codes "film_withdrawn"
refusal_name SameMoment = codes "same_moment"
refusal_name NoRental = codes "no_rental"
refusal_name RentalReturned = codes "rental_returned"
refusal_name WrongCustomer = codes "wrong_customer"
refusal_name NoFilm = codes "no_film"
refusal_name LotIn = codes "lot_in"
refusal_name (BadCsv line) = codes "bad_csv"
refusal_name NoBranch = codes "no_branch"
refusal_name OwnBranch = codes "own_branch"
refusal_name NoArrival = codes "no_arrival"
refusal_name ArrivalReceived = codes "arrival_received"
refusal_name BadLines = codes "bad_lines"
refusal_name BadThreshold = codes "bad_threshold"
refusal_name TokenTaken = codes "token_taken"
refusal_name NoSharedRow = codes "no_shared_row"
refusal_name Already = codes "already"
refusal_name Usage = codes "usage"

abbrev pub problem_name : Problem → Text
problem_name BadHead = codes "bad_head"
problem_name (Decision refusal) = refusal_name refusal
problem_name Memory = codes "memory"
problem_name Size = codes "size"
problem_name StoreFailed = codes "store_failed"

-- 403 for an unknown caller, 404 for an unknown route, 409 for what the books forbid, 503 if the store can't, else 400
abbrev pub status_of : ℕ → ℕ
status_of number =
    if number == 3 then 403
    else (if number == 4 then 404
    else (if nat_le 40 number then 503
    else (if nat_le 6 number && nat_le number 31 then 409 else 400)))

abbrev pub problem_status : Problem → ℕ
problem_status problem = status_of (problem_number problem)
