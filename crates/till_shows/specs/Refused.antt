-- Which refusal is in a reply.
use Rattle.std.specs.Prelude.{◌≡◌, ◌==◌, ◌^◌, nat_lt, if◌then◌else◌, ℕ, Bool, true, ◌++◌, Option, Some, None, codes, decimal}
use Rattle.shop_model.specs.Answers.{problem_answer}
use Rattle.shop_model.specs.Values.{Text}
use Rattle.shop_types.specs.Seen.{seen_refusal}
use Rattle.shop_types.specs.declared.refusal.Refusal.{Refusal}
use Rattle.shop_types.specs.declared.refusal.Refusal.TheVariants as refusal

-- the refusal's reply has this status and this body
abbrev pub HasRefusal : ℕ → Text → Refusal → Type 0
HasRefusal status body it = record { status = status; body = body } ≡ problem_answer (seen_refusal it)

-- the refusal names no line, or a line whose number fits in 32 bits
abbrev pub has_short_line : Refusal → Bool
has_short_line (refusal.BadCsv fault) = nat_lt fault.line (2 ^ 32)
has_short_line it = true

-- the text before the line's number and the text after it, in the body of the reply to a stock file at fault
abbrev pub line_start : Text
line_start = codes "{\"line\":"

abbrev pub line_end : Text
line_end = codes ",\"refused\":\"bad_csv\"}"

abbrev pub line_body : ℕ → Text
line_body line = line_start ++ (decimal line ++ line_end)

-- the refusal with this number; a stock file's refusal has no number here
abbrev pub refusal_of : ℕ → Option Refusal
refusal_of n =
    if n == 1 then Some refusal.BadHead
    else (if n == 2 then Some refusal.TooLong
    else (if n == 3 then Some refusal.NoCounter
    else (if n == 4 then Some refusal.NoRoute
    else (if n == 5 then Some refusal.BadBody
    else (if n == 6 then Some refusal.KeyUsed
    else (if n == 7 then Some refusal.Full
    else (if n == 8 then Some refusal.MomentBack
    else (if n == 9 then Some refusal.NoStaff
    else (if n == 10 then Some refusal.NoCustomer
    else (if n == 11 then Some refusal.CustomerInactive
    else (if n == 12 then Some refusal.NoCopy
    else (if n == 13 then Some refusal.CopyNotHere
    else (if n == 14 then Some refusal.CopyOut
    else (if n == 15 then Some refusal.FilmWithdrawn
    else (if n == 16 then Some refusal.SameMoment
    else (if n == 17 then Some refusal.NoRental
    else (if n == 18 then Some refusal.RentalReturned
    else (if n == 19 then Some refusal.WrongCustomer
    else (if n == 20 then Some refusal.NoFilm
    else (if n == 21 then Some refusal.LotIn
    else (if n == 23 then Some refusal.NoBranch
    else (if n == 24 then Some refusal.OwnBranch
    else (if n == 25 then Some refusal.NoArrival
    else (if n == 26 then Some refusal.ArrivalReceived
    else (if n == 27 then Some refusal.BadLines
    else (if n == 28 then Some refusal.BadThreshold
    else (if n == 29 then Some refusal.TokenTaken
    else (if n == 30 then Some refusal.NoSharedRow
    else (if n == 31 then Some refusal.Already
    else (if n == 32 then Some refusal.Usage
    else (if n == 40 then Some refusal.Memory
    else (if n == 41 then Some refusal.Size
    else (if n == 42 then Some refusal.StoreFailed else None)))))))))))))))))))))))))))))))))
