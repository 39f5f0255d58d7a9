-- The register: the rental that has a copy, as a function of the entries and their replies.
use Rattle.std.specs.Prelude.{ℕ, ◌-◌, ◌==◌, ◌&&◌, Bool, false, nat_le, if◌then◌else◌, List, [], ◌∷◌, length, slice_range, Option, Some, None, option_and_then}
use Rattle.std.specs.Prelude.{codes, decimal}
use Rattle.std.specs.List.{fold}
use Rattle.std.specs.Str.{bytes_eq}
use Rattle.shop_types.specs.Numbers.{row_number_of}
use Rattle.shop_model.specs.Values.{Text, Act, Rent, TakeBack}
use Rattle.shop_model.specs.Json.{object}
use Rattle.shop_model.specs.Answers.{Answer}
use Rattle.till_model.specs.Tills.{Entry}

-- the body of the reply to an accepted rent
abbrev pub rental_body : ℕ → Text
rental_body rental = object ((codes "rental", decimal rental) ∷ [])

-- the number of the rental, if the text is the body of a reply to an accepted rent
abbrev pub rental_in : Text → Option ℕ
rental_in body = option_and_then (λ n. if bytes_eq (rental_body n) body then Some n else None) (row_number_of (slice_range body 10 (length body - 1)))

-- the rental that the answer gives, if it is an accepted rent's
abbrev pub rental_told : Answer → Option ℕ
rental_told answer = if answer.status == 200 && nat_le 12 (length answer.body) then rental_in answer.body else None

abbrev pub is_held : ℕ → Option ℕ → Bool
is_held rental None = false
is_held rental (Some held) = held == rental

abbrev pub or_held : Option ℕ → Option ℕ → Option ℕ
or_held None held = held
or_held (Some rental) held = Some rental

-- the copy's rental after a command and its reply: an accepted rent of the copy sets it, and an accepted return of that rental clears it
abbrev pub after_reply : ℕ → Act → Answer → Option ℕ → Option ℕ
after_reply copy (Rent customer rented) answer held = if rented == copy then or_held (rental_told answer) held else held
after_reply copy (TakeBack rental) answer held = if answer.status == 200 && is_held rental held then None else held
after_reply copy act answer held = held

abbrev pub after_told : ℕ → Act → Option Answer → Option ℕ → Option ℕ
after_told copy act None held = held
after_told copy act (Some answer) held = after_reply copy act answer held

abbrev pub after_entry : ℕ → Option ℕ → Entry → Option ℕ
after_entry copy held entry = after_told copy entry.command.act entry.reply held

-- the copy's rental after these entries
abbrev pub rental_of : ℕ → List Entry → Option ℕ
rental_of copy entries = fold (after_entry copy) None entries
