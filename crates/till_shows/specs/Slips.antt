-- The slip that a customer gets: lines of at most 42 columns, and a line of hyphens.
use Rattle.std.specs.Prelude.{ℕ, nat_lt, ◌||◌, ◌&&◌, Bool, true, false, if◌then◌else◌, [], ◌++◌, Option, None, Some, option_map, encode_utf8}
use Rattle.std.specs.Prelude.{ℤ, pos, negsuc, suc, codes, decimal, fold, bytes_eq}
use Rattle.std.specs.Str.{chars}
use Rattle.std.specs.Str.Lines.{lines}
use Rattle.shop_model.specs.Values.{Text}
use Rattle.shop_model.specs.Calendar.{Moment}
use Rattle.till_shows.specs.Money.{amount_text}
use Rattle.till_shows.specs.Tables.{width_of}
use Rattle.till_shows.specs.Times.{day_text, moment_text}
use Rattle.till_shows.specs.declared.slips.Slip.{Slip}
use Rattle.till_shows.specs.declared.slips.SlipKind.{SlipKind}
use Rattle.till_shows.specs.declared.slips.SlipKind.TheVariants.{Rent, Return, Payment}

-- ---- a line

-- the beginning of a line that was kept so far, and whether the line's rest is left out
pub record CutLine : Type 0 where
  pub text : Text
  pub is_full : Bool

abbrev pub nothing_cut : CutLine
nothing_cut = record { text = []; is_full = false }

-- no control character
abbrev pub is_shown : ℕ → Bool
is_shown c = nat_lt 31 c && (nat_lt c 127 || nat_lt 159 c)

-- the text takes at most 42 columns of a terminal
abbrev pub is_narrow : Text → Bool
is_narrow text = nat_lt (width_of text) 43

-- a character is kept if all before it were, it is no control character, and the line stays narrow
abbrev pub with_char : CutLine → ℕ → CutLine
with_char cut c =
    if cut.is_full then cut
    else (if is_shown c && is_narrow (cut.text ++ encode_utf8 c) then record { text = cut.text ++ encode_utf8 c; is_full = false }
    else record { text = cut.text; is_full = true })

abbrev pub cut_text : Text → Text
cut_text text = (fold with_char nothing_cut (chars text)).text

abbrev pub slip_line : Text → Text
slip_line text = cut_text text ++ codes "\n"

-- ---- the lines

abbrev pub head_line : Option ℕ → ℕ → Text
head_line None staff = slip_line (codes "staff " ++ decimal staff)
head_line (Some branch) staff = slip_line (codes "branch " ++ (decimal branch ++ (codes ", staff " ++ decimal staff)))

abbrev pub kind_text : SlipKind → Text
kind_text Rent = codes "rent"
kind_text Return = codes "return"
kind_text Payment = codes "payment"

abbrev pub title_line : Option Text → Text
title_line None = []
title_line (Some title) = slip_line (codes "film: " ++ title)

abbrev pub due_line : Option Moment → Text
due_line None = []
due_line (Some due) = slip_line (codes "due: " ++ day_text due)

abbrev pub paid_line : Option ℕ → Text
paid_line None = []
paid_line (Some cents) = slip_line (codes "paid: " ++ amount_text cents)

-- what the customer owes, or what the branch owes the customer
abbrev pub owed_text : ℤ → Text
owed_text (pos n) = codes "owed: " ++ amount_text n
owed_text (negsuc n) = codes "credit: " ++ amount_text (suc n)

abbrev pub owed_line : Option ℤ → Text
owed_line None = []
owed_line (Some cents) = slip_line (owed_text cents)

abbrev pub rental_line : Option ℕ → Text
rental_line None = []
rental_line (Some rental) = slip_line (codes "rental: " ++ decimal rental)

-- the line of hyphens that ends a slip
abbrev pub end_text : Text
end_text = codes "------------------------------------------"

abbrev pub moment_line : Moment → Text
moment_line at = slip_line (moment_text at)

-- who gave the word, when, and what it was
abbrev pub front_text : Slip → Text
front_text slip = head_line slip.branch slip.staff ++ (moment_line slip.at ++ slip_line (kind_text slip.kind))

-- what is known of it
abbrev pub known_text : Slip → Text
known_text slip =
    title_line (option_map (λ title. title.now) slip.title)
    ++ (due_line slip.due ++ (paid_line slip.paid ++ (owed_line slip.owed ++ rental_line slip.rental)))

abbrev pub slip_text : Slip → Text
slip_text slip = front_text slip ++ (known_text slip ++ (end_text ++ codes "\n"))

-- ---- slips that were written one after another

-- the last whole slip so far, and what was read after it
pub record Slips : Type 0 where
  pub last : Text
  pub rest : Text

abbrev pub no_slips : Slips
no_slips = record { last = []; rest = [] }

-- the slips with one more line, which ends a slip if it is the line of hyphens
abbrev pub with_line : Slips → Text → Slips
with_line slips line =
    let rest = slips.rest ++ (line ++ codes "\n") in
    if bytes_eq line end_text then record { last = rest; rest = [] } else record { last = slips.last; rest = rest }

-- the text of the last whole slip, or an empty text if there is none
abbrev pub last_slip : Text → Text
last_slip text = (fold with_line no_slips (lines text)).last
