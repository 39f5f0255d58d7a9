-- Forms as lists of parts.
use Rattle.std.specs.Prelude.{⊤, ◌≡◌, ◌≤◌, ◌+◌, ℕ, Bool, false, List, [], ◌∷◌, ◌++◌, length, slice_get, flat_map, Option, Some, IfSome}
use Rattle.shop_model.specs.Calendar.{Moment, IsMoment, moment_text}
use Rattle.shop_model.specs.Values.{Act, Command, OfficeAct}
use Rattle.shop_schema.specs.Forms.{number_form, text_form, numbers_form, option_form, flag_form, act_form, command_form, office_form, AreNumbers, AreBytes}
use Rattle.shop_schema.specs.Forms.{IsAct, IsOfficeAct}
use Rattle.shop_schema.specs.RowValues.{IsNumber, IsText, IsKey, IsToken, IsRating, IsFeatures}
use Rattle.books_audit.specs.declared.parts.Part.{Part}
use Rattle.books_audit.specs.declared.parts.Part.TheVariants as part

-- what a part of such a kind holds
abbrev pub Held : Part → Type 0
Held (part.Number low high) = ℕ
Held part.Flag = Bool
Held part.Unset = Bool
Held part.Moment = Moment
Held (part.Optional low high) = Option ℕ
Held it = List ℕ

-- what of that it may hold
abbrev pub MayHold : (it : Part) → Held it → Type 0
MayHold (part.Number low high) n = (low ≤ n) × (n ≤ high)
MayHold (part.Text low high) t = IsText low high t
MayHold part.Key t = IsKey t
MayHold part.Token t = IsToken t
MayHold part.Rating t = IsRating t
MayHold part.Features t = IsFeatures t
MayHold (part.Bytes most) t = (length t ≤ most) × AreBytes t
MayHold part.Flag b = ⊤
MayHold part.Unset b = b ≡ false
MayHold part.Moment m = IsMoment m
MayHold (part.Numbers most) ns = (length ns ≤ most) × AreNumbers ns
MayHold (part.Optional low high) o = IfSome o (λ n. (low ≤ n) × (n ≤ high))

abbrev pub held_form : (it : Part) → Held it → List ℕ
held_form (part.Number low high) n = number_form n
held_form part.Flag b = flag_form b
held_form part.Unset b = flag_form b
held_form part.Moment m = moment_text m
held_form (part.Numbers most) ns = numbers_form ns
held_form (part.Optional low high) o = option_form o
held_form it t = text_form t

-- the bytes are the form of what such a part may hold
abbrev pub HasForm : Part → List ℕ → Type 0
HasForm it piece = (held : Held it) × MayHold it held × (piece ≡ held_form it held)

-- the same, which stays one word as long as its kind isn't known
abbrev pub IsPartForm : Part → List ℕ → Type 0
IsPartForm part.Flag piece = HasForm part.Flag piece
IsPartForm it piece = HasForm it piece

-- the bytes are the forms of such parts, one after another
abbrev pub IsForm : List Part → List ℕ → Type 0
IsForm [] bytes = bytes ≡ []
IsForm (p ∷ ps) bytes = (piece : List ℕ) × (rest : List ℕ) × IsPartForm p piece × IsForm ps rest × (bytes ≡ piece ++ rest)

-- the first byte is the place of a list of parts, counted from 1, and the bytes after it are a form of that list
abbrev pub IsOneOf : List (List Part) → List ℕ → Type 0
IsOneOf forms bytes =
    (place : ℕ) × (parts : List Part) × (rest : List ℕ) × (slice_get forms place ≡ Some parts) × IsForm parts rest × (bytes ≡ (place + 1) ∷ rest)

abbrev pub form_of_each : List ℕ → List ℕ
form_of_each = flat_map number_form

-- the bytes are the form of an act, and of a command under any key
abbrev pub IsActForm : List ℕ → Type 0
IsActForm bytes = (act : Act) × IsAct act × (bytes ≡ act_form act)

abbrev pub IsCommandForm : List ℕ → Type 0
IsCommandForm bytes = (command : Command) × IsNumber command.staff × IsMoment command.moment × IsAct command.act × (bytes ≡ command_form command)

-- the bytes are the form of an act of head office
abbrev pub IsOfficeForm : List ℕ → Type 0
IsOfficeForm bytes = (act : OfficeAct) × IsOfficeAct act × (bytes ≡ office_form act)
