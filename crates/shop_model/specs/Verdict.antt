-- Which commands are accepted: what each may be refused for, in the order of the refusals' numbers, and what of a key that was used. All of it is our own.
use Rattle.std.specs.Prelude.{ℕ, ◌+◌, ◌==◌, ◌&&◌, ◌||◌, nat_lt, nat_le, Bool, false, not, if◌then◌else◌, List, [], ◌∷◌, length, filter, Option, Some, None}
use Rattle.std.specs.Str.{bytes_eq}
use Rattle.std.specs.List.{list_any}
use Rattle.shop_model.specs.Rows.{at}
use Rattle.shop_model.specs.Calendar.{Moment, is_earlier}
use Rattle.shop_model.specs.Values.{Text, Staff, Act, Command, OfficeCommand, Rules}
use Rattle.shop_model.specs.Refusals.{Refusal, KeyUsed, Full, MomentBack, NoStaff}
use Rattle.shop_model.specs.Shop.{Kept, OfficeKept, Catalogue, Shop}
use Rattle.shop_model.specs.OfficeActs.{same_office, office_refusals}
use Rattle.shop_model.specs.Acts.{same_command, new_copies, act_refusals}

pub data Verdict : Type 0 where
  Again : Text → Verdict  -- the kept reply
  Refused : Refusal → Verdict
  Accepted : Verdict

-- the first refusal that holds
abbrev pub first : List (Refusal × Bool) → Verdict
first [] = Accepted
first (c ∷ cs) = if c.1 then Refused c.0 else first cs

-- ---- branches

-- works at the branch, and hasn't left
abbrev pub staff_is : ℕ → Staff → Bool
staff_is b staff = staff.branch == b && not staff.gone

-- the caller has as many kept keys as it may, or there are new copies and they are more than the branch may still have
abbrev pub is_full : Rules → Shop → Act → Bool
is_full rules shop act = nat_le rules.commands (length shop.kept)
    || nat_lt 0 (new_copies rules shop act) && nat_lt rules.copies (length shop.copies + new_copies rules shop act)

-- moments of accepted commands of a branch never go back; an equal one is no step back
abbrev pub is_before : Moment → Option Moment → Bool
is_before moment None = false
is_before moment (Some last) = is_earlier moment last

-- what every command of a branch may be refused for, and then its own
abbrev pub refusals : Rules → ℕ → Catalogue → Shop → Command → List (Refusal × Bool)
refusals rules b catalogue shop command =
    (Full, is_full rules shop command.act)
    ∷ (MomentBack, is_before command.moment shop.last)
    ∷ (NoStaff, not (list_any (staff_is b) (at command.staff catalogue.staff)))
    ∷ act_refusals rules b catalogue shop command.moment command.act

-- a key that is kept: with an equal command it is answered as before, and before any other test; with another it is refused
abbrev pub resent_by : {A : Type 0} → (A → Bool) → (A → Text) → List A → Verdict → Verdict
resent_by same reply [] fresh = fresh
resent_by same reply (k ∷ _) fresh = if same k then Again (reply k) else Refused KeyUsed

abbrev pub resent : Command → List Kept → Verdict → Verdict
resent command = resent_by (λ (k : Kept). same_command k.command command) (λ k. k.reply)

-- only the keys of the same branch count: other callers' keys have nothing to do with them
abbrev pub verdict : Rules → ℕ → Catalogue → Shop → Command → Verdict
verdict rules b catalogue shop command =
    resent command (filter (λ (k : Kept). bytes_eq k.command.key command.key) shop.kept) (first (refusals rules b catalogue shop command))

-- ---- head office: its conditions read shared rows and its own keys alone

abbrev pub office_resent : OfficeCommand → List OfficeKept → Verdict → Verdict
office_resent command = resent_by (λ (k : OfficeKept). same_office k.command command) (λ k. k.reply)

abbrev pub office_verdict : Rules → Catalogue → OfficeCommand → Verdict
office_verdict rules catalogue command =
    office_resent command (filter (λ (k : OfficeKept). bytes_eq k.command.key command.key) catalogue.kept)
    (first ((Full, nat_le rules.commands (length catalogue.kept)) ∷ office_refusals catalogue command.act))
