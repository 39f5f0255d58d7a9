-- The outcome of a till's entries.
use Rattle.std.specs.Prelude.{◌≡◌, ℕ, ◌<◌, Bool, false, List, [], ◌∷◌, map, filter, slice_get, Some}
use Rattle.std.specs.List.{list_any}
use Rattle.std.specs.Str.{bytes_eq}
use Rattle.shop_model.specs.Values.{Text, Command}
use Rattle.shop_model.specs.Refusals.{Refusal, MomentBack}
use Rattle.shop_model.specs.Shop.{Kept, Shop}
use Rattle.shop_model.specs.Machine.{Sorry, Done}
use Rattle.shop_model.specs.Answers.{Answer, answer_of}
use Rattle.till_model.specs.Tills.{Entry, Served}

-- the branch keeps a command of that key
abbrev pub is_kept : Text → Shop → Bool
is_kept key shop = list_any (λ (kept : Kept). bytes_eq kept.command.key key) shop.kept

-- the kept commands under the till's mark
abbrev pub kept_of : (Text → Bool) → Shop → List Command
kept_of has_mark shop = map (λ (kept : Kept). kept.command) (filter (λ (kept : Kept). has_mark kept.command.key) shop.kept)

-- the branch keeps no command under the till's mark
abbrev pub IsUnused : (Text → Bool) → Shop → Type 0
IsUnused has_mark shop = filter (λ (kept : Kept). has_mark kept.command.key) shop.kept ≡ []

-- the entries that acted
abbrev pub acted_of : List Entry → Shop → List Command
acted_of entries shop = map (λ (entry : Entry). entry.command) (filter (λ (entry : Entry). is_kept entry.command.key shop) entries)

-- the command acted once, and the branch keeps it with that reply
abbrev pub IsKeptAs : Command → Text → Shop → Type 0
IsKeptAs command reply shop = filter (λ (kept : Kept). bytes_eq kept.command.key command.key) shop.kept ≡ record { command = command; reply = reply } ∷ []

-- that command isn't served again after that place
abbrev pub NoneBehind : ℕ → Command → List Served → Type 0
NoneBehind n command served = (m : ℕ) (it : Served) → n < m → slice_get served m ≡ Some it → it.command ≡ command → ⊥

-- The outcome of one entry:
pub record BecameOf (served : List Served) (shop : Shop) (entry : Entry) : Type 0 where
  -- an entry whose recorded reply is 200 acted once, and is kept with that reply
  pub accepted : (answer : Answer) → entry.reply ≡ Some answer → answer.status ≡ 200
      → (text : Text) × (answer ≡ answer_of (Done text)) × IsKeptAs entry.command text shop
  -- so did an entry that was served with 200 at any place, also if its reply in the book is a refusal
  pub again : (n : ℕ) (it : Served) (text : Text) → slice_get served n ≡ Some it
      → it.command ≡ entry.command → it.reply ≡ Done text → IsKeptAs entry.command text shop
  -- an entry that was never served did not act
  pub unsent : ((m : ℕ) (it : Served) → slice_get served m ≡ Some it → it.command ≡ entry.command → ⊥) → is_kept entry.command.key shop ≡ false
  -- an entry that was refused, and wasn't served after that, did not act
  pub refused : (n : ℕ) (it : Served) (refusal : Refusal) → slice_get served n ≡ Some it → it.command ≡ entry.command → it.reply ≡ Sorry refusal
      → NoneBehind n entry.command served → is_kept entry.command.key shop ≡ false
  -- an entry that was refused because its moment was earlier than the branch's last did not act, also if it is served again later
  pub back : (n : ℕ) (it : Served) → slice_get served n ≡ Some it → it.command ≡ entry.command
      → it.reply ≡ Sorry MomentBack → is_kept entry.command.key shop ≡ false

-- What the branch keeps under the till's mark are the entries that acted, each once, in the order in which they were entered.
pub record Became (has_mark : Text → Bool) (entries : List Entry) (served : List Served) (shop : Shop) : Type 0 where
  pub acted : kept_of has_mark shop ≡ acted_of entries shop
  pub each : (i : ℕ) (entry : Entry) → slice_get entries i ≡ Some entry → BecameOf served shop entry
