-- The keys of a till, and a book whose entries have them. A key is the till's mark, a hyphen and the entry's number.
use Rattle.std.specs.Prelude.{◌≡◌, ℕ, ◌+◌, ◌-◌, ◌<◌, ◌^◌, Bool, true, List, [], ◌∷◌, ◌++◌, length, take, slice_get, Some, decimal}
use Rattle.std.specs.Str.{bytes_eq}
use Rattle.shop_model.specs.Values.{Text, Command}
use Rattle.shop_model.specs.Calendar.{Moment, is_earlier}

-- a mark, followed by a hyphen
abbrev pub mark_text : Text → Text
mark_text mark = mark ++ 45 ∷ []

-- the key of the entry with that number
abbrev pub key_of : Text → ℕ → Text
key_of mark n = mark_text mark ++ decimal n

-- the key begins with the mark and a hyphen
abbrev pub has_mark : Text → Text → Bool
has_mark mark key = bytes_eq (take (length (mark_text mark)) key) (mark_text mark)

-- The n-th command of a book has the key of the number n, and its moment is later than the moments of all commands before.
pub record AreNumbered (mark : Text) (commands : List Command) : Type 0 where
  pub few : length commands < 2 ^ 64 - 1
  pub keys : (i : ℕ) (command : Command) → slice_get commands i ≡ Some command → command.key ≡ key_of mark (i + 1)
  pub moments : (i j : ℕ) (earlier later : Command) → i < j → slice_get commands i ≡ Some earlier → slice_get commands j ≡ Some later
      → is_earlier earlier.moment later.moment ≡ true

-- the moment is later than the last command's moment, if there is a last command
abbrev pub IsAfterLast : List Command → Moment → Type 0
IsAfterLast commands moment = (i : ℕ) (last : Command) → length commands ≡ i + 1 → slice_get commands i ≡ Some last → is_earlier last.moment moment ≡ true
