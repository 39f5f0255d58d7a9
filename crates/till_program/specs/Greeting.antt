-- The prompt's first line at a branch's till.
use Rattle.std.specs.Prelude.{◌≡◌, ◌⊎◌, ℕ, ◌++◌, Option, Some, None, codes, decimal}
use Rattle.shop_model.specs.Values.{Text}

-- a member of staff by name, or by number alone if the name isn't known
abbrev pub called_text : Option Text → ℕ → Text
called_text None staff = codes "staff " ++ decimal staff
called_text (Some name) staff = name ++ (codes " (staff " ++ (decimal staff ++ codes ")"))

-- the branch with its city, as far as they are known
abbrev pub place_text : Option ℕ → Option Text → Text
place_text None city = codes "at the till,"
place_text (Some branch) None = codes "at branch " ++ (decimal branch ++ codes ":")
place_text (Some branch) (Some city) = codes "at branch " ++ (decimal branch ++ (codes ", " ++ (city ++ codes ":")))

-- name, number, branch and city, and the moment with its zone
abbrev pub greeting_text : Option Text → ℕ → Option ℕ → Option Text → Text → Text → Text
greeting_text name staff branch city now zone =
    called_text name staff ++ (codes " " ++ (place_text branch city ++ (codes " " ++ (now ++ (codes " (" ++ (zone ++ codes ")"))))))

-- at head office's book nobody is named
abbrev pub office_greeting : Text → Text → Text
office_greeting now zone = codes "head office's book, " ++ (now ++ (codes " (" ++ (zone ++ codes ")")))

-- some member of staff at some branch and moment, or head office's book at some moment
abbrev pub IsGreetingLine : Text → Type 0
IsGreetingLine line =
    ((name : Option Text) × (staff : ℕ) × (branch : Option ℕ) × (city : Option Text) × (now zone : Text)
    × (line ≡ greeting_text name staff branch city now zone))
    ⊎ ((now zone : Text) × (line ≡ office_greeting now zone))
