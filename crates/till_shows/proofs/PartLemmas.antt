-- A value's text, by what the value is.
use Rattle.std.proofs.Common.{◌≡◌, ◌∙◌, ℕ, List, [], refl, ap, Option, Some, None, Bool, true, false}
use Rattle.std.specs.Prelude.{option_map, is_some, decimal}
use Rattle.serde_json.specs.Data.{Data, null, boolean, number, string, array, object}
use Rattle.serde_json.specs.Find.{as_str, as_bool, as_null}
use Rattle.till_shows.specs.Bodies.{whole_number, numbers_in}
use Rattle.till_shows.specs.Fields.{plain_text, yes_text}
use Rattle.till_shows.specs.Numbers.{commas}

pub of_string : (d : Data) (s : List ℕ) → Some s ≡ as_str d → plain_text d ≡ Some s
of_string null s e = let no : ◌≡◌ {A = Option (List ℕ)} (Some s) None = e in cc
of_string (boolean b) s e = let no : ◌≡◌ {A = Option (List ℕ)} (Some s) None = e in cc
of_string (number n) s e = let no : ◌≡◌ {A = Option (List ℕ)} (Some s) None = e in cc
of_string (string t) s e = let is : Some s ≡ Some t = e in cc
of_string (array ds) s e = let no : ◌≡◌ {A = Option (List ℕ)} (Some s) None = e in cc
of_string (object ms) s e = let no : ◌≡◌ {A = Option (List ℕ)} (Some s) None = e in cc

pub of_whole : (d : Data) (n : ℕ) → whole_number d ≡ Some n → plain_text d ≡ Some (decimal n)
of_whole null n e = let no : ◌≡◌ {A = Option ℕ} None (Some n) = e in cc
of_whole (boolean b) n e = let no : ◌≡◌ {A = Option ℕ} None (Some n) = e in cc
of_whole (number m) n e = ap (option_map decimal) e
of_whole (string s) n e = let no : ◌≡◌ {A = Option ℕ} None (Some n) = e in cc
of_whole (array ds) n e = let no : ◌≡◌ {A = Option ℕ} None (Some n) = e in cc
of_whole (object ms) n e = let no : ◌≡◌ {A = Option ℕ} None (Some n) = e in cc

pub of_flag : (d : Data) (b : Bool) → as_bool d ≡ Some b → plain_text d ≡ Some (yes_text b)
of_flag null b e = let no : ◌≡◌ {A = Option Bool} None (Some b) = e in cc
of_flag (boolean a) b e = ap (option_map yes_text) e
of_flag (number m) b e = let no : ◌≡◌ {A = Option Bool} None (Some b) = e in cc
of_flag (string s) b e = let no : ◌≡◌ {A = Option Bool} None (Some b) = e in cc
of_flag (array ds) b e = let no : ◌≡◌ {A = Option Bool} None (Some b) = e in cc
of_flag (object ms) b e = let no : ◌≡◌ {A = Option Bool} None (Some b) = e in cc

pub of_null : (d : Data) → is_some (as_null d) ≡ true → plain_text d ≡ Some []
of_null null e = refl
of_null (boolean a) e = let no : false ≡ true = e in cc
of_null (number m) e = let no : false ≡ true = e in cc
of_null (string s) e = let no : false ≡ true = e in cc
of_null (array ds) e = let no : false ≡ true = e in cc
of_null (object ms) e = let no : false ≡ true = e in cc

pub of_list : (d : Data) → as_str d ≡ None → whole_number d ≡ None → as_bool d ≡ None
    → is_some (as_null d) ≡ false → plain_text d ≡ option_map commas (numbers_in d)
of_list null s n b e = let no : true ≡ false = e in cc
of_list (boolean a) s n b e = let no : ◌≡◌ {A = Option Bool} (Some a) None = b in cc
of_list (number m) s n b e = ap (option_map decimal) n
of_list (string t) s n b e = let no : ◌≡◌ {A = Option (List ℕ)} (Some t) None = s in cc
of_list (array ds) s n b e = refl
of_list (object ms) s n b e = refl

-- a list that has no numbers is shown by no text
pub no_list : (d : Data) → as_str d ≡ None → whole_number d ≡ None → as_bool d ≡ None → is_some (as_null d) ≡ false → numbers_in d ≡ None → plain_text d ≡ None
no_list d s n b e none = of_list d s n b e ∙ ap (option_map commas) none
