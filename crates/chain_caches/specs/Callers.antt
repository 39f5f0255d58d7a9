-- Defines what a cache knows of callers.
use Rattle.std.specs.Prelude.{◌≡◌, ℕ, false, List, Option, Some, None, Contains, refl}
use Rattle.std.specs.Coded.{Coded, code_by, coded×, coded_ℕ, coded_list, coded_option}
use Rattle.shop_model.specs.Shop.{Catalogue}
use Rattle.shop_model.specs.Books.{caller_of}
use Rattle.shop_model.specs.Resends.{is_nobody}
use Rattle.shop_types.specs.declared.request.Caller.{Caller}
use Rattle.shop_types.specs.declared.request.Caller.TheVariants.{Branch, Office, Nobody}
use Rattle.shop_types.specs.Seen.{seen_caller}

-- callers with their tokens
abbrev pub KnownCallers : Type 0
KnownCallers = List (List ℕ × Caller)

-- a caller as numbers: nobody or somebody, head office or a branch, and the branch's number
abbrev parts_of : Caller → Option (Option ℕ)
parts_of Nobody = None
parts_of Office = Some None
parts_of (Branch number) = Some (Some number)

abbrev of_parts : Option (Option ℕ) → Caller
of_parts None = Nobody
of_parts (Some None) = Office
of_parts (Some (Some number)) = Branch number

pub same_parts : (caller : Caller) → of_parts (parts_of caller) ≡ caller
same_parts Nobody = refl
same_parts Office = refl
same_parts (Branch number) = refl

-- entries are distinguished by their parts
abbrev pub caller_code : Coded Caller
caller_code = code_by (Option (Option ℕ)) (coded_option (coded_option coded_ℕ)) parts_of of_parts same_parts

abbrev pub callers_code : Coded KnownCallers
callers_code = coded_list (coded× (coded_list coded_ℕ) caller_code)

-- the token belongs to that caller, and the caller isn't nobody
abbrev pub IsCallers : List ℕ → Caller → Catalogue → Type 0
IsCallers token caller catalogue = (seen_caller caller ≡ caller_of (Some token) catalogue) × (is_nobody (seen_caller caller) ≡ false)

-- each entry's token belongs to its caller
pub record AreCallers (entries : KnownCallers) (catalogue : Catalogue) : Type 0 where
  pub caller : (token : List ℕ) (caller : Caller) → Contains entries (token, caller) → IsCallers token caller catalogue
