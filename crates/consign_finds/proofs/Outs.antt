-- A copy is out by a rental exactly if it isn't in stock.
use Rattle.shop_schema.proofs.Common.{◌≡◌, ◌∙◌, refl, sym, ap, inl, inr, ℕ, ◌+◌, Bool, true, false, not, List, [], ◌∷◌, Option, Some, None, is_some}
use Rattle.shop_schema.proofs.Common.{option_to_list, list_any, cases_Bool, is_empty, Rental, keeps_out, in_stock}
use Rattle.consign_finds.specs.Finds.{open_from}

open_some : (k x : ℕ) (rentals : List Rental) → list_any (keeps_out x) rentals ≡ not (is_empty (open_from k x rentals))
open_some k x [] = refl
open_some k x (rental ∷ rentals) = elim (cases_Bool (keeps_out x rental)) [
  | inl is ↦ rw is refl
  | inr isnt ↦ rw isnt (open_some (k + 1) x rentals)
]

some_listed : (out : Option ℕ) → not (is_empty (option_to_list out)) ≡ is_some out
some_listed None = refl
some_listed (Some n) = refl

pub twice : (b : Bool) → b ≡ not (not b)
twice true = refl
twice false = refl

pub out_shown : (x : ℕ) (rentals : List Rental) (out : Option ℕ) → option_to_list out ≡ open_from 1 x rentals → is_some out ≡ not (in_stock x rentals)
out_shown x rentals out is =
    sym (open_some 1 x rentals ∙ ap (λ (ns : List ℕ). not (is_empty ns)) (sym is) ∙ some_listed out) ∙ twice (list_any (keeps_out x) rentals)
