-- The copies of a film that are listed, of copies as the program has them.
use Rattle.shop_types.proofs.Common.{arith, ◌≡◌, refl, ap, ◌∙◌, ℕ, Bool, true, false, not, List, [], ◌∷◌, map, filter, numbered, Copy, Shop, same_flag, is_here}
use Rattle.shop_types.proofs.Common.{in_stock, film_in_stock, film_not_in_stock}
use Rattle.std.specs.Prelude.{◌==◌, ◌&&◌}
use Rattle.branch_core.specs.declared.film_copies.FilmCopy.{FilmCopy}
use Rattle.branch_core.specs.Agreed.{seen_film_copy, AreOfFilm, is_listed}

-- the numbers of the listed copies
abbrev pub numbers_in : Bool → List (ℕ × Bool × Bool) → List ℕ
numbers_in is_in seen = map (λ (it : ℕ × Bool × Bool). it.0) (filter (is_listed is_in) seen)

abbrev pub numbers_of : Bool → List FilmCopy → List ℕ
numbers_of is_in copies = numbers_in is_in (map seen_film_copy copies)

-- ---- all copies of a film

module _ (film : ℕ) (shop : Shop) where
  -- a copy of the shop with its number, as it is seen
  abbrev told : ℕ × Copy → ℕ × Bool × Bool
  told it = (it.0, is_here it.1, in_stock it.0 shop.rentals)

  told_listed : (is_in : Bool) (kept : Bool → Bool) → ((b : Bool) → same_flag b is_in ≡ kept b) → (its : List (ℕ × Copy))
      → numbers_in is_in (map told (filter (λ (it : ℕ × Copy). it.1.film == film) its))
      ≡ map (λ (it : ℕ × Copy). it.0) (filter (λ (it : ℕ × Copy). it.1.film == film && is_here it.1 && kept (in_stock it.0 shop.rentals)) its)
  told_listed is_in kept same [] = refl
  told_listed is_in kept same (it ∷ its) =
      let stock = same (in_stock it.0 shop.rentals) in
      let more = told_listed is_in kept same its in
      grind (arith, stock, more)

  pub listed_in_stock : (copies : List FilmCopy) → AreOfFilm film shop copies → numbers_of true copies ≡ film_in_stock film shop
  listed_in_stock copies are =
      ap (numbers_in true) are ∙ told_listed true (λ b. b) (λ b. elim b as (λ v. same_flag v true ≡ v) [ true ↦ refl | false ↦ refl ]) (numbered shop.copies)

  pub listed_not_in_stock : (copies : List FilmCopy) → AreOfFilm film shop copies → numbers_of false copies ≡ film_not_in_stock film shop
  listed_not_in_stock copies are =
      ap (numbers_in false) are ∙ told_listed false not (λ b. elim b as (λ v. same_flag v false ≡ not v) [ true ↦ refl | false ↦ refl ]) (numbered shop.copies)
