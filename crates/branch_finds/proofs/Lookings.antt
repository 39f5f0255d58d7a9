-- What is found of one row is what the books have of the row.
use Rattle.shop_schema.proofs.Common.{◌≡◌, ◌∙◌, ap, sym, Bool, List, [], ◌∷◌, map, Option, Some, None, option_map, option_to_list, at, Copy, Catalogue, is_here}
use Rattle.shop_schema.proofs.Common.{is_film_withdrawn, head}
use Rattle.shop_store.specs.SharedSeen.{withdrawn_of}
use Rattle.branch_finds.specs.Finds.{is_yes}
use Rattle.branch_finds.proofs.OneFilm.{at_most_one}

pub head_of : {X Y Z : Type 0} (f : X → Y) (g : Y → Z) (o : Option X) (l : List Y)
    → option_to_list (option_map f o) ≡ l → option_map (λ x. g (f x)) o ≡ head (map g l)
head_of f g None l is = ap (λ l. head (map g l)) is
head_of f g (Some x) l is = ap (λ l. head (map g l)) is

-- whether the copy is here, whether its film is withdrawn, and whether it is out as the flag says
abbrev pub shown : Catalogue → Bool → Copy → Bool × Bool × Bool
shown catalogue out it = (is_here it, is_film_withdrawn catalogue it.film, out)

-- the copy, and whether its film is withdrawn
pub copy_told : (catalogue : Catalogue) (copy : Copy) (copies : List Copy) (withdrawn : Option Bool) (out : Bool)
    → copy ∷ [] ≡ copies → withdrawn ≡ head (map withdrawn_of (at copy.film catalogue.films))
    → ◌≡◌ {A = Option (Bool × Bool × Bool)} (Some (is_here copy, is_yes withdrawn, out)) (head (map (shown catalogue out) copies))
copy_told catalogue copy copies withdrawn out found told =
    let film : is_yes withdrawn ≡ is_film_withdrawn catalogue copy.film = ap is_yes told ∙ sym (at_most_one copy.film catalogue.films) in
    ap (λ (b : Bool). let p : Option (Bool × Bool × Bool) = Some (is_here copy, b, out) in p) film
    ∙ ap (λ (l : List Copy). head (map (shown catalogue out) l)) found
