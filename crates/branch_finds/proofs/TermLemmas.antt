-- What is found of a copy's film gives the terms of a rental.
use Rattle.std.proofs.Common.{flat_map}
use Rattle.shop_schema.proofs.Common.{◌≡◌, ◌∙◌, refl, sym, ap, inl, inr, ℕ, List, [], ◌∷◌, map, append-nil, Bool, Option, Some, None, option_map}
use Rattle.shop_schema.proofs.Common.{option_to_list, at, at_one, Copy, Film, Terms, Catalogue, Shop, head, film_terms, terms_now, seen_terms}
use Rattle.chain_caches.specs.declared.films.KnownFilm.{KnownFilm}
use Rattle.chain_caches.specs.Films.{known_of, seen_known}
use Rattle.shop_store.specs.SharedSeen.{withdrawn_of}

-- a number picks one row at most
pub picks_one : {A : Type 0} (n : ℕ) (rows : List A) → option_to_list (head (at n rows)) ≡ at n rows
picks_one n rows = elim (at_one n rows) [ inl none ↦ rw none refl | inr one ↦ rw one.1 refl ]

-- ---- what is known of a film

known_told : {A : Type 0} (f : Terms × Bool → A) (o : Option KnownFilm) (films : List Film) → option_map seen_known o ≡ head (map known_of films)
    → option_map (λ (it : KnownFilm). f (seen_known it)) o ≡ head (map (λ (it : Film). f (known_of it)) films)
known_told f None [] is = refl
known_told f None (film ∷ films) is = cc
known_told f (Some it) [] is = cc
known_told f (Some it) (film ∷ films) is = ap (option_map f) is

pub terms_told : (o : Option KnownFilm) (films : List Film) → option_map seen_known o ≡ head (map known_of films)
    → option_map (λ (it : KnownFilm). seen_terms it.terms) o ≡ head (map film_terms films)
terms_told = known_told (λ it. it.0)

pub withdrawn_told : (o : Option KnownFilm) (films : List Film) → option_map seen_known o ≡ head (map known_of films)
    → option_map (λ (it : KnownFilm). it.withdrawn) o ≡ head (map withdrawn_of films)
withdrawn_told = known_told (λ it. it.1)

-- ---- terms

-- the films of the copies
abbrev films_at : List Film → List Copy → List Film
films_at films copies = flat_map (λ (copy : Copy). at copy.film films) copies

one_told : (t : Terms) (films : List Film) → Some t ≡ head (map film_terms films) → option_to_list (head films) ≡ films → map film_terms films ≡ t ∷ []
one_told t [] is one = cc
one_told t (film ∷ []) is one = ap option_to_list (sym is)
one_told t (film ∷ other ∷ films) is one = cc

-- the terms of a rental of the copy are the terms of its film
pub copy_terms : (catalogue : Catalogue) (shop : Shop) (x : ℕ) (copy : Copy) (t : Terms)
    → copy ∷ [] ≡ at x shop.copies → Some t ≡ head (map film_terms (at copy.film catalogue.films))
    → terms_now catalogue shop x ≡ t ∷ []
copy_terms catalogue shop x copy t found told =
    ap (λ (copies : List Copy). map film_terms (films_at catalogue.films copies)) (sym found)
    ∙ ap (map film_terms) (append-nil (at copy.film catalogue.films)) ∙ one_told t (at copy.film catalogue.films) told (picks_one copy.film catalogue.films)
