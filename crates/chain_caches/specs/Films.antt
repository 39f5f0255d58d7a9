-- Defines what a cache knows of films.
use Rattle.std.specs.Prelude.{◌≡◌, ℕ, Bool, List, [], map, Option, Some, None, Contains, refl}
use Rattle.std.specs.Coded.{Coded, code_by, coded×, coded_ℕ, coded_bool, coded_list}
use Rattle.lru.specs.LruCache.{LruCache}
use Rattle.shop_model.specs.Rows.{at}
use Rattle.shop_model.specs.Values.{Film, Terms, OfficeAct, PriceFilm, WithdrawFilm}
use Rattle.shop_model.specs.Stock.{film_terms}
use Rattle.shop_model.specs.Books.{head}
use Rattle.shop_types.specs.Seen.{seen_terms}
use Rattle.chain_caches.specs.declared.films.KnownFilm.{KnownFilm}

-- films with their numbers
abbrev pub KnownFilms : Type 0
KnownFilms = List (ℕ × KnownFilm)

-- the entries of a cache, which may not have been made yet
abbrev pub entries_of : Option (LruCache ℕ KnownFilm) → KnownFilms
entries_of None = []
entries_of (Some films) = films.entries

-- entries are distinguished by their parts
abbrev pub known_code : Coded KnownFilm
known_code =
    code_by ((ℕ × (ℕ × ℕ)) × Bool) (coded× (coded× coded_ℕ (coded× coded_ℕ coded_ℕ)) coded_bool)
    (λ it. ((it.terms.rate, (it.terms.period, it.terms.replacement)), it.withdrawn))
    (λ p. record { terms = record { rate = p.0.0; period = p.0.1.0; replacement = p.0.1.1 }; withdrawn = p.1 })
    (λ _. refl)

abbrev pub entries_code : Coded KnownFilms
entries_code = coded_list (coded× coded_ℕ known_code)

-- the terms of a rental of the film, and whether the film is withdrawn
abbrev pub known_of : Film → Terms × Bool
known_of film = (film_terms film, film.withdrawn)

abbrev pub seen_known : KnownFilm → Terms × Bool
seen_known film = (seen_terms film.terms, film.withdrawn)

-- what is known is the row of the number
abbrev pub IsRow : ℕ → KnownFilm → List Film → Type 0
IsRow number film films = Some (seen_known film) ≡ head (map known_of (at number films))

-- each entry is its film's row
pub record AreRows (entries : KnownFilms) (films : List Film) : Type 0 where
  pub row : (number : ℕ) (film : KnownFilm) → Contains entries (number, film) → IsRow number film films

-- the film whose row an act of head office changes
abbrev pub film_changed : OfficeAct → Option ℕ
film_changed (PriceFilm film rate) = Some film
film_changed (WithdrawFilm film) = Some film
film_changed _ = None
