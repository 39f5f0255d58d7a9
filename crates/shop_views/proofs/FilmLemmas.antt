-- The value that is written for a film is the film's body.
use Rattle.shop_types.proofs.Common.{◌≡◌, refl, ℕ, false, Option, Some, None, Film, film_text}
use Rattle.serde_json.specs.Written as written
use Rattle.shop_views.specs.Texts.{json_text}
use Rattle.shop_views.specs.FilmBodies.{film_value}

-- a film's length is a number or null
pub film_body : (n : ℕ) (it : Film) → (written.has_float (film_value n it) ≡ false) × (json_text (film_value n it) ≡ film_text n it)
film_body n it = go it.minutes
  where
    go : (minutes : Option ℕ) → (written.has_float (film_value n (record it { minutes = minutes })) ≡ false)
        × (json_text (film_value n (record it { minutes = minutes })) ≡ film_text n (record it { minutes = minutes }))
    go None = (refl, refl)
    go (Some minutes) = (refl, refl)
