-- The texts of ratings and of special features, as columns have them.
use Rattle.shop_schema.proofs.Common.{◌≢◌, ℕ, List, refl, IsUtf8, IsUtf8-from_ascii, Value, rating_text, features_text, Features, Rating, ◌≡◌, Bool, true}
use Rattle.shop_schema.proofs.Common.{false, nat_lt, list_all, IsFeatures}
use Rattle.sqlite.specs.declared.types.Value.TheVariants.{Text}
use Rattle.shop_types.specs.declared.film.Rating.TheVariants as rating
use Rattle.shop_schema.proofs.Replies.{ascii_bytes}

-- a film's features are such
pub features_are : (it : Features) → IsFeatures (features_text it)
features_are it = (it, refl)

-- the sixteen texts have no byte above 127
all_plain : (trailers commentaries deleted behind : Bool)
    → list_all (λ b. nat_lt b 128)
    (features_text (record { trailers = trailers; commentaries = commentaries; deleted_scenes = deleted; behind_the_scenes = behind }))
    ≡ true
all_plain false false false false = refl
all_plain true false false false = refl
all_plain false true false false = refl
all_plain true true false false = refl
all_plain false false true false = refl
all_plain true false true false = refl
all_plain false true true false = refl
all_plain true true true false = refl
all_plain false false false true = refl
all_plain true false false true = refl
all_plain false true false true = refl
all_plain true true false true = refl
all_plain false false true true = refl
all_plain true false true true = refl
all_plain false true true true = refl
all_plain true true true true = refl

pub features_utf8 : (it : Features) → IsUtf8 (features_text it)
features_utf8 it =
    IsUtf8-from_ascii (features_text it) (ascii_bytes (features_text it) (all_plain it.trailers it.commentaries it.deleted_scenes it.behind_the_scenes))

rating_utf8 : (it : Rating) → IsUtf8 (rating_text it)
rating_utf8 rating.G = IsUtf8-from_ascii _ (ascii_bytes (rating_text rating.G) refl)
rating_utf8 rating.Pg = IsUtf8-from_ascii _ (ascii_bytes (rating_text rating.Pg) refl)
rating_utf8 rating.Pg13 = IsUtf8-from_ascii _ (ascii_bytes (rating_text rating.Pg13) refl)
rating_utf8 rating.R = IsUtf8-from_ascii _ (ascii_bytes (rating_text rating.R) refl)
rating_utf8 rating.Nc17 = IsUtf8-from_ascii _ (ascii_bytes (rating_text rating.Nc17) refl)

pub no_rating : (v : Value) → ((t : List ℕ) → IsUtf8 t → v ≢ Text t) → (it : Rating) → v ≢ Text (rating_text it)
no_rating v none it = none (rating_text it) (rating_utf8 it)

pub no_features : (v : Value) → ((t : List ℕ) → IsUtf8 t → v ≢ Text t) → (it : Features) → v ≢ Text (features_text it)
no_features v none it = none (features_text it) (features_utf8 it)
