-- Defines the texts of a film's rating and special features, which are the same as in the Sakila sample database.
use Rattle.std.specs.Prelude.{ℕ, Bool, true, false, List, [], ◌++◌, ◌∷◌, Option, codes, find}
use Rattle.std.specs.Str.{bytes_eq}
use Rattle.shop_types.specs.declared.film.Rating.{Rating}
use Rattle.shop_types.specs.declared.film.Rating.TheVariants as rating
use Rattle.shop_types.specs.declared.film.Features.{Features}

abbrev pub rating_text : Rating → List ℕ
rating_text rating.G = codes "G"
rating_text rating.Pg = codes "PG"
rating_text rating.Pg13 = codes "PG-13"
rating_text rating.R = codes "R"
rating_text rating.Nc17 = codes "NC-17"

abbrev pub ratings : List Rating
ratings = rating.G ∷ rating.Pg ∷ rating.Pg13 ∷ rating.R ∷ rating.Nc17 ∷ []

-- the rating that has this text
abbrev pub rating_of : List ℕ → Option Rating
rating_of text = find (λ it. bytes_eq text (rating_text it)) ratings

abbrev pub named : Bool → List ℕ → List (List ℕ)
named true name = name ∷ []
named false name = []

-- with a comma before each but the first
abbrev pub with_commas : List (List ℕ) → List ℕ
with_commas [] = []
with_commas (name ∷ []) = name
with_commas (name ∷ names) = name ++ 44 ∷ with_commas names

-- those that there are, in this order
abbrev pub features_text : Features → List ℕ
features_text it = with_commas
    (named it.trailers (codes "Trailers") ++ named it.commentaries (codes "Commentaries")
    ++ named it.deleted_scenes (codes "Deleted Scenes") ++ named it.behind_the_scenes (codes "Behind the Scenes"))

abbrev features_with : Bool → Bool → Bool → Bool → Features
features_with trailers commentaries deleted_scenes behind_the_scenes = record {
  trailers = trailers;
  commentaries = commentaries;
  deleted_scenes = deleted_scenes;
  behind_the_scenes = behind_the_scenes;
}

-- every choice of them
abbrev pub all_features : List Features
all_features = features_with false false false false
    ∷ features_with true false false false
    ∷ features_with false true false false
    ∷ features_with true true false false
    ∷ features_with false false true false
    ∷ features_with true false true false
    ∷ features_with false true true false
    ∷ features_with true true true false
    ∷ features_with false false false true
    ∷ features_with true false false true
    ∷ features_with false true false true
    ∷ features_with true true false true
    ∷ features_with false false true true
    ∷ features_with true false true true
    ∷ features_with false true true true
    ∷ features_with true true true true ∷ []

-- the features that have this text
abbrev pub features_of : List ℕ → Option Features
features_of text = find (λ it. bytes_eq text (features_text it)) all_features
