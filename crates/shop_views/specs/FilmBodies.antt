-- The JSON value whose text is a film's body.
use Rattle.std.specs.Prelude.{ℕ, Option, None, Some, codes}
use Rattle.serde_json.specs.Data.{Data, null, boolean, number, unsigned, string, object, member, no_members}
use Rattle.shop_model.specs.Values.{Film}

-- a film's length, if it is known
abbrev pub minutes_value : Option ℕ → Data
minutes_value None = null
minutes_value (Some n) = number (unsigned n)

-- a film and its number
abbrev pub film_value : ℕ → Film → Data
film_value n it = object
    (member (codes "category") (number (unsigned it.category))
    (member (codes "description") (string it.description)
    (member (codes "features") (string it.features)
    (member (codes "film") (number (unsigned n))
    (member (codes "language") (number (unsigned it.language))
    (member (codes "length") (minutes_value it.minutes)
    (member (codes "period") (number (unsigned it.period))
    (member (codes "rate") (number (unsigned it.rate))
    (member (codes "rating") (string it.rating)
    (member (codes "replacement") (number (unsigned it.replacement))
    (member (codes "title") (string it.title)
    (member (codes "withdrawn") (boolean it.withdrawn) no_members))))))))))))
