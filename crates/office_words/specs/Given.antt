-- What the options of a subcommand say, each as a value of its kind. An option that is missing or isn't of its kind gives none.
use Rattle.std.specs.Prelude.{ℕ, ◌^◌, ◌&&◌, ◌==◌, List, Option, Some, None}
use Rattle.std.specs.Prelude.{option_map, codes, find, [], ◌∷◌, if◌then◌else◌, nat_lt}
use Rattle.std.specs.Str.{bytes_eq}
use Rattle.std.specs.Str.Parse.{digits_value, without_leading_plus}
use Rattle.clap.specs.ValueTests.{is_numeral}
use Rattle.clap.specs.Words.{Row, Text, first_of, one_of}
use Rattle.shop_model.specs.OfficeActs.{rule_name}
use Rattle.shop_types.specs.Numbers.{number_within}
use Rattle.shop_types.specs.Texts.{is_key}
use Rattle.shop_types.specs.declared.film.Rating.{Rating}
use Rattle.shop_types.specs.declared.film.Features.{Features}
use Rattle.shop_types.specs.declared.rule.Rule.{Rule}
use Rattle.shop_types.specs.declared.rule.Rule.TheVariants as rule
use Rattle.shop_types.specs.Films.{rating_of, features_of}
use Rattle.shop_types.specs.Seen.{seen_rule}
use Rattle.word_tables.specs.Given.{with_value}

-- ---- texts

abbrev pub key_given : List Row → Option Text
key_given rows = with_value (first_of (codes "key") rows) (λ text. if is_key text then Some text else None)

abbrev pub rating_given : List Row → Option Rating
rating_given rows = with_value (first_of (codes "rating") rows) rating_of

abbrev pub features_given : List Row → Option Features
features_given rows = with_value (first_of (codes "features") rows) features_of

-- the rule that has this name
abbrev pub rule_of : Text → Option Rule
rule_of text = find (λ it. bytes_eq text (rule_name (seen_rule it))) (rule.ByCode ∷ rule.ByComment ∷ [])

abbrev pub rule_given : List Row → Option Rule
rule_given rows = with_value (first_of (codes "rule") rows) rule_of

-- ---- numbers

-- the number that a text writes in decimal, after a plus or none, below 2 ^ bits
abbrev pub number_of : ℕ → Text → Option ℕ
number_of bits text =
    let digits = without_leading_plus text in
    if is_numeral digits && nat_lt (digits_value 10 digits) (2 ^ bits) then Some (digits_value 10 digits) else None

abbrev pub number_given : ℕ → Text → List Row → Option ℕ
number_given bits id rows = with_value (one_of id rows) (number_of bits)

-- the number of a row
abbrev pub row_given : Text → List Row → Option ℕ
row_given id rows = with_value (number_given 32 id rows) (λ n. if n == 0 then None else Some n)

abbrev pub rate_given : List Row → Option ℕ
rate_given rows = with_value (number_given 16 (codes "rate") rows) (number_within 0 9_999)

abbrev pub replacement_given : List Row → Option ℕ
replacement_given rows = with_value (number_given 32 (codes "replacement") rows) (number_within 0 99_999)

abbrev pub period_given : List Row → Option ℕ
period_given rows = with_value (number_given 8 (codes "period") rows) (number_within 1 255)

abbrev pub minutes_from : Option Text → List Row → Option (Option ℕ)
minutes_from None rows = Some None
minutes_from (Some text) rows =
    option_map Some (with_value (number_given 16 (codes "length") rows) (number_within 1 65_535))

-- the length of a film, which may be left out
abbrev pub minutes_given : List Row → Option (Option ℕ)
minutes_given rows = minutes_from (first_of (codes "length") rows) rows
