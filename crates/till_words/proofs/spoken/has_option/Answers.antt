use Rattle.shop_types.proofs.Common.{◌∙◌, rules, string_bytes, YieldsList-from_slice}
use Rattle.std.proofs.lemmas.Iterator.Search.{any_from_yields_List}
use Rattle.till_words.specs.Places.{is_option}
use Rattle.till_words.proofs.NamedLemmas.{any_of_map}
use Rattle.till_words.proofs.spoken.has_option.Goals as goal

pub returns : goal.returns
returns c =
    any_from_yields_List (λ w. is_option (string_bytes w)) _ _ c.any.result c.any.ensures.ran
    (YieldsList-from_slice c.args.texts.now c.iter.ensures.rest) (λ x r q k. search rules)
    ∙ any_of_map string_bytes is_option c.args.texts.now
