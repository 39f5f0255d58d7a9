use Rattle.shop_types.proofs.Common.{◌∙◌, rules, string_bytes, YieldsList-from_slice, bytes_eq}
use Rattle.std.proofs.lemmas.Iterator.Search.{any_from_yields_List}
use Rattle.till_words.specs.Places.{option_name}
use Rattle.till_words.proofs.NamedLemmas.{any_of_map}
use Rattle.till_words.proofs.named.is_given.Goals as goal

pub returns : goal.returns
returns c =
    any_from_yields_List (λ w. bytes_eq (option_name (string_bytes w)) c.args.name.now) _ _ c.any.result c.any.ensures.ran
    (YieldsList-from_slice c.args.words.now c.iter.ensures.rest) (λ x r q k. search rules)
    ∙ any_of_map string_bytes (λ w. bytes_eq (option_name w) c.args.name.now) c.args.words.now
