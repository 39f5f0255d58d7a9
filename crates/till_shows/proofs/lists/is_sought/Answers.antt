use Rattle.shop_types.proofs.Common.{rules, lit<, map, string_bytes}
use Rattle.std.proofs.lemmas.Iterator.Search.{all_from_yields_List}
use Rattle.std.proofs.lemmas.Iterator.Splits.{YieldsList-from_str_split}
use Rattle.till_shows.specs.Lists.{are_found}
use Rattle.till_shows.proofs.lists.is_sought.Goals as goal

pub returns : goal.returns
returns c =
    all_from_yields_List (are_found (map string_bytes c.args.texts.now)) _ _ c.all.result c.all.ensures.ran
    (YieldsList-from_str_split 32 c.args.words.now (lit< tt) c.split.ensures.text c.split.ensures.has_more c.split.ensures.pattern) (λ x b q k. search rules)
