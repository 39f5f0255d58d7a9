use Rattle.shop_types.proofs.Common.{rules, YieldsList-from_slice, bytes_eq}
use Rattle.std.proofs.lemmas.Iterator.Search.{any_from_yields_List}
use Rattle.office_words.specs.declared.commands.Subcommand.{Subcommand}
use Rattle.office_words.proofs.commands.is_reading.Goals as goal

pub returns : goal.returns
returns c =
    any_from_yields_List (λ (s : Subcommand). bytes_eq s.name.now c.args.name.now) _ _ c.any.result c.any.ensures.ran
    (YieldsList-from_slice _ c.iter.ensures.rest) (λ x r q k. search rules)
