use Rattle.shop_types.proofs.Common.{◌≡◌, ◌∙◌, ap, map, IfOk-weaker}
use Rattle.clap.specs.Simple.{app_of_fields}
use Rattle.clap.specs.Words.{App, app_of, new_app}
use Rattle.word_tables.specs.Rules.{option_rule}
use Rattle.till_words.specs.Table.{kind_rule}
use Rattle.word_tables.proofs.TableLemmas.{shape_with}
use Rattle.till_words.proofs.commands.command_of.Goals as goal

pub returns-clause-shape : goal.returns-clause-shape
returns-clause-shape c =
    let rules = map (option_rule kind_rule) c.args.subcommand.options.now in
    let new : app_of c.about-command.result ≡ new_app c.args.subcommand.name.now = ap app_of_fields c.about-command.ensures ∙ c.new.ensures.app in
    IfOk-weaker c.with_options.result _ _
    (λ r h. ap (λ (a : App). a.top) h ∙ shape_with c.args.subcommand.name.now (app_of c.about-command.result) rules new)
    c.with_options.ensures.app
