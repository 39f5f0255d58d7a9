use Rattle.shop_types.proofs.Common.{◌∙◌, ap, map, IfOk-weaker}
use Rattle.clap.specs.Words.{App, app_of}
use Rattle.word_tables.specs.Rules.{option_rule}
use Rattle.office_words.specs.Table.{kind_rule}
use Rattle.word_tables.proofs.TableLemmas.{shape_with}
use Rattle.office_words.proofs.commands.command_of.Goals as goal

pub returns-clause-shape : goal.returns-clause-shape
returns-clause-shape c =
    let rules = map (option_rule kind_rule) c.args.subcommand.options.now in
    IfOk-weaker c.with_options.result _ _
    (λ r h. ap (λ (a : App). a.top) h ∙ shape_with c.args.subcommand.name.now (app_of c.new-command.result) rules c.new-command.ensures.app)
    c.with_options.ensures.app
