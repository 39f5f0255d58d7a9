use Rattle.shop_types.proofs.Common.{◌≡◌, drop, false, map, fold}
use Rattle.clap.specs.Words.{app_of, with_rule}
use Rattle.clap.specs.declared.builder.command.Command.TheViews.{out-Command}
use Rattle.word_tables.specs.Rules.{option_rule}
use Rattle.word_tables.proofs.options.with_options.Given as goal

abbrev pub invariant-loop-entry : goal.invariant-loop-entry
invariant-loop-entry g l = record {
  rest : fold with_rule (app_of l.command) (map (option_rule g.K.OptionKind.rule) (drop l.entry-index l.options))
      ≡ fold with_rule (app_of l.fn.command) (map (option_rule g.K.OptionKind.rule) l.options);
  local : (out-Command l.command).has_globals ≡ false;
}
