use Rattle.shop_types.proofs.Common.{◌≡◌, drop, false, map, fold}
use Rattle.clap.specs.Words.{app_of, with_subcommand}
use Rattle.clap.specs.declared.builder.command.Command.TheViews.{out-Command}
use Rattle.office_words.specs.Table.{table_shape}
use Rattle.office_words.proofs.commands.with_commands.Given as goal

abbrev pub invariant-loop-subcommand : goal.invariant-loop-subcommand
invariant-loop-subcommand l = record {
  rest : fold with_subcommand (app_of l.command) (map table_shape (drop l.subcommand-index l.subcommands))
      ≡ fold with_subcommand (app_of l.fn.command) (map table_shape l.subcommands);
  local : (out-Command l.command).has_globals ≡ false;
}
