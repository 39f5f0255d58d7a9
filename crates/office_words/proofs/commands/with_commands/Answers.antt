use Rattle.std.proofs.Common.{◌∙◌, refl}
use Rattle.clap.specs.Words.{app_of, shape_of, with_subcommand}
use Rattle.office_words.specs.Table.{table_shape}
use Rattle.word_tables.proofs.TableLemmas.{one_more}
use Rattle.office_words.proofs.commands.with_commands.Goals as goal

pub loop-subcommand-preserved : goal.loop-subcommand-preserved
loop-subcommand-preserved c =
    let at = c.loop-subcommand in
    record {
      rest = one_more with_subcommand table_shape c.args.subcommands.now at.subcommand-index _ (app_of at.command) (app_of c.in_ok-command.command)
          (shape_of c.in_ok-inner.inner) c.loop-subcommand-test.true (c.in_ok-command.ensures.shape c.in_ok-inner.ensures.local) c.in_ok-inner.ensures.shape
          ∙ at.invariant.rest;
      local = c.in_ok-command.ensures.globals ∙ (rw (at.invariant.local, c.in_ok-inner.ensures.local) refl);
    }
