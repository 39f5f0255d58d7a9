use Rattle.chain_files.proofs.Made.{leaves_untouched}
use Rattle.chain_files.proofs.creation.create.Goals as goal

pub returns-then-not-has_no_table-clause-crash : goal.returns-then-not-has_no_table-clause-crash
returns-then-not-has_no_table-clause-crash g c = leaves_untouched _ _
