use Rattle.std.proofs.Common.{refl, sym}
use Rattle.sqlite.specs.declared.file.Leftover.TheVariants as left
use Rattle.sql_files.proofs.files.connect.Goals as goal

pub returns-then-not-may_be_used-clause-left : goal.returns-then-not-may_be_used-clause-left
returns-then-not-may_be_used-clause-left g c = (left.Files c.args.files, refl, λ _ image left. left)

pub returns-in-Err-clause-left : goal.returns-in-Err-clause-left
returns-in-Err-clause-left g c = (c.in-Err.left, sym c.into_files.ensures, c.in-Err.ensures.unharmed)
