use Rattle.till_program.specs.Lines.{sent_file}
use Rattle.till_program.proofs.LineLaws.{as_it_is}
use Rattle.till_program.proofs.program.completed.Goals as goal

pub returns : goal.returns
returns c = as_it_is (sent_file c.args.stock) c.args.act c.in_default.not-Import c.in_default.not-JoinIn
