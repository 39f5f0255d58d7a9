use Rattle.consign_store.proofs.ListFaults.{no_line}
use Rattle.consign_store.proofs.lists.ListedLineStored.read.Goals as goal

pub returns-in-Err-clause-failed : goal.returns-in-Err-clause-failed
returns-in-Err-clause-failed c failed = no_line c.args.row.now (c.in-Err.ensures.failed failed)
