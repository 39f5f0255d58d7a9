use Rattle.std.proofs.Common.{arith}
use Rattle.sql_files.proofs.Keeping.{clean_store, holds_one}
use Rattle.sql_files.proofs.files.close.Goals as goal

pub returns-clause-left : goal.returns-clause-left
returns-clause-left g c honest =
    let it = c.into_store.result in
    let clean = clean_store it c.close.result c.close.ensures honest in
    holds_one it c.close.result _ c.close.ensures honest (c.into_store.ensures.numbered clean)
    (c.into_store.ensures.sound clean) c.into_store.ensures.quiet.outcomes

pub returns-clause-clean : goal.returns-clause-clean
returns-clause-clean g c honest =
    let clean = clean_store c.into_store.result c.close.result c.close.ensures honest in
    omega (arith, clean, c.into_store.ensures.quiet.clean)

pub returns-clause-seen : goal.returns-clause-seen
returns-clause-seen g c = (g.met.D.Disk.seen_may_stay _, g.met.D.Disk.seen_may_stay _)
