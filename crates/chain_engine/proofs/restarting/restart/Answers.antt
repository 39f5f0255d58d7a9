use Rattle.chain_files.proofs.Opening.{undamaged}
use Rattle.chain_engine.proofs.Results.{ok_then, err_then}
use Rattle.chain_engine.proofs.Resuming.{crashed_keeps, crashed_either}
use Rattle.chain_engine.proofs.restarting.restart.Goals as goal

pub returns-clause-honest : goal.returns-clause-honest
returns-clause-honest g c =
    ok_then c.open_files.result c.open_files.ensures.opened (λ again it clean. c.close.ensures.clean (c.crashed.ensures.clean (it.honest clean)))

pub returns-clause-same : goal.returns-clause-same
returns-clause-same g c = ok_then c.open_files.result c.open_files.ensures.opened (λ again it clean live books besides at.
    it.again clean books
    (crashed_keeps g.D.Disk c.close.result c.crashed.result books c.crashed.ensures.left c.crashed.ensures.clean (c.close.ensures.keeps live books besides at)))

pub returns-clause-either : goal.returns-clause-either
returns-clause-either g c = ok_then c.open_files.result c.open_files.ensures.opened (λ again it clean books besides at.
    it.either clean books besides
    (crashed_either g.D.Disk c.close.result c.crashed.result books besides c.crashed.ensures.left c.crashed.ensures.clean
    (c.close.ensures.either books besides at)))

pub returns-clause-kept : goal.returns-clause-kept
returns-clause-kept g c = err_then c.open_files.result c.open_files.ensures.refused (λ e it. (
  c.crashed.result,
  λ live books besides at.
      crashed_keeps g.D.Disk c.close.result c.crashed.result books c.crashed.ensures.left c.crashed.ensures.clean (c.close.ensures.keeps live books besides at),
  λ books besides at.
      crashed_either g.D.Disk c.close.result c.crashed.result books besides c.crashed.ensures.left c.crashed.ensures.clean
      (c.close.ensures.either books besides at),
  it,
))

pub returns-clause-undamaged : goal.returns-clause-undamaged
returns-clause-undamaged g c books besides at = err_then c.open_files.result c.open_files.ensures.refused (λ e it honest is.
    let damage = it.damaged honest is in
    undamaged g.D.Disk c.crashed.result books besides g.met.D.Disk.seen_may_stay damage.0
    (crashed_either g.D.Disk c.close.result c.crashed.result books besides c.crashed.ensures.left c.crashed.ensures.clean
    (c.close.ensures.either books besides at))
    damage.1)
