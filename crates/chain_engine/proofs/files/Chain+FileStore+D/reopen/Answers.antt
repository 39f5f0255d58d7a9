use Rattle.std.proofs.Common.{◌≡◌, subst}
use Rattle.chain_files.proofs.Opening.{undamaged}
use Rattle.chain_engine.proofs.Results.{ok_then, err_then}
use Rattle.chain_engine.proofs.files.Chain+FileStore+D.reopen.Goals as goal

pub returns-clause-live : goal.returns-clause-live
returns-clause-live g c =
    ok_then c.open_files.result c.open_files.ensures.opened (λ chain it. (subst (λ self. chain.limits ≡ self.limits) c.self.view_is it.limits, it.live))

pub returns-clause-honest : goal.returns-clause-honest
returns-clause-honest g c = ok_then c.open_files.result c.open_files.ensures.opened (λ chain it clean. c.close.ensures.clean (it.honest clean))

pub returns-clause-same : goal.returns-clause-same
returns-clause-same g c =
    ok_then c.open_files.result c.open_files.ensures.opened
    (λ chain it clean live books besides at. it.again clean books (c.close.ensures.keeps live books besides at))

pub returns-clause-either : goal.returns-clause-either
returns-clause-either g c =
    ok_then c.open_files.result c.open_files.ensures.opened
    (λ chain it clean books besides at. it.either clean books besides (c.close.ensures.either books besides at))

pub returns-clause-undamaged : goal.returns-clause-undamaged
returns-clause-undamaged g c books besides at = err_then c.open_files.result c.open_files.ensures.refused (λ e it honest is.
    let damage = it.damaged honest is in
    undamaged g.D.Disk c.close.result books besides g.met.D.Disk.seen_may_stay damage.0 (c.close.ensures.either books besides at) damage.1)

pub returns-clause-kept : goal.returns-clause-kept
returns-clause-kept g c =
    err_then c.open_files.result c.open_files.ensures.refused (λ e it. (c.close.result, c.close.ensures.keeps, c.close.ensures.either, it))
