use Rattle.shop_schema.proofs.Common.{subst, file_state, HoldsOne}
use Rattle.chain_files.proofs.Opening.{keeps_books, keeps_either}
use Rattle.chain_engine.proofs.files.Chain+FileStore+D.close.Goals as goal

pub returns-clause-left : goal.returns-clause-left
returns-clause-left g c honest =
    subst (λ chain. HoldsOne g.D.Disk c.close.result (file_state chain.conn).may_leave) c.self.view_is (c.close.ensures.left honest)

pub returns-clause-keeps : goal.returns-clause-keeps
returns-clause-keeps g c live books besides at = keeps_books _ c.close.result (λ honest. returns-clause-left g c honest) live books besides at

pub returns-clause-either : goal.returns-clause-either
returns-clause-either g c books besides at = keeps_either _ c.close.result (λ honest. returns-clause-left g c honest) books besides at
