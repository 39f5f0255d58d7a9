use Rattle.shop_schema.proofs.Common.{refl, no_doubt}
use Rattle.chain_files.proofs.Made.{ready_in_memory}
use Rattle.chain_files.proofs.creation.in_memory.Goals as goal

pub returns-in-Ok-make-clause-made : goal.returns-in-Ok-make-clause-made
returns-in-Ok-make-clause-made c = c.in-Ok-make.ensures.made (no_doubt _ refl) c.in-Ok.ensures.empty.2

pub returns-in-Ok-make-clause-ready : goal.returns-in-Ok-make-clause-ready
returns-in-Ok-make-clause-ready c =
    ready_in_memory c.in-Ok.conn c.make.new.conn c.in-Ok-make.ensures.crash (record { is_open = c.in-Ok.ensures.empty.0.is_open; unlimited = c.in-Ok.ensures.fresh.unlimited })
