use Rattle.shop_schema.proofs.ShopTables as table
use Rattle.shop_store.proofs.FindFaults.{refused_by}
use Rattle.shop_store.proofs.copies.CopyRowStored.read.Goals as goal

pub returns-in-Err-clause-failed : goal.returns-in-Err-clause-failed
returns-in-Err-clause-failed c failed = refused_by table.copies _ (c.in-Err.ensures.failed failed)
