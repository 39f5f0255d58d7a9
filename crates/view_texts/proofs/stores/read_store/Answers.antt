use Rattle.view_texts.proofs.SalesLines.{store_is}
use Rattle.view_texts.proofs.stores.read_store.Goals as goal

pub returns : goal.returns
returns c = store_is c.args.row.now _ _ _ c.in_ok-city.ensures.0 c.in_ok-city.ensures.1 c.in_ok-person_name_or_null_at.ensures
