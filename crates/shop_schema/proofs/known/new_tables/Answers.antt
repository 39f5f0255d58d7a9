use Rattle.shop_schema.proofs.Common.{refl, no_doubt}
use Rattle.shop_schema.proofs.known.new_tables.Goals as goal

pub returns : goal.returns
returns c = (c.in_ok-create_shop.ensures.made (no_doubt _ refl) c.in_ok-conn.ensures.empty.2).shop
