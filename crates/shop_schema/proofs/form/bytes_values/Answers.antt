use Rattle.shop_schema.proofs.Common.{length, arith, le-leb}
use Rattle.shop_schema.proofs.Values.{bytes_fit}
use Rattle.shop_schema.proofs.form.bytes_values.Goals as goal

pub returns : goal.returns
returns c = (le-leb (length c.args.bytes.now) 65_536 c.requires, bytes_fit c.args.bytes.now (λ k. omega (arith, c.type_inv.bytes k)))
