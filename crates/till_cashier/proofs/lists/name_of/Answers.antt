use Rattle.std.proofs.Common.{string_bytes}
use Rattle.std.specs.Prelude.{codes}
use Rattle.till_cashier.proofs.Looking.{named_some}
use Rattle.till_cashier.proofs.lists.name_of.Goals as goal

pub returns : goal.returns
returns g c =
    named_some (codes "id") c.args.customer (codes "name") c.as_slice.result.now string_bytes c.in_ok-customer_named.field-0
    c.in_ok-customer_named.ensures.shown
