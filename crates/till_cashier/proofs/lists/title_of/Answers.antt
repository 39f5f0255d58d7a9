use Rattle.std.proofs.Common.{string_bytes}
use Rattle.std.specs.Prelude.{codes}
use Rattle.till_cashier.proofs.Looking.{named_some}
use Rattle.till_cashier.proofs.lists.title_of.Goals as goal

pub returns : goal.returns
returns g c =
    named_some (codes "film") c.args.film (codes "title") c.as_slice-2.result.now string_bytes c.in_ok-film_named.field-0 c.in_ok-film_named.ensures.shown
