use Rattle.shop_types.specs.Seen.{seen_office}
use Rattle.till_cashier.proofs.office.office_bytes.Goals as goal

pub returns-clause-says : goal.returns-clause-says
returns-clause-says g c = (seen_office c.in_ok-sealed.sealed.command, c.in_ok-sealed.ensures.says, c.in_ok-sealed.ensures.key)
