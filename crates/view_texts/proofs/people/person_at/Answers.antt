use Rattle.std.proofs.Common.{refl}
use Rattle.view_texts.proofs.PersonLines.{person_is}
use Rattle.view_texts.proofs.people.person_at.Goals as goal

pub returns : goal.returns
returns c =
    let name = c.in_ok-name.ensures in
    let city = c.in_ok-city.ensures in
    let address = c.in_ok-address.ensures in
    person_is c.args.row.now _ c.args.branch refl name.0 name.1 address.0 address.1 address.2 city.0 city.1
