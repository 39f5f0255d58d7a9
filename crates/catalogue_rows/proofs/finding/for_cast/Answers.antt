use Rattle.shop_schema.proofs.Common.{and_then, done}
use Rattle.sql_rows.proofs.Chaining.{one_call}
use Rattle.catalogue_rows.proofs.finding.for_cast.Goals as goal

pub returns : goal.returns
returns g c =
    done (and_then (one_call c.in_ok-withdrawn.ensures.does) (and_then (one_call c.in_ok-has_actor.ensures) (one_call c.in_ok-has_cast.ensures)))
    (λ said books holds held.
    let film = said.0 books holds held in
    let actor = said.1.0 books film.0 held in
    let cast = said.1.1 books actor.0 held in
    (cast.0, record { film = film.1; actor = actor.1; cast_in = cast.1 }))
