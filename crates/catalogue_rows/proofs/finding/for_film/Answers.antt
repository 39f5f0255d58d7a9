use Rattle.shop_schema.proofs.Common.{and_then, done}
use Rattle.sql_rows.proofs.Chaining.{one_call}
use Rattle.catalogue_rows.proofs.finding.for_film.Goals as goal

pub returns : goal.returns
returns g c = done (and_then (one_call c.in_ok-has_language.ensures) (one_call c.in_ok-has_category.ensures)) (λ said books holds held.
    let language = said.0 books holds held in
    let category = said.1 books language.0 held in
    (category.0, record { language = language.1; category = category.1 }))
