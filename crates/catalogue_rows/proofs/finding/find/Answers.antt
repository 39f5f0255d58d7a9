use Rattle.shop_schema.proofs.Common.{and_then, done, some_calls}
use Rattle.sql_rows.proofs.Chaining.{one_call}
use Rattle.catalogue_rows.proofs.finding.find.Goals as goal

pub returns : goal.returns
returns g c =
    done (and_then (one_call c.in_ok-keys.ensures.does) (and_then (one_call c.in_ok-token.ensures) (some_calls c.in_ok-rows.ensures))) (λ said books holds held.
    let keys = said.0 books holds held in
    let token = said.1.0 books keys.0 held in
    let rows = said.1.1 books token.0 held in
    (rows.0, λ kept told. record { kept = told; keys = keys.1; office = token.1; act = rows.1 }))
