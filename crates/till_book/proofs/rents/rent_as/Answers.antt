use Rattle.sql_rows.proofs.Chaining.{does_so}
use Rattle.till_book.proofs.RentTexts.{reads_renter}
use Rattle.till_book.proofs.rents.rent_as.Goals as goal

pub returns : goal.returns
returns g c =
    does_so c.query_one.ensures.inside (rw (c.to_sql.ensures, c.get.ensures.value) at c.query_one.ensures.shown)
    (λ found shown. reads_renter c.args.rental _ _ shown.0 found shown.1 shown.2)
