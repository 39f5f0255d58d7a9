use Rattle.shop_schema.proofs.ShopTables.{at_least}
use Rattle.shop_store.proofs.termed.TermedRentalStored.read.Goals as goal

pub returns-in-Err-clause-failed : goal.returns-in-Err-clause-failed
returns-in-Err-clause-failed c failed it fits =
    let rental = it.0 in
    let terms = it.1 in
    c.in-Err.ensures.failed failed
    (rental.rented, (rental.copy, (rental.customer, (rental.returned, (rental.staff, (terms.rate, (terms.period, (terms.replacement, tt)))))))) (
      fits.0.rented,
      (fits.0.copy, (fits.0.customer, (fits.0.returned, (fits.0.staff, (at_least fits.1.rate, (fits.1.period, (at_least fits.1.replacement, tt))))))),
    )
