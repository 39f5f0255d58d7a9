use Rattle.shop_schema.proofs.Common.{Selects, shop_schema}
use Rattle.sql_rows.proofs.QueryFaults.{err_then}
use Rattle.shop_store.specs.declared.rentals.TheConstants.{SELECT_RENTAL}
use Rattle.shop_store.specs.Seen.{seen_rental_row}
use Rattle.shop_store.proofs.Common.{refl, everything, understood, does_so, rentals, ReadsOne, reads_one}
use Rattle.shop_store.proofs.BranchRows.{one_query}
use Rattle.shop_store.proofs.FindFaults.{FindsOne, finds_one}
use Rattle.shop_store.proofs.rentals.rental_at.Goals as goal

means : Selects shop_schema SELECT_RENTAL.now (one_query rentals)
unfolding understood everything
means = record { names = _; is = refl; plain = (refl, refl); unlisted = refl }

reads : ReadsOne rentals seen_rental_row SELECT_RENTAL.now
unfolding understood everything
reads = reads_one rentals seen_rental_row _ means (λ b n r. refl)

met : FindsOne rentals SELECT_RENTAL.now
unfolding understood everything
met = finds_one rentals _ means (λ b n r. refl) (refl, refl, refl) (λ b n. refl)

pub returns-clause-does : goal.returns-clause-does
returns-clause-does g c =
    does_so c.query_one.ensures.inside (rw (c.to_sql.ensures, c.get.ensures.value, c.to_sql-2.ensures, c.get-2.ensures.value) at c.query_one.ensures.shown)
    (λ o it. reads _ _ c.args.branch c.args.number it.0 o it.1 it.2 it.3)

pub returns-clause-fails : goal.returns-clause-fails
returns-clause-fails g c clean ready holds =
    err_then c.query_one.result _ _ (rw (c.to_sql.ensures, c.get.ensures.value, c.to_sql-2.ensures, c.get-2.ensures.value) at (c.query_one.ensures.told clean))
    (met _ _ c.args.branch c.args.number ready holds)
