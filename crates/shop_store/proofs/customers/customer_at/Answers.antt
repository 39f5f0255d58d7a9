use Rattle.shop_schema.proofs.Common.{Selects, shop_schema}
use Rattle.sql_rows.proofs.QueryFaults.{err_then}
use Rattle.shop_store.specs.declared.customers.TheConstants.{SELECT_CUSTOMER}
use Rattle.shop_store.specs.Seen.{seen_row}
use Rattle.shop_store.proofs.Common.{refl, everything, understood, does_so, customers, ReadsOne, reads_one}
use Rattle.shop_store.proofs.BranchRows.{one_query}
use Rattle.shop_store.proofs.FindFaults.{FindsOne, finds_one}
use Rattle.shop_store.proofs.customers.customer_at.Goals as goal

means : Selects shop_schema SELECT_CUSTOMER.now (one_query customers)
unfolding understood everything
means = record { names = _; is = refl; plain = (refl, refl); unlisted = refl }

reads : ReadsOne customers seen_row SELECT_CUSTOMER.now
unfolding understood everything
reads = reads_one customers seen_row _ means (λ b n r. refl)

met : FindsOne customers SELECT_CUSTOMER.now
unfolding understood everything
met = finds_one customers _ means (λ b n r. refl) (refl, refl, refl) (λ b n. refl)

pub returns-clause-does : goal.returns-clause-does
returns-clause-does g c =
    does_so c.query_one.ensures.inside (rw (c.to_sql.ensures, c.get.ensures.value, c.to_sql-2.ensures, c.get-2.ensures.value) at c.query_one.ensures.shown)
    (λ o it. reads _ _ c.args.branch c.args.number it.0 o it.1 it.2 it.3)

pub returns-clause-fails : goal.returns-clause-fails
returns-clause-fails g c clean ready holds =
    err_then c.query_one.result _ _ (rw (c.to_sql.ensures, c.get.ensures.value, c.to_sql-2.ensures, c.get-2.ensures.value) at (c.query_one.ensures.told clean))
    (met _ _ c.args.branch c.args.number ready holds)
