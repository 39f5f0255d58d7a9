use Rattle.shop_schema.proofs.Common.{Bool, Selects, shop_schema}
use Rattle.sqlite_value.specs.Order as sql
use Rattle.sql_rows.proofs.QueryFaults.{err_then}
use Rattle.shop_store.specs.declared.payments.TheConstants.{SELECT_PAYMENTS_OF_CUSTOMER}
use Rattle.shop_store.specs.Seen.{seen_payment_row}
use Rattle.shop_store.proofs.Common.{◌==◌, ◌&&◌, ℕ, [], ◌∷◌, true, refl, everything, understood, number_value, number_test, number_tested, two_tested, does_so}
use Rattle.shop_store.proofs.Common.{equals, payments, ReadsWhich, reads_which}
use Rattle.shop_store.proofs.BranchRows.{sorted_query}
use Rattle.shop_store.proofs.FindFaults.{FindsAll, finds_which}
use Rattle.shop_store.proofs.payments.payments_of_customer.Goals as goal

means : Selects shop_schema SELECT_PAYMENTS_OF_CUSTOMER.now (sorted_query payments (equals 0 (1 ∷ 3 ∷ [])))
unfolding understood everything
means = record { names = _; is = refl; plain = (refl, refl); unlisted = refl }

abbrev is_his : ℕ → ℕ → sql.Row → Bool
is_his b n vs = number_test 0 b vs && (number_test 2 n vs && true)

reads : (b n : ℕ) → ReadsWhich payments seen_payment_row SELECT_PAYMENTS_OF_CUSTOMER.now (number_value b ∷ number_value n ∷ []) b (λ it. it.customer == n)
unfolding understood everything
reads b n =
    reads_which payments seen_payment_row SELECT_PAYMENTS_OF_CUSTOMER.now (equals 0 (1 ∷ 3 ∷ []))
    means (number_value b ∷ number_value n ∷ []) b (is_his b n) (λ it. it.customer == n)
    (λ row. two_tested _ _ (number_tested row.branch b) (number_tested row.it.customer n)) (λ r. refl)

met : (b n : ℕ) → FindsAll payments SELECT_PAYMENTS_OF_CUSTOMER.now (number_value b ∷ number_value n ∷ [])
unfolding understood everything
met b n =
    finds_which payments SELECT_PAYMENTS_OF_CUSTOMER.now (equals 0 (1 ∷ 3 ∷ [])) means (number_value b ∷ number_value n ∷ []) b (is_his b n)
    (λ it. it.customer == n) (λ row. two_tested _ _ (number_tested row.branch b) (number_tested row.it.customer n)) (λ r. refl) (refl, refl, refl) refl

pub returns-clause-does : goal.returns-clause-does
returns-clause-does g c =
    does_so c.query_all.ensures.inside (rw (c.to_sql.ensures, c.get.ensures.value, c.to_sql-2.ensures, c.get-2.ensures.value) at c.query_all.ensures.shown)
    (λ all it. reads c.args.branch c.args.customer _ _ it.0 all.items it.1 it.2 it.3)

pub returns-clause-fails : goal.returns-clause-fails
returns-clause-fails g c clean ready holds =
    err_then c.query_all.result _ _ (rw (c.to_sql.ensures, c.get.ensures.value, c.to_sql-2.ensures, c.get-2.ensures.value) at (c.query_all.ensures.told clean))
    (met c.args.branch c.args.customer _ _ ready holds)
