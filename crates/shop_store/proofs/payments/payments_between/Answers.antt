use Rattle.shop_schema.proofs.Common.{map, filter, cond, is_lt, ◌∙◌, nat_cmp, is_ge, slice_cmp, AllByRecursion, Binary, Term, op2, Compare, Eq, Lt, Ge}
use Rattle.shop_schema.proofs.Common.{all-filter, from_test, from_tested, before_test, before_tested, Moment, IsMoment, moment_text, is_by, is_earlier, Payment}
use Rattle.shop_schema.proofs.Common.{payment_columns, Selects, shop_schema, IsRow, IsPayment, Payments}
use Rattle.shop_schema.proofs.MomentOrder.{earlier_text, later_text}
use Rattle.sqlite_value.specs.Order as sql
use Rattle.sql_rows.proofs.QueryFaults.{err_then}
use Rattle.shop_ledger.proofs.Rising.{of_which}
use Rattle.shop_store.specs.declared.payments.TheConstants.{SELECT_PAYMENTS_BETWEEN}
use Rattle.shop_store.specs.Seen.{seen_payment_row}
use Rattle.shop_store.proofs.Common.{◌≡◌, ◌&&◌, ℕ, List, [], ◌∷◌, Bool, true, refl, everything, understood, Text, col, number_value, number_test, number_tested}
use Rattle.shop_store.proofs.Common.{two_tested, Row, is_of, does_so, payments, ReadsWhich, reads_which}
use Rattle.shop_store.proofs.BranchRows.{sorted_query}
use Rattle.shop_store.proofs.FindFaults.{FindsAll, finds_which}
use Rattle.shop_store.proofs.payments.payments_between.Goals as goal

abbrev of_range : List Term
of_range = op2 (Compare Eq Binary) (col 1 1) (col 0 0) ∷ op2 (Compare Ge Binary) (col 1 7) (col 0 1) ∷ op2 (Compare Lt Binary) (col 1 7) (col 0 2) ∷ []

-- the text of the payment's moment is from the text `start` on and before the text `end`
abbrev is_text_in : List ℕ → List ℕ → Payment → Bool
is_text_in start end it = is_ge (slice_cmp nat_cmp (moment_text it.paid) start) && is_lt (slice_cmp nat_cmp (moment_text it.paid) end)

between_means : Selects shop_schema SELECT_PAYMENTS_BETWEEN.now (sorted_query payments of_range)
unfolding understood everything
between_means = record { names = _; is = refl; plain = (refl, refl); unlisted = refl }

abbrev range_test : List ℕ → List ℕ → ℕ → sql.Row → Bool
range_test start end b vs = number_test 0 b vs && (from_test 6 start vs && (before_test 6 end vs && true))

range_tested : (start end : List ℕ) (b : ℕ) (row : Row Payment) → range_test start end b (payment_columns row) ≡ of_which (is_text_in start end) b row
range_tested start end b row i =
    number_tested row.branch b i && two_tested _ _ (from_tested (moment_text row.it.paid) start) (before_tested (moment_text row.it.paid) end) i

by_texts : (start end : List ℕ) (b : ℕ)
    → ReadsWhich payments seen_payment_row SELECT_PAYMENTS_BETWEEN.now (number_value b ∷ Text start ∷ Text end ∷ []) b (is_text_in start end)
unfolding understood everything
by_texts start end b =
    reads_which payments seen_payment_row SELECT_PAYMENTS_BETWEEN.now of_range between_means (number_value b ∷ Text start ∷ Text end ∷ []) b
    (range_test start end b) (is_text_in start end) (range_tested start end b) (λ r. refl)

met : (start end : List ℕ) (b : ℕ) → FindsAll payments SELECT_PAYMENTS_BETWEEN.now (number_value b ∷ Text start ∷ Text end ∷ [])
unfolding understood everything
met start end b =
    finds_which payments SELECT_PAYMENTS_BETWEEN.now of_range between_means (number_value b ∷ Text start ∷ Text end ∷ []) b
    (range_test start end b) (is_text_in start end) (range_tested start end b) (λ r. refl) (refl, refl, refl) refl

-- by their texts, and so by their moments
module _ (start end : Moment) (real : IsMoment start) (also : IsMoment end) where
  abbrev by_time : Payment → Bool
  by_time it = is_by start it.paid && is_earlier it.paid end

  in_time : (own : List (Row Payment)) → AllByRecursion (IsRow IsPayment) own
      → filter (is_text_in (moment_text start) (moment_text end)) (map (λ (row : Row Payment). row.it) own)
      ≡ filter by_time (map (λ (row : Row Payment). row.it) own)
  in_time [] all = refl
  in_time (row ∷ own) all =
      let is : IsMoment row.it.paid = all.0.2.paid in
      let rest = in_time own all.1 in
      λ i. cond (later_text row.it.paid start is real i && earlier_text row.it.paid end is also i) (row.it ∷ rest i) (rest i)

  reads : (b : ℕ)
      → ReadsWhich payments seen_payment_row SELECT_PAYMENTS_BETWEEN.now (number_value b ∷ Text (moment_text start) ∷ Text (moment_text end) ∷ []) b by_time
  reads b old new rows all h read kinds books holds held =
      let found = by_texts (moment_text start) (moment_text end) b old new rows all h read kinds books holds held in
      (found.0, found.1 ∙ in_time (filter (is_of b) books.payments) (all-filter (IsRow IsPayment) (is_of b) books.payments (held.values.rows Payments)))

pub returns-clause-does : goal.returns-clause-does
returns-clause-does g c =
    does_so c.query_all.ensures.inside
    (rw (
      c.to_sql.ensures,
      c.get.ensures.value,
      c.to_sql-2.ensures,
      c.as_str.ensures,
      c.of-first.ensures,
      c.to_sql-3.ensures,
      c.as_str-2.ensures,
      c.of-past.ensures,
    )
    at c.query_all.ensures.shown)
    (λ all it. reads c.args.start c.args.end c.text-real.ensures.kind c.text-also.ensures.kind c.args.branch _ _ it.0 all.items it.1 it.2 it.3)

pub returns-clause-fails : goal.returns-clause-fails
returns-clause-fails g c clean ready holds =
    err_then c.query_all.result _ _
    (rw (
      c.to_sql.ensures,
      c.get.ensures.value,
      c.to_sql-2.ensures,
      c.as_str.ensures,
      c.of-first.ensures,
      c.to_sql-3.ensures,
      c.as_str-2.ensures,
      c.of-past.ensures,
    )
    at (c.query_all.ensures.told clean))
    (met (moment_text c.args.start) (moment_text c.args.end) c.args.branch _ _ ready holds)
