-- Tests of a column by `>` and `<` a number.
use Rattle.std.specs.Prelude.{nat_lt}
use Rattle.sql_rows.proofs.Common.{◌≡◌, ◌∙◌, ℕ, pos, Bool, List, [], ◌∷◌, ap, arith, is_lt, is_gt, int_cmp, ints, nat_tests, Int, Row, column, Binary}
use Rattle.sql_rows.proofs.Common.{value_cmp-Int, Compare, Lt, is_true, number_value, Term, col, op2}
use Rattle.sqlite_sql.specs.declared.ops.CompareOp.TheVariants.{Gt}
use Rattle.sqlite_sql.specs.Ops.{binary}
use Rattle.sql_rows.proofs.Queries.{truth_of}

-- `column > ?1` and `column < ?1`, as WHERE has them, of the columns without the rowid
abbrev pub more_test : ℕ → ℕ → Row → Bool
more_test at n vs = is_true (binary (Compare Gt Binary) (column vs at) (Int (pos n)))

abbrev pub less_test : ℕ → ℕ → Row → Bool
less_test at n vs = is_true (binary (Compare Lt Binary) (column vs at) (Int (pos n)))

more_number : (m n : ℕ) → is_gt (int_cmp (pos m) (pos n)) ≡ nat_lt n m
more_number m n = grind (arith, ints, nat_tests)

less_number : (m n : ℕ) → is_lt (int_cmp (pos m) (pos n)) ≡ nat_lt m n
less_number m n = grind (arith, ints, nat_tests)

pub more_tested : (m n : ℕ) → is_true (binary (Compare Gt Binary) (number_value m) (number_value n)) ≡ nat_lt n m
unfolding binary
more_tested m n = truth_of _ ∙ ap is_gt (value_cmp-Int (pos m) (pos n)) ∙ more_number m n

pub less_tested : (m n : ℕ) → is_true (binary (Compare Lt Binary) (number_value m) (number_value n)) ≡ nat_lt m n
unfolding binary
less_tested m n = truth_of _ ∙ ap is_lt (value_cmp-Int (pos m) (pos n)) ∙ less_number m n

abbrev pub more_than : List Term
more_than = op2 (Compare Gt Binary) (col 1 1) (col 0 0) ∷ []

abbrev pub less_than : List Term
less_than = op2 (Compare Lt Binary) (col 1 1) (col 0 0) ∷ []
