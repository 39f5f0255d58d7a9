use Rattle.std.proofs.Common.{◌≤◌}
use Rattle.csv.specs.declared.parser.State.{State}
use Rattle.stock_csv.specs.Progress.{IsAt}
use Rattle.stock_csv.specs.Rows.{Text, rows_from}
use Rattle.stock_csv.proofs.RowLemmas.{Going, rest_of}
use Rattle.stock_csv.proofs.read_rows.Given as goal

abbrev pub invariant-loop-line : goal.invariant-loop-line
invariant-loop-line l = record {
  going : (s : State) (rest : Text) → IsAt l.fn.reader s rest → Going (rows_from 2 0 (rest_of 501 s rest)) l.rows.items l.line l.total l.reader;
  few : l.total ≤ 1000;
}
