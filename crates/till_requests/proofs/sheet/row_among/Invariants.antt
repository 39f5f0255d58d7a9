use Rattle.csv.specs.declared.parser.State.{State}
use Rattle.till_requests.specs.SheetProgress.{IsAt}
use Rattle.till_requests.specs.SheetRows.{Text, first_row}
use Rattle.till_requests.proofs.SheetLemmas.{Going, rest_of}
use Rattle.till_requests.proofs.sheet.row_among.Given as goal

abbrev pub invariant-loop-at : goal.invariant-loop-at
invariant-loop-at l =
    (s : State) (rest : Text) → IsAt l.fn.reader s rest
    → Going (first_row l.fn.copy) (first_row l.fn.copy (rest_of 1000000 s rest)) l.at l.reader
