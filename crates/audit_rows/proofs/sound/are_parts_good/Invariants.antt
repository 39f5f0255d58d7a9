use Rattle.std.proofs.Common.{◌≡◌, ◌+◌, drop}
use Rattle.audit_rows.specs.Parts.{are_good_from}
use Rattle.audit_rows.proofs.PartLemmas.{AreRests}
use Rattle.audit_rows.proofs.sound.are_parts_good.Given as goal

abbrev pub invariant-loop-row : goal.invariant-loop-row
invariant-loop-row l = record {
  branch : l.branch ≡ l.row-index + 1;
  good : are_good_from l.books l.branch (drop l.row-index l.row-items) ≡ are_good_from l.books 1 l.row-items;
  rest : AreRests l.books l.rest l.row-index;
}
