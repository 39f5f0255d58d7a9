use Rattle.std.proofs.Common.{◌≡◌, false}
use Rattle.std.specs.Prelude.{IfSome}
use Rattle.till_program.specs.declared.opening.OpenBook.{OpenBook}
use Rattle.till_program.specs.Lines.{IsNotBegun}
use Rattle.till_program.proofs.prompt.wait.Given as goal

abbrev pub invariant-looks : goal.invariant-looks
invariant-looks l = record {
  ended : IfSome l.held (λ (book : OpenBook). book.conn.in_transaction ≡ false);
  waited : IsNotBegun l.fn.held l.held;
}
