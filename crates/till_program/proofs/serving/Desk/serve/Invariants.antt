use Rattle.std.proofs.Common.{◌≡◌, false}
use Rattle.std.specs.Prelude.{IfSome, string_bytes}
use Rattle.till_program.specs.declared.opening.OpenBook.{OpenBook}
use Rattle.till_program.specs.Serving.{IsServed}
use Rattle.till_program.proofs.serving.Desk.serve.Given as goal

abbrev pub invariant-rounds : goal.invariant-rounds
invariant-rounds l = record {
  ended : IfSome l.held (λ (book : OpenBook). book.conn.in_transaction ≡ false);
  served : IsServed (string_bytes l.desk.name) l.desk.secret l.fn.held l.held;
}
