use Rattle.std.proofs.Common.{◌≡◌, false, map, string_bytes}
use Rattle.std.specs.Prelude.{IfSome}
use Rattle.std.specs.Iterator.{IsFinite, size}
use Rattle.till_program.specs.declared.opening.OpenBook.{OpenBook}
use Rattle.till_program.specs.Screens.{screen}
use Rattle.till_program.specs.Prompting.{HasDone}
use Rattle.till_program.proofs.prompt.perform_lines.Given as goal

abbrev pub invariant-lines : goal.invariant-lines
invariant-lines g l = record {
  ended : IfSome l.held (λ (book : OpenBook). book.conn.in_transaction ≡ false);
  first : g.I.Iterator.can_next l.lines;
  finite : IsFinite (g.I.Iterator.remaining l.lines);
  done : HasDone g.I.Iterator.next_gives string_bytes (map string_bytes l.before) l.fn.lines l.lines l.known.standing.staff
      (screen (g.W.Write.contents l.fn.out) (g.E.Write.contents l.fn.err)) (screen (g.W.Write.contents l.out) (g.E.Write.contents l.err)) l.fn.held l.held;
}

abbrev pub decreases-lines : goal.decreases-lines
decreases-lines g l = size (g.I.Iterator.remaining l.lines)
