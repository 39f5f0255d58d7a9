use Rattle.sqlite.specs.Files.{file_state}
use Rattle.till_book.specs.Journal.{with_entry}
use Rattle.till_book.specs.Steps.{IsNext}
use Rattle.till_files.proofs.Keeping.{leaves_either}
use Rattle.till_files.proofs.Results.{ok_then}
use Rattle.till_files.proofs.stopping.enter_over_a_stop.Goals as goal

pub returns : goal.returns
returns g c = record {
  either = ok_then c.restart_book.result c.restart_book.ensures.either (λ again told clean journal rests next.
      told clean journal (with_entry c.args.request.now journal) (λ before.
      leaves_either (file_state c.args.conn) (file_state c.enter-stopped.new.conn) (IsNext c.args.number)
      (with_entry c.args.request.now) c.enter-stopped.ensures.crash before journal rests next));
}
