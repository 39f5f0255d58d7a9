use Rattle.shop_schema.proofs.Common.{file_state, Answer}
use Rattle.till_book.specs.Journal.{IsUnsettled, with_settled}
use Rattle.till_files.proofs.Keeping.{leaves_either}
use Rattle.till_files.proofs.Results.{ok_then}
use Rattle.till_files.proofs.stopping.note_settled_over_a_stop.Goals as goal

pub returns : goal.returns
returns g c =
    let answer : Answer = record { status = c.args.status; body = c.args.body.now } in
    record {
      either = ok_then c.restart_book.result c.restart_book.ensures.either (λ again told clean journal rests next.
          told clean journal (with_settled c.args.number answer journal) (λ before.
          leaves_either (file_state c.args.conn) (file_state c.note_settled-stopped.new.conn) (IsUnsettled c.args.number)
          (with_settled c.args.number answer) c.note_settled-stopped.ensures.crash before journal rests next));
    }
