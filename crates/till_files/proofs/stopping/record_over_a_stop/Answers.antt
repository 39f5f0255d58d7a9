use Rattle.shop_schema.proofs.Common.{file_state, Answer}
use Rattle.till_book.specs.Journal.{with_reply}
use Rattle.till_book.specs.Steps.{IsNextReply}
use Rattle.till_files.proofs.Keeping.{leaves_either}
use Rattle.till_files.proofs.Results.{ok_then}
use Rattle.till_files.proofs.stopping.record_over_a_stop.Goals as goal

pub returns : goal.returns
returns g c =
    let answer : Answer = record { status = c.args.status; body = c.args.body.now } in
    record {
      either = ok_then c.restart_book.result c.restart_book.ensures.either (λ again told clean journal rests next.
          told clean journal (with_reply answer journal) (λ before.
          leaves_either (file_state c.args.conn) (file_state c.record-stopped.new.conn) (IsNextReply c.args.number)
          (with_reply answer) c.record-stopped.ensures.crash before journal rests next));
    }
