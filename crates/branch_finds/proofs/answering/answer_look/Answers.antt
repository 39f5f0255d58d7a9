use Rattle.shop_schema.proofs.Common.{◌∙◌, sym, IfOk-weaker, seen_ask}
use Rattle.branch_finds.proofs.Answered.{shown_answered}
use Rattle.branch_finds.proofs.Telling.{row_asks}
use Rattle.branch_finds.proofs.answering.answer_look.Goals as goal

pub returns-then-reads_row-clause-does : goal.returns-then-reads_row-clause-does
returns-then-reads_row-clause-does g c =
    let looked = rw (sym c.reads_row.ensures ∙ c.if-reads_row.true) at c.look.ensures.looks.does in
    record {
      inside = looked.inside;
      says = λ clean. IfOk-weaker c.look.result _ _ (λ it shown books holds held.
          let seen = shown books holds held in
          (seen.0, λ known. shown_answered c.args.branch (seen_ask c.args.ask.now) books it (known c.if-is_known.true) seen.1)) (looked.says clean);
    }

pub returns-clause-does : goal.returns-clause-does
returns-clause-does g c =
    let found = c.look_where_found.ensures.does in
    record {
      inside = found.inside;
      says = λ clean. IfOk-weaker c.look_where_found.result _ _ (λ it answered books holds held.
          let was = answered books holds held in
          (was.0, λ known. was.1)) (found.says clean);
    }

pub returns-then-reads_row-clause-fails : goal.returns-then-reads_row-clause-fails
returns-then-reads_row-clause-fails g c clean ready holds =
    c.look.ensures.fails clean ready (row_asks c.args.branch (seen_ask c.args.ask.now) (sym c.reads_row.ensures ∙ c.if-reads_row.true) holds)

pub returns-then-reads_row-clause-still : goal.returns-then-reads_row-clause-still
returns-then-reads_row-clause-still g c = c.look.ensures.looks.still
