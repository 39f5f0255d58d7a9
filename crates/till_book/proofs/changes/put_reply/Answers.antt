use Rattle.sql_rows.proofs.Common.{sym, subst, Some, List, ℕ, IfOk-weaker, state}
use Rattle.shop_model.specs.Answers.{Answer}
use Rattle.sql_rows.proofs.Stays.{clean_before, clean_within, inside_then, within_of, within_then}
use Rattle.till_book.specs.Journal.{FindsEntry}
use Rattle.till_book.proofs.Puttings.{puts_reply}
use Rattle.till_book.proofs.changes.put_reply.Goals as goal

pub returns : goal.returns
returns g c = record {
  inside = inside_then c.in_ok-request.ensures.inside (within_then (within_of c.in_ok-add_reply.ensures.inside) c.put_mark.ensures.inside);
  says = λ clean.
      let clean_two = clean_within c.put_mark.ensures.inside clean in
      let clean_one = clean_before c.in_ok-add_reply.ensures.inside clean_two in
      let answer : Answer = record { status = c.args.status; body = c.args.body.now } in
      let old = state g.S.Store c.args.tx.now.conn.now in
      let one = state g.S.Store c.request_at.new.tx.conn.now in
      let found : FindsEntry c.args.number (Some c.as_slice.result.now) old one =
      subst (λ (l : List ℕ). FindsEntry c.args.number (Some l) old one) (sym c.as_slice.ensures) (c.in_ok-request.ensures.says clean_one) in
      IfOk-weaker c.put_mark.result _ _
      (λ y marks.
      puts_reply c.args.number answer c.as_slice.result.now c.in_ok-mark.mark old one _ _ found
      (c.in_ok-add_reply.ensures.says clean_two) c.in_ok-mark.ensures marks)
      (c.put_mark.ensures.says clean);
}
