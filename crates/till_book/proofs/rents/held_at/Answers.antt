use Rattle.sql_rows.proofs.Common.{IfOk-weaker}
use Rattle.sql_rows.proofs.Stays.{clean_before, inside_as, inside_then, within_of}
use Rattle.till_book.proofs.Helds.{held_some, held_none}
use Rattle.till_book.proofs.rents.held_at.Goals as goal

pub returns-in-Some : goal.returns-in-Some
returns-in-Some g c = record {
  inside = inside_then c.in_ok-last.ensures.inside (within_of c.held_by.ensures.inside);
  says = λ clean.
      IfOk-weaker c.held_by.result _ _
      (λ it told.
      held_some c.args.copy c.in-Some.rent it _ _ _ (rw c.in-Some.is at (c.in_ok-last.ensures.says (clean_before c.held_by.ensures.inside clean))) told)
      (c.held_by.ensures.says clean);
}

pub returns-in-None : goal.returns-in-None
returns-in-None g c = record {
  inside = inside_as c.in_ok-last.ensures.inside;
  says = λ clean. held_none c.args.copy _ _ (rw c.in-None.is at (c.in_ok-last.ensures.says clean));
}
