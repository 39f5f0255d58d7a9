use Rattle.std.proofs.Common.{IfOk, sym, subst}
use Rattle.sqlite.specs.Held.{state}
use Rattle.till_words.specs.declared.words.TillAct.{TillAct}
use Rattle.till_cashier.specs.Doing.{IsPlanOf}
use Rattle.till_cashier.proofs.word.plan_of.Goals as goal

pub returns-in-Office-clause-acts : goal.returns-in-Office-clause-acts
returns-in-Office-clause-acts g c clean =
    subst (λ (act : TillAct). IfOk c.office_plan.result (IsPlanOf c.args.desk.now.sheet.now (state g.S.Store c.args.conn.now) act))
    (sym c.in-Office.is) c.office_plan.ensures.acts
