use Rattle.shop_schema.proofs.Common.{◌≡◌, subst, arith, Keeps-refl, Answer}
use Rattle.sakila_office.specs.Printed.{IsTold}
use Rattle.sakila_office.proofs.Tasks.{not_begun}
use Rattle.sakila_office.proofs.program.run.Goals as goal

pub returns-in-Err-Memory-clause-performs : goal.returns-in-Err-Memory-clause-performs
returns-in-Err-Memory-clause-performs g c =
    let told = subst (λ (a : Answer). IsTold a c.tell.result (g.W.Write.contents c.args.out.now) (g.W.Write.contents c.tell.new.out)
    (g.E.Write.contents c.args.err.now) (g.E.Write.contents c.tell.new.err)) c.refused.ensures c.tell.ensures.told in
    not_begun _ _ _ _ _ _ _ _ _ (Keeps-refl _) ((told.refused (λ e. let bad : 503 ≡ 200 = e in absurd (omega arith))).0)
