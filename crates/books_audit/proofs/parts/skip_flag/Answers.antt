use Rattle.books_audit.proofs.Ends.{flag_found}
use Rattle.books_audit.proofs.parts.skip_flag.Goals as goal

pub returns-then-first-le1-clause-found : goal.returns-then-first-le1-clause-found
returns-then-first-le1-clause-found c =
    flag_found c.in_ok-first.first.now c.in_ok-first.rest.now c.args.bytes.now c.if-first-le1.true c.in_ok-first.ensures.cases.0
