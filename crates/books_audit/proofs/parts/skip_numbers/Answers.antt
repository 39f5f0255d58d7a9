use Rattle.std.proofs.Common.{arith}
use Rattle.books_audit.proofs.Ends.{numbers_found}
use Rattle.books_audit.proofs.parts.skip_numbers.Goals as goal

pub returns-clause-found : goal.returns-clause-found
returns-clause-found c =
    let found = c.in_ok-rest.ensures.found in
    numbers_found c.args.bytes.now c.in_ok-count.rest.now c.in_ok-rest.rest.now c.in_ok-count.count
    c.args.most found.0 c.in_ok-count.ensures.found (omega arith) found.1 found.2 found.3
