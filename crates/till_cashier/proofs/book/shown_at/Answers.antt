use Rattle.std.proofs.Common.{◌≡◌, rules}
use Rattle.till_cashier.proofs.book.shown_at.Goals as goal

pub returns-in-Some-clause-moment : goal.returns-in-Some-clause-moment
returns-in-Some-clause-moment c =
    let same : c.as_slice.result.now ≡ c.in-Some.request = search rules in
    rw (c.in-Some.is, ← same) c.shown_by.ensures.moment
