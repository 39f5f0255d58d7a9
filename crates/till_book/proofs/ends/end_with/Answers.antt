use Rattle.till_book.proofs.EndTexts.{end_some, end_none}
use Rattle.till_book.proofs.ends.end_with.Goals as goal

pub returns-in-Some : goal.returns-in-Some
returns-in-Some c journal is many = end_some journal c.in-Some.it.number c.args.replies c.in-Some.it.request (rw c.in-Some.is at is) many

pub returns-in-None : goal.returns-in-None
returns-in-None c journal is many = end_none journal c.args.replies (rw c.in-None.is at is) many
