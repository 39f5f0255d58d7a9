use Rattle.till_book.proofs.EndTexts.{count_some, count_none}
use Rattle.till_book.proofs.ends.count_by.Goals as goal

pub returns-in-Some : goal.returns-in-Some
returns-in-Some c journal is = count_some journal c.in-Some.it.number (rw c.in-Some.is at is)

pub returns-in-None : goal.returns-in-None
returns-in-None c journal is = count_none journal (rw c.in-None.is at is)
