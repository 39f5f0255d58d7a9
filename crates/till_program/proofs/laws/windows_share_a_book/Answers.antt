use Rattle.till_program.proofs.WindowLaws.{windows_share, acts_stay, copies_come_back, performed_is_done}
use Rattle.till_program.proofs.laws.windows_share_a_book.Goals as goal

pub returns-clause-shared : goal.returns-clause-shared
returns-clause-shared g c = windows_share _ _ _

pub returns-clause-acts : goal.returns-clause-acts
returns-clause-acts g c = acts_stay _ _ _

pub returns-clause-copies : goal.returns-clause-copies
returns-clause-copies g c = copies_come_back _ _ _

pub returns-clause-performed : goal.returns-clause-performed
returns-clause-performed g c = performed_is_done _ _ _ _
