use Rattle.shop_schema.proofs.Common.{IsTrue, false, false≢true}
use Rattle.chain_requests.proofs.answering.answer_inside.Goals as goal

pub returns-in-OfBranch-clause-does : goal.returns-in-OfBranch-clause-does
returns-in-OfBranch-clause-does g c = rw c.in-OfBranch.is c.branch_inside.ensures.does

pub returns-in-OfBranch-clause-still : goal.returns-in-OfBranch-clause-still
returns-in-OfBranch-clause-still g c = rw c.in-OfBranch.is c.branch_inside.ensures.still

pub returns-in-OfBranch-clause-fails : goal.returns-in-OfBranch-clause-fails
returns-in-OfBranch-clause-fails g c = rw c.in-OfBranch.is c.branch_inside.ensures.fails

pub returns-in-OfOffice-clause-still : goal.returns-in-OfOffice-clause-still
returns-in-OfOffice-clause-still g c row = let no : IsTrue false = rw c.in-OfOffice.is at row in absurd (false≢true no)

pub returns-in-OfOffice-clause-fails : goal.returns-in-OfOffice-clause-fails
returns-in-OfOffice-clause-fails g c row = let no : IsTrue false = rw c.in-OfOffice.is at row in absurd (false≢true no)
