use Rattle.till_book.proofs.Differences.{drawer_is_the_difference}
use Rattle.till_book.proofs.laws.a_drawer_is_the_difference.Goals as goal

pub returns : goal.returns
returns c = drawer_is_the_difference
