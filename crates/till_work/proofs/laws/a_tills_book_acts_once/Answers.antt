use Rattle.till_model.specs.Numbered.{has_mark}
use Rattle.till_model.proofs.Numbered.{numbered_own}
use Rattle.till_model.proofs.Press.{press_to_disk}
use Rattle.till_work.proofs.laws.a_tills_book_acts_once.Goals as goal

pub returns : goal.returns
returns c = λ mark rules look b journal commands lives old new lived numbers unused book witnessed.
    press_to_disk (has_mark mark) rules look b commands journal.replies lives old new lived numbers unused
    (record { own = numbered_own mark commands journal.replies book.numbered; witnessed = witnessed })
