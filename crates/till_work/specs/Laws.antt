-- The law of a book that was kept by entering.
use Rattle.std.specs.Prelude.{ℕ, List}
use Rattle.shop_model.specs.Values.{Text, Command, OfficeAsk, Rules}
use Rattle.shop_model.specs.Machine.{Reply}
use Rattle.shop_model.specs.Books.{Books, shop_of}
use Rattle.shop_model.specs.Sound.{HasNumbers}
use Rattle.shop_model.specs.Stops.{Life, Lives}
use Rattle.till_model.specs.Numbered.{has_mark}
use Rattle.till_model.specs.Outcomes.{IsUnused, Became}
use Rattle.till_model.specs.Laws.{entries_of, served_over, IsWitnessed}
use Rattle.till_book.specs.Journal.{Journal}
use Rattle.till_work.specs.Entering.{IsTillsBook}

-- Of a till's book, over any lives of a chain from books with nothing kept under its mark: what its entries say acts at most once, in the order of entering,
-- and
-- what it shows as accepted acted once, with that reply.
abbrev pub TillsBookActsOnce : Type 0
TillsBookActsOnce =
    (mark : Text) (rules : Rules) (look : OfficeAsk → Books → Reply) (b : ℕ) (journal : Journal) (commands : List Command) (lives : List Life) (old new : Books)
    → Lives rules look lives old new → HasNumbers old → IsUnused (has_mark mark) (shop_of b old) → IsTillsBook mark journal commands
    → IsWitnessed (has_mark mark) rules b commands journal.replies lives old
    → Became (has_mark mark) (entries_of commands journal.replies) (served_over (has_mark mark) rules b lives old) (shop_of b new)
