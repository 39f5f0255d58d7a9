use Rattle.sql_rows.proofs.Common.{◌≡◌, ◌+◌, ◌++◌, List, map}
use Rattle.std.specs.Prelude.{drop}
use Rattle.shop_model.specs.Values.{Command}
use Rattle.till_model.specs.Laws.{entries_of}
use Rattle.till_book.specs.Saying.{Say}
use Rattle.till_book.specs.Seen.{seen_reply}
use Rattle.till_book.specs.Drawer.{counted_from}
use Rattle.till_book.proofs.drawer.count_rows.Given as goal

abbrev pub invariant-loop-at : goal.invariant-loop-at
invariant-loop-at l =
    (commands : List Command) → Say (map (λ row. row.request) l.entries) commands
    → l.all.items ++ counted_from l.replies l.known l.late (l.from + 1 + l.at) (drop l.at (entries_of commands (map seen_reply l.answers)))
    ≡ counted_from l.replies l.known l.late (l.from + 1) (entries_of commands (map seen_reply l.answers))
