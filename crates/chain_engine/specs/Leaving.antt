-- What a call leaves to a crash.
use Rattle.sqlite_trees.specs.Tree.{Trees}
use Rattle.sqlite.specs.State.{State, HasCleanDisk}

-- After a call that commits nothing, a crash finds no database that it couldn't have found before the call.
abbrev pub LeavesNoMore : State → State → Type 0
LeavesNoMore old new = HasCleanDisk new → (db : Trees) → new.may_leave db → old.may_leave db
