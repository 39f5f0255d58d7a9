-- Laws of what a chain answers.
use Rattle.std.specs.Prelude.{◌++◌, List}
use Rattle.shop_model.specs.Answers.{Answer}
use Rattle.sqlite_trees.specs.declared.memory.MemStore.{MemStore}
use Rattle.sqlite.specs.Steps.{over_memory}
use Rattle.shop_model.specs.Books.{Books, Event}
use Rattle.chain_requests.specs.Holding.{Chained, Holding}
use Rattle.chain_requests.specs.Chains.{IsAt, Runs}
use Rattle.chain_requests.specs.Wells.{IsWell, StaysWell}

-- if a chain answered two lists of events one after the other, it answered both as one list
abbrev pub RunsFollow : Type 0
RunsFollow = (old mid new : Holding) (events more : List Event) (answers others : List Answer) → Runs events answers old mid → Runs more others mid new
    → Runs (events ++ more) (answers ++ others) old new

-- Over memory a chain that is well stays well: no disk fails there.
abbrev pub StaysWellInMemory : Type 0
StaysWellInMemory = (old new : Chained MemStore) (books besides : Books) → IsAt over_memory old books besides → IsWell over_memory old
    → StaysWell over_memory old new → IsWell over_memory new
