-- What the words ask the program for.
use Rattle.std.specs.Prelude.{ℕ, List, Option, Some, None}
use Rattle.shop_types.specs.Lines.{LineValue}
use Rattle.shop_types.specs.declared.line.LineAct.{LineAct}
use Rattle.shop_types.specs.declared.line.LineAct.TheVariants as act
use Rattle.shop_types.specs.declared.request.Request.{Request}
use Rattle.shop_types.specs.declared.request.Request.TheVariants as request

pub data Task : Type 0 where
  -- to answer the requests of the input
  Replay : Task
  -- to make a chain with this token in the file
  Make : (file token : List ℕ) → Task
  -- to turn the chain of version 1 in the file into one of this version
  Migrate : (file : List ℕ) → Task
  -- to put a request of head office to the chain in the file
  Put : (file : List ℕ) → Request → Task
  -- to serve so many connections at the port by the chain in the file
  Serve : (file : List ℕ) → (port connections : ℕ) → Task
  -- to do nothing: the words are no line, or `--db` is missing, or is given with `replay`
  Nothing : Task

-- each task needs a file for the chain, except `replay`, which takes none
abbrev pub task_with : LineAct → Option (List ℕ) → Task
task_with act.Replay None = Replay
task_with act.Replay (Some file) = Nothing
task_with (act.Init token) (Some file) = Make file token
task_with (act.Init token) None = Nothing
task_with (act.Office command) (Some file) = Put file (request.Office command)
task_with (act.Office command) None = Nothing
task_with (act.OfficeLook ask) (Some file) = Put file (request.OfficeLook ask)
task_with (act.OfficeLook ask) None = Nothing
task_with (act.Serve port connections) (Some file) = Serve file port connections
task_with (act.Serve port connections) None = Nothing
task_with act.Migrate (Some file) = Migrate file
task_with act.Migrate None = Nothing

abbrev pub task_of : Option LineValue → Task
task_of None = Nothing
task_of (Some line) = task_with line.act line.db
