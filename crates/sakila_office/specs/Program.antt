-- What the program does for its words.
use Rattle.std.specs.Prelude.{◌⊎◌, ℕ, List, Option}
use Rattle.std.specs.Io.KnownBytes.{Keeps}
use Rattle.sqlite_disk.specs.declared.Disk.{Ghosts}
use Rattle.sakila_office.specs.Tasks.{Task, Replay, Make, Migrate, Put, Serve, Nothing}
use Rattle.sakila_office.specs.Printed.{IsSilent}
use Rattle.sakila_office.specs.Replays.{Replays}
use Rattle.sakila_office.specs.Commands.{Makes, Migrates, Puts, Serves}

-- The status that the program ends with, what it read, and what it wrote on standard output and standard error. It reads its input only to replay. If it does
-- nothing the status is 2, or 3 if there was no memory to read the words.
abbrev pub Performs : {D : Type 0} → Ghosts D → Task → ℕ → Option (List ℕ) → Option (List ℕ)
    → Option (List ℕ) → Option (List ℕ) → Option (List ℕ) → Option (List ℕ) → Type 0
Performs g Replay status input left output written errors told = Replays status input left output written errors told
Performs g (Make file token) status input left output written errors told = Makes g token status output written errors told × Keeps input left
Performs g (Migrate file) status input left output written errors told = Migrates g status output written errors told × Keeps input left
Performs g (Put file request) status input left output written errors told = Puts g request status output written errors told × Keeps input left
Performs g (Serve file port connections) status input left output written errors told = Serves g status output written errors told × Keeps input left
Performs g Nothing status input left output written errors told = (IsSilent 2 status output written ⊎ IsSilent 3 status output written) × Keeps input left
