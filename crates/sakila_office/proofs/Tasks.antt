-- A task that isn't begun, because there is no memory.
use Rattle.std.proofs.Common.{ℕ, List, Option, inr}
use Rattle.std.specs.Io.KnownBytes.{Keeps}
use Rattle.sqlite_disk.specs.declared.Disk.{Ghosts}
use Rattle.sakila_office.specs.Tasks.{Task, Replay, Make, Migrate, Put, Serve, Nothing}
use Rattle.sakila_office.specs.Printed.{IsSilent}
use Rattle.sakila_office.specs.Replays.{no_chain}
use Rattle.sakila_office.specs.Commands.{not_made, not_migrated, not_opened, not_served}
use Rattle.sakila_office.specs.Program.{Performs}

pub not_begun : {D : Type 0} (g : Ghosts D) (task : Task) (status : ℕ) (input left output written errors told : Option (List ℕ))
    → Keeps input left → IsSilent 3 status output written → Performs g task status input left output written errors told
not_begun g Replay status input left output written errors told kept silent = no_chain kept silent.1 silent.0
not_begun g (Make file token) status input left output written errors told kept silent = (not_made silent, kept)
not_begun g (Migrate file) status input left output written errors told kept silent = (not_migrated silent, kept)
not_begun g (Put file request) status input left output written errors told kept silent = (not_opened silent, kept)
not_begun g (Serve file port connections) status input left output written errors told kept silent = (not_served silent, kept)
not_begun g Nothing status input left output written errors told kept silent = (inr silent, kept)
