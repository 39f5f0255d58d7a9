-- What a change that was stopped leaves of a book.
use Rattle.shop_schema.proofs.Common.{inl, inr, State, HasCleanDisk, Survives}
use Rattle.till_book.specs.Journal.{Journal}
use Rattle.till_book.specs.Steps.{Rests, LeavesChanged}
use Rattle.till_files.specs.Files.{LeavesEither}

-- a change that was stopped leaves the journal before or after the change
pub leaves_either : (old new : State) (Given : Journal → Type 0) (change : Journal → Journal)
    → Survives old new (LeavesChanged Given change old) → HasCleanDisk new
    → (journal : Journal) → Rests old journal → Given journal → LeavesEither new journal (change journal)
leaves_either old new Given change survives clean journal rests given db may = elim (survives.crash clean db may) [
  | inl before ↦ inl (rests.left db before)
  | inr after ↦ inr (after journal rests given)
]
