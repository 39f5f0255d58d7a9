-- How a branch stands before a command.
use Rattle.std.specs.Prelude.{◌≡◌, ℕ, true, false, Option, Some, None}
use Rattle.shop_model.specs.Rows.{lacks, owned_by}
use Rattle.shop_model.specs.Books.{Books, head}
use Rattle.shop_ledger.specs.declared.branches.Standing.{Standing}
use Rattle.shop_ledger.specs.declared.counts.CountKind.TheVariants as kind
use Rattle.shop_ledger.specs.declared.counts.Count.TheVariants.{Of}
use Rattle.shop_ledger.specs.Counted.{counted}

-- the branch is there, and the books have its last moment and its count of kept commands as `it` says
pub record HasStanding (b : ℕ) (books : Books) (it : Standing) : Type 0 where
  pub there : lacks books.catalogue.branches b ≡ false
  pub last : it.last ≡ head (owned_by b books.lasts)
  pub keys : it.keys ≡ counted (Of b kind.Kept) books

-- the same for a branch that may not be there
abbrev pub IsStanding : ℕ → Books → Option Standing → Type 0
IsStanding b books None = lacks books.catalogue.branches b ≡ true
IsStanding b books (Some it) = HasStanding b books it
