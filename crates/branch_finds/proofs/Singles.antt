-- If an act names only single rows, what is found of the named rows is all that its decision reads.
use Rattle.shop_schema.proofs.Common.{◌≡◌, refl, ℕ, List, Moment, Books, shop_of, seen_act}
use Rattle.shop_types.specs.declared.command.Act.{Act}
use Rattle.shop_types.specs.declared.command.Act.TheVariants as act
use Rattle.branch_core.specs.declared.found.RowsFound.{RowsFound}
use Rattle.branch_core.specs.Agreed.{named_rows, NamedAgree}
use Rattle.consign_finds.specs.Finds.{AgreesAt}

pub singles_agree : (it : Act) → ((c x : ℕ) → it ≡ act.Rent c x → ⊥)
    → ((lot file : List ℕ) → it ≡ act.Import lot file → ⊥) → ((to : ℕ) (xs : List ℕ) → it ≡ act.Dispatch to xs → ⊥)
    → ((source n : ℕ) (missing : List ℕ) → it ≡ act.Receive source n missing → ⊥)
    → (b : ℕ) (moment : Moment) (found : RowsFound) (books : Books)
    → NamedAgree books.catalogue (shop_of b books) (named_rows (seen_act it)) found → AgreesAt b moment (seen_act it) found books
singles_agree (act.Rent c x) rent lots sent come b moment found books agrees = absurd (rent c x refl)
singles_agree (act.Import lot file) rent lots sent come b moment found books agrees = absurd (lots lot file refl)
singles_agree (act.Dispatch to xs) rent lots sent come b moment found books agrees = absurd (sent to xs refl)
singles_agree (act.Receive source n missing) rent lots sent come b moment found books agrees = absurd (come source n missing refl)
singles_agree it rent lots sent come b moment found books agrees = (λ rules reads. agrees, tt)
