-- Defines how far a reader of records has come.
use Rattle.std.specs.Prelude.{◌≡◌, ℕ, Bool, List, Option, Some, None}
use Rattle.std.specs.Bool.{MatchBool}
use Rattle.std.specs.Borrow.{Bor}
use Rattle.csv.specs.Machine.{Read}
use Rattle.csv.specs.Reading.{Ready, default_config, reader_config, reader_state, reader_trim, source_of}
use Rattle.csv.specs.declared.parser.State.{State}
use Rattle.csv.specs.declared.reader.Reader.{Reader}
use Rattle.csv.specs.declared.reader.Trim.TheVariants as trim

-- the reader reads next in this state, from these bytes
pub record IsAt (r : Reader (Bor (List ℕ))) (s : State) (rest : List ℕ) : Type 0 where
  pub ready : Ready r
  pub trim : reader_trim r ≡ trim.None
  pub config : reader_config r ≡ default_config
  pub state : reader_state r ≡ s
  pub source : source_of (λ x. Some x.now) r ≡ Some rest

-- what a read found, and where it left the reader
abbrev pub Found : Option Read → Reader (Bor (List ℕ)) → Bool → List (List ℕ) → Type 0
Found o after found fields =
    MatchBool found ((p : Read) × (o ≡ Some p) × (fields ≡ p.0) × IsAt after p.1 p.2) (o ≡ None)
