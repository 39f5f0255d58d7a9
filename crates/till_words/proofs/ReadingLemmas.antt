-- Values that are read one after the other: if one of them is none, the result is none.
use Rattle.shop_types.proofs.Common.{◌≡◌, ◌∙◌, Option, Some, None, Result, IfOk, IfErr, IsErrAnd}
use Rattle.shop_types.specs.declared.line.Usage.{Usage}
use Rattle.shop_types.specs.declared.line.Usage.TheVariants.{Memory}
use Rattle.std.specs.Prelude.{Ok, Err}
use Rattle.word_tables.specs.Given.{Reads}

-- an error that is passed on
pub handed_on : {A : Type 0} (e : Usage) (r : Result A Usage) (found : Option A) → IsErrAnd r (λ x. x ≡ e) → (¬ (e ≡ Memory) → found ≡ None) → Reads r found
handed_on e (Ok x) found is h = absurd is
handed_on e (Err y) found is h = λ other. h (λ memory. other (is ∙ memory))

-- the two outcomes of a reading
pub reads_ok : {A : Type 0} (r : Result A Usage) (found : Option A) → Reads r found → IfOk r (λ value. found ≡ Some value)
reads_ok (Ok value) found h = h
reads_ok (Err e) found h = tt

pub reads_err : {A : Type 0} (r : Result A Usage) (found : Option A) → Reads r found → IfErr r (λ e. ¬ (e ≡ Memory) → found ≡ None)
reads_err (Ok value) found h = tt
reads_err (Err e) found h = h
