-- One read after another.
use Rattle.shop_schema.proofs.Common.{State, Books, IsHeld, Reads}

pub reads_then : (a b c : State) (P Q : Books → Type 0) → Reads a b P → Reads b c Q → Reads a c (λ books. P books × Q books)
reads_then a b c P Q one two = λ books holds held. let first = one books holds held in let second = two books first.0 held in (second.0, (first.1, second.1))

pub reads_as : (a b : State) (P Q : Books → Type 0) → ((books : Books) → IsHeld books → P books → Q books) → Reads a b P → Reads a b Q
reads_as a b P Q more one = λ books holds held. let first = one books holds held in (first.0, more books held first.1)

pub reads_none : (s : State) (P : Books → Type 0) → ((books : Books) → IsHeld books → P books) → Reads s s P
reads_none s P is = λ books holds held. (holds, is books held)
