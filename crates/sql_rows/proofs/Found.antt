-- What was read of the rows that a query shows.
use Rattle.sql_rows.proofs.Common.{Ok, Err, Result, IfOk}

pub both_found : {T E : Type 0} (P Q : T → Type 0) (r : Result T E) → IfOk r P → IfOk r Q → IfOk r (λ x. P x × Q x)
both_found P Q (Ok x) is also = (is, also)
both_found P Q (Err e) is also = tt

-- what follows from what was found
pub found_then : {T E : Type 0} (P Q : T → Type 0) (r : Result T E) → IfOk r P → ((x : T) → P x → Q x) → IfOk r Q
found_then P Q (Ok x) is to = to x is
found_then P Q (Err e) is to = tt
