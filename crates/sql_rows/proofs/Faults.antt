-- Which error a statement is given.
use Rattle.sql_rows.proofs.Common.{refl, ◌≡◌, ◌<◌, inl, inr, ℕ, zero, suc, List, [], ◌∷◌, length, get_or, map, arith, false, IsTrue, Bor, cases_Bool, Has}
use Rattle.sql_rows.proofs.Common.{Ghosts, Held, state, ExecutesInside, Survives, Row, IsErrAnd, StoreFault, Error, SqliteFailure, TransactionState, IsToldOf}
use Rattle.sql_rows.proofs.Common.{StatementGave, OneGave}
use Rattle.std.specs.Prelude.{IfErr, Result, Ok, Err}

module _ {S : Type 0} (g : Ghosts S) (old new : Held S) (sql : List ℕ) (params : Row) (r : Result ℕ Error)
    (ended : (state g old).in_transaction ≡ false → (r ≡ Err (SqliteFailure TransactionState)) × (new ≡ old))
    (runs : IsTrue (state g old).in_transaction → ExecutesInside 0 sql params (state g old) (state g new) r) where
  pub statement_gave : (e : Error) → r ≡ Err e → StatementGave sql params (state g old) (state g new) e
  statement_gave e is = elim (cases_Bool (state g old).in_transaction) [
    | inl inside ↦ inl (inside, rw is at (runs inside))
    | inr outside ↦ let same : e ≡ SqliteFailure TransactionState = (let at = (ended outside).0 in cc) in inr (outside, same)
  ]

among : (texts : List (Bor (List ℕ))) (i : ℕ) (d : Bor (List ℕ)) → i < length texts → Has (map (λ t. t.now) texts) (get_or texts i d).now
among [] i d low = absurd (omega arith)
among (x ∷ xs) zero d low = inl refl
among (x ∷ xs) (suc i) d low = inr (among xs i d (omega arith))

-- what one of several texts was given
pub one_gave : {S : Type 0} (g : Ghosts S) (texts : List (Bor (List ℕ))) (i : ℕ) (d : Bor (List ℕ))
    → i < length texts → (old before new : Held S) → Survives (state g old) (state g before) (λ _. ⊥)
    → (fault : StoreFault) → IsToldOf (StatementGave (get_or texts i d).now [] (state g before) (state g new)) fault
    → IsToldOf (OneGave g (map (λ t. t.now) texts) old new) fault
one_gave g texts i d low old before new survives fault told =
    (told.0, told.1, record { text = (get_or texts i d).now; among = among texts i d low; before = before; survives = survives; gave = told.2 })

pub err_and : {A E : Type 0} (r : Result A E) {P Q : E → Type 0} → IsErrAnd r P → ((e : E) → P e → Q e) → IfErr r Q
err_and (Ok x) p to = tt
err_and (Err e) p to = to e p
