-- What holds of a result that is passed on.
use Rattle.shop_schema.proofs.Common.{◌≡◌, Ok, Err, Result, sym, subst, IfOk, IfErr, IsErrAnd}

-- what holds of an error holds of the error that is passed on
pub refused_by : {X E : Type 0} (r : Result X E) (P : E → Type 0) (e : E) → P e → IsErrAnd r (λ y. y ≡ e) → IfErr r P
refused_by (Ok x) P e p is = absurd is
refused_by (Err y) P e p is = subst P (sym is) p

pub ok_then : {A E : Type 0} (r : Result A E) {P Q : A → Type 0} → IfOk r P → ((x : A) → P x → Q x) → IfOk r Q
ok_then (Ok x) h f = f x h
ok_then (Err e) h f = tt
