use Rattle.shop_schema.proofs.Common.{◌≡◌, ◌∙◌, ◌∷◌, [], ℕ, Bool, true, false, Some, None, ap, sym, if◌then◌else◌, done}
use Rattle.sql_rows.proofs.Chaining.{one_call}
use Rattle.std.specs.Prelude.{◌==◌}
use Rattle.branch_work.proofs.adding.next_number.Goals as goal

number_some : (x n : ℕ) → Some x ≡ (if n == 0 then None else Some n) → x ≡ n
number_some x n is = go (n == 0) is
  where
    go : (t : Bool) → Some x ≡ (if t then None else Some n) → x ≡ n
    go true e = cc
    go false e = cc

pub returns-in-Some : goal.returns-in-Some
returns-in-Some g c = done (one_call c.in_ok-number.ensures.does) (λ said counts books holds given.
    let taken = said counts books holds given in
    (taken.0, taken.1 ∙ ap (λ (m : ℕ). m ∷ []) (sym (number_some c.in-Some.number c.in_ok-number.number c.in-Some.ensures))))
