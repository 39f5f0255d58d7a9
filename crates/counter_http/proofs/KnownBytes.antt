-- What reads do, one after another.
use Rattle.shop_types.proofs.Common.{◌≡◌, ℕ, ◌+◌, ◌-◌, ◌≤◌, arith, zero-add, List, ◌++◌, sym, ap, ◌∙◌, length, take, drop, subst, drop-take, length-drop}
use Rattle.shop_types.proofs.Common.{copy_within, paste, take-append-add, take-append-le, length-take-le}
use Rattle.std.proofs.lemmas.List.Edits.{take-paste}

pub filled_more : (xs buf after : List ℕ) (f n : ℕ) → f ≤ length xs → n ≤ length buf
    → take (f + n) (take f xs ++ (buf ++ after)) ≡ take f xs ++ take n buf
filled_more xs buf after f n inside fits =
    let P : ℕ → Type 0 = λ j. take (j + n) (take f xs ++ (buf ++ after)) ≡ take f xs ++ take n (buf ++ after) in
    let joined : take (f + n) (take f xs ++ (buf ++ after)) ≡ take f xs ++ take n (buf ++ after) =
    subst P (length-take-le f xs inside) (take-append-add (take f xs) (buf ++ after) n) in
    joined ∙ ap (λ l. take f xs ++ l) (take-append-le n buf after fits)
