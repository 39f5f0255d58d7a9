-- The values of the fields of a name, one field more.
use Rattle.std.proofs.Common.{◌≡◌, ℕ, ◌+◌, ◌<◌, List, [], ◌∷◌, ◌++◌, take, map, length, get_or, refl, ap, true, false, cond, Bool, sym}
use Rattle.std.proofs.lemmas.List.{take_more, map-append}
use Rattle.http_messages.specs.Message.{Pair, values_of, same_name}

pub values_of-snoc : (name : List ℕ) (ps : List Pair) (p : Pair)
    → values_of name (ps ++ p ∷ []) ≡ values_of name ps ++ values_of name (p ∷ [])
values_of-snoc name [] p = refl
values_of-snoc name (q ∷ ps) p =
    elim (same_name q.0 name) as (λ b. cond b (q.1 ∷ values_of name (ps ++ p ∷ [])) (values_of name (ps ++ p ∷ []))
    ≡ cond b (q.1 ∷ values_of name ps) (values_of name ps) ++ values_of name (p ∷ [])) [
      | true ↦ ap (λ vs. q.1 ∷ vs) (values_of-snoc name ps p)
      | false ↦ values_of-snoc name ps p
    ]

pub values_of-more : {A : Type 0} (f : A → Pair) (name : List ℕ) (xs : List A) (i : ℕ) (d : A) → i < length xs
    → values_of name (map f (take (i + 1) xs)) ≡ values_of name (map f (take i xs)) ++ values_of name (f (get_or xs i d) ∷ [])
values_of-more f name xs i d h =
    rw (take_more xs i d h, map-append f (take i xs) (get_or xs i d ∷ [])) (values_of-snoc name (map f (take i xs)) (f (get_or xs i d)))

pub values_of-one : (name : List ℕ) (p : Pair) (b : Bool) → b ≡ same_name p.0 name
    → values_of name (p ∷ []) ≡ cond b (p.1 ∷ []) []
values_of-one name p b e = ap (λ t. cond t (p.1 ∷ []) []) (sym e)
