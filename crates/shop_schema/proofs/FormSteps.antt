-- A form that grows by parts.
use Rattle.shop_schema.proofs.Common.{◌≡◌, ◌∙◌, sym, ap, ℕ, List, ◌++◌, append_assoc, flat_map-append, joined}

-- some parts, and then more of them
pub then_more : (begin middle end : List ℕ) (ps qs : List (List ℕ)) → middle ≡ begin ++ joined ps → end ≡ middle ++ joined qs → end ≡ begin ++ joined (ps ++ qs)
then_more begin middle end ps qs first more =
    more ∙ ap (λ (it : List ℕ). it ++ joined qs) first ∙ append_assoc begin (joined ps) (joined qs)
    ∙ ap (λ (it : List ℕ). begin ++ it) (sym (flat_map-append (λ part. part) ps qs))
