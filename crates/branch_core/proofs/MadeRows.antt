-- Rows that a branch gets one after another, with its next numbers.
use Rattle.shop_types.proofs.Common.{◌≡◌, ◌∙◌, refl, sym, ap, ℕ, suc, ◌+◌, List, [], ◌∷◌, ◌++◌, length, arith, append_assoc, append-nil, length-append}
use Rattle.shop_types.proofs.Common.{AllByRecursion, Row, of, next, put_all, put_own}
use Rattle.shop_model.specs.Rows.{put}
use Rattle.branch_core.specs.Consigned.{made_from}

next_after : {A : Type 0} (b : ℕ) (make : ℕ → A) (rows : List (Row A)) → next b (put b make rows) ≡ next b rows + 1
next_after {A} b make rows =
    let own = ap (λ (its : List A). length its) (put_own b make rows) in
    let more = length-append (of b rows) (make (next b rows) ∷ []) in
    omega (arith, own, more)

pub made_put : {A : Type 0} (b : ℕ) (makes : List (ℕ → A)) (rows : List (Row A)) → rows ++ made_from b (next b rows) makes ≡ put_all b makes rows
made_put b [] rows = append-nil rows
made_put {A} b (make ∷ makes) rows =
    let row : Row A = record { branch = b; number = next b rows; it = make (next b rows) } in
    let grown : List (Row A) = put b make rows in
    sym (append_assoc rows (row ∷ []) (made_from b (next b rows + 1) makes))
    ∙ ap (λ (n : ℕ). grown ++ made_from b n makes) (sym (next_after b make rows))
    ∙ made_put b makes grown

-- they are the branch's
pub made_own : {A : Type 0} (b first : ℕ) (makes : List (ℕ → A)) → AllByRecursion (λ (row : Row A). row.branch ≡ b) (made_from b first makes)
made_own b first [] = tt
made_own b first (make ∷ makes) = (refl, made_own b (first + 1) makes)

pub length_made : {A : Type 0} (b first : ℕ) (makes : List (ℕ → A)) → length (made_from b first makes) ≡ length makes
length_made b first [] = refl
length_made b first (make ∷ makes) = ap (λ (n : ℕ). suc n) (length_made b (first + 1) makes)
