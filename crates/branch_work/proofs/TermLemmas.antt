-- Each rental still has its terms after a rental is added with its terms, and after a rental is changed.
use Rattle.shop_schema.proofs.Common.{◌≡◌, ℕ, List, [], ◌∷◌, ◌++◌, Bool, true, false, cond, map, refl, sym, subst, subst₂, IsPermutation, map_push}
use Rattle.shop_schema.proofs.Common.{IsPermutation-refl, IsPermutation-append, Row, is_row, set_row, Rental, Terms, Books, AreTermed}

abbrev key : {A : Type 0} → Row A → List ℕ
key row = row.branch ∷ row.number ∷ []

pub more_termed : (b m n : ℕ) (it : Rental) (terms : Terms) (books : Books) → m ≡ n → AreTermed books
    → AreTermed (record books {
      rentals = books.rentals ++ record { branch = b; number = n; it = it } ∷ [];
      terms = books.terms ++ record { branch = b; number = m; it = terms } ∷ [];
    })
more_termed b m n it terms books same termed =
    let one : IsPermutation ((b ∷ m ∷ []) ∷ []) ((b ∷ n ∷ []) ∷ []) =
    subst (λ (k : ℕ). IsPermutation ((b ∷ m ∷ []) ∷ []) ((b ∷ k ∷ []) ∷ [])) same (IsPermutation-refl ((b ∷ m ∷ []) ∷ [])) in
    subst₂ IsPermutation (sym (map_push (key {A = Terms}) books.terms (record { branch = b; number = m; it = terms })))
    (sym (map_push (key {A = Rental}) books.rentals (record { branch = b; number = n; it = it })))
    (IsPermutation-append _ _ _ _ termed one)

keys_stay : (b n : ℕ) (f : Rental → Rental) (rows : List (Row Rental)) → map key (set_row b n f rows) ≡ map key rows
keys_stay b n f [] = refl
keys_stay b n f (row ∷ rows) = λ i. same (is_row b n row) i ∷ keys_stay b n f rows i
  where
    same : (t : Bool) → key (cond t (record row { it = f row.it }) row) ≡ key row
    same true = refl
    same false = refl

pub set_termed : (b n : ℕ) (f : Rental → Rental) (books : Books) → AreTermed books → AreTermed (record books { rentals = set_row b n f books.rentals })
set_termed b n f books termed =
    subst (λ (ks : List (List ℕ)). IsPermutation (map (key {A = Terms}) books.terms) ks) (sym (keys_stay b n f books.rentals)) termed
