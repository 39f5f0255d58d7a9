-- The output of a row that is joined by a key, if the key has at most one row: `LEFT JOIN t ON t.number = key`.
use Rattle.shop_schema.proofs.Common.{◌≡◌, ◌&&◌, ℕ, List, [], ◌∷◌, ◌++◌, map, filter, true, Option, Some, None, sym, ap, subst, ◌∙◌, append-nil, inl, inr, ◌⊎◌}
use Rattle.shop_schema.proofs.Common.{option_to_list, flat_map, Null, or_null, column, or_nulls, HasRows, columns_of, number_value, or_blank, equals, few_list}
use Rattle.shop_schema.proofs.Common.{left_pair, left_no_pair, PicksOne, Row, is_row, at, numbered, at_one}
use Rattle.sqlite_value.specs.Order as sql
use Rattle.shop_schema.proofs.Numbers.{left_number, left_null}

-- what is so of none and of one is so of one at most
pub one_at_most : {A : Type 0} (P : List A → Type 0) → P [] → ((x : A) → P (x ∷ [])) → (l : List A) → (l ≡ []) ⊎ ((x : A) × (l ≡ x ∷ [])) → P l
one_at_most P none some l (inl is) = subst P (sym is) none
one_at_most P none some l (inr one) = subst P (sym one.1) (some one.0)

-- the output of no row, or of the only row
one_or_none : {A Z : Type 0} (width : ℕ) (columns : A → sql.Row) (gives : sql.Row → List Z) (P : List A → List Z → Type 0)
    → P [] (gives (Null ∷ columns_of width []))
    → ((x : A) → P (x ∷ []) (gives (Null ∷ columns x))) → (l : List A) → (l ≡ []) ⊎ ((x : A) × (l ≡ x ∷ []))
    → P l (flat_map (λ c. gives (Null ∷ c)) (or_blank width (map columns l)))
one_or_none width columns gives P none some =
    one_at_most (λ l. P l (flat_map (λ c. gives (Null ∷ c)) (or_blank width (map columns l))))
    (subst (P []) (sym (append-nil _)) none) (λ x. subst (P (x ∷ [])) (sym (append-nil _)) (some x))

-- ---- shared rows, by their numbers

module _ {A Z : Type 0} (width : ℕ) (columns : ℕ × A → sql.Row) (tree : List sql.Row) (xs : List A) (has : HasRows width tree (map columns (numbered xs)))
    (numbers : (it : ℕ × A) → column (columns it) 0 ≡ number_value it.0) (first : (r : sql.Row) → column r 1 ≡ column (columns_of width r) 0)
    (gives : sql.Row → List Z) (only : (r : sql.Row) → gives r ≡ gives (Null ∷ columns_of width r)) where
  pub by_number : (n : ℕ) (P : List A → List Z → Type 0) → P [] (gives (Null ∷ columns_of width [])) → ((x : A) → P (x ∷ []) (gives (Null ∷ columns (n, x))))
      → P (at n xs) (flat_map gives (or_nulls (filter (λ r. equals (column r 1) (number_value n) && true) tree)))
  by_number n P none some =
      subst (P (at n xs)) (sym (left_number width columns tree xs has numbers first gives only n))
      (one_or_none width (λ x. columns (n, x)) gives P none some (at n xs) (at_one n xs))

  -- there is one
  pub by_known : (n : ℕ) (x : A) → at n xs ≡ x ∷ []
      → flat_map gives (or_nulls (filter (λ r. equals (column r 1) (number_value n) && true) tree)) ≡ gives (Null ∷ columns (n, x)) ++ []
  by_known n x is =
      left_number width columns tree xs has numbers first gives only n
      ∙ ap (λ l. flat_map (λ c. gives (Null ∷ c)) (or_blank width (map (λ x. columns (n, x)) l))) is

  -- the key may be NULL
  pub by_option : (key : Option ℕ) (out : List A → List Z) → gives (Null ∷ columns_of width []) ≡ out []
      → ((n : ℕ) (x : A) → gives (Null ∷ columns (n, x)) ≡ out (x ∷ []))
      → flat_map gives (or_nulls (filter (λ r. equals (column r 1) (or_null number_value key) && true) tree))
      ≡ out (flat_map (λ n. at n xs) (option_to_list key))
  by_option None out none some = left_null width columns tree xs has numbers first gives only ∙ append-nil _ ∙ none
  by_option (Some n) out none some = by_number n (λ l given. given ≡ out l) none (some n) ∙ ap out (sym (append-nil (at n xs)))

-- ---- a branch's rows, by theirs

module _ {A Z : Type 0} (width : ℕ) (columns : Row A → sql.Row) (tree : List sql.Row) (rows : List (Row A)) (has : HasRows width tree (map columns rows))
    (gives : sql.Row → List Z) (only : (r : sql.Row) → gives r ≡ gives (Null ∷ columns_of width r))
    (branches : (row : Row A) → column (columns row) 0 ≡ number_value row.branch)
    (numbers : (row : Row A) → column (columns row) 1 ≡ number_value row.number) (first : (r : sql.Row) → column r 1 ≡ column (columns_of width r) 0)
    (second : (r : sql.Row) → column r 2 ≡ column (columns_of width r) 1) (b : ℕ) (once : (n : ℕ) → PicksOne (is_row b n) rows)
    (out : List (Row A) → List Z) (none : gives (Null ∷ columns_of width []) ≡ out [])
    (some : (row : Row A) → gives (Null ∷ columns row) ≡ out (row ∷ [])) where
  pub by_pair : (n : ℕ)
      → flat_map gives (or_nulls (filter (λ r. equals (column r 1) (number_value b) && (equals (column r 2) (number_value n) && true)) tree))
      ≡ out (filter (is_row b n) rows)
  by_pair n =
      left_pair width columns tree rows has gives only (λ row. row.branch) (λ row. row.number) branches numbers first second b n (once n)
      ∙ one_or_none width columns gives (λ l given. given ≡ out l) none some (filter (is_row b n) rows) (few_list (filter (is_row b n) rows) (once n))

  -- the second of the key may be NULL
  pub by_pair_option : (key : Option ℕ)
      → flat_map gives (or_nulls (filter (λ r. equals (column r 1) (number_value b) && (equals (column r 2) (or_null number_value key) && true)) tree))
      ≡ out (flat_map (λ n. filter (is_row b n) rows) (option_to_list key))
  by_pair_option None =
      left_no_pair width columns tree rows has gives only (λ row. row.branch) (λ row. row.number) branches numbers first second b ∙ append-nil _ ∙ none
  by_pair_option (Some n) = by_pair n ∙ ap out (sym (append-nil (filter (is_row b n) rows)))
