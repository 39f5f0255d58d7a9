use Rattle.shop_schema.proofs.Common.{◌≡◌, ◌∙◌, inl, inr, refl, sym, ap, ℕ, Bool, true, false, not, List, [], ◌∷◌, length, bytes_eq, AllByRecursion, list_any}
use Rattle.shop_schema.proofs.Common.{cases_Bool, bytes_eq-Decides, State, number_value, Rentals, column, col, number_test, number_tested, text_test}
use Rattle.shop_schema.proofs.Common.{text_tested, two_tested, rental_columns, Moment, IsMoment, moment_text, same_moment, Row, is_of, of, Rental, bytes_same}
use Rattle.shop_schema.proofs.Common.{moment_same, IsRow, IsRental, Reads}
use Rattle.std.specs.Prelude.{◌==◌, ◌&&◌, ◌||◌}
use Rattle.std.proofs.lemmas.Bool.{true≢false}
use Rattle.sqlite.specs.declared.types.Value.TheVariants.{Text}
use Rattle.sqlite_value.specs.Order as sql
use Rattle.sqlite_tied.specs.Compute.{everything}
use Rattle.sqlite.specs.Listing.{understood}
use Rattle.sqlite.specs.State.{Shown}
use Rattle.shop_schema.proofs.OneToOne.{one_moment, moment_equal}
use Rattle.shop_store.specs.declared.rentals.TheConstants.{SELECT_SAME_RENTAL}
use Rattle.shop_ledger.proofs.Equals.{equals}
use Rattle.shop_store.proofs.Whether.{reads_any, any_own, tells}
use Rattle.shop_store.proofs.rentals.has_rental.Goals as goal

-- two moments are the same exactly if their texts are the same
text_of_same : (a m : Moment) → IsMoment a → IsMoment m → bytes_eq (moment_text a) (moment_text m) ≡ same_moment a m
text_of_same a m p q = elim (cases_Bool (bytes_eq (moment_text a) (moment_text m))) [
  | inl same ↦
      let text : moment_text a ≡ moment_text m = (bytes_eq-Decides (moment_text a) (moment_text m)).0 same in
      let is : a ≡ m = one_moment a m p q text in
      same ∙ sym (ap (λ (it : Moment). same_moment it m) is ∙ moment_same m)
  | inr other ↦ elim (cases_Bool (same_moment a m)) [
    | inl equal ↦
        let is : a ≡ m = moment_equal a m equal in
        absurd (true≢false (sym (bytes_same (moment_text m)) ∙ sym (ap (λ (it : Moment). bytes_eq (moment_text it) (moment_text m)) is) ∙ other))
    | inr differ ↦ other ∙ sym differ
  ]
]

abbrev its : Moment → ℕ → ℕ → Rental → Bool
its m x c it = same_moment it.rented m && it.copy == x && it.customer == c

-- a rental by all that no two share, the moment by its text
abbrev is_same : ℕ → List ℕ → ℕ → ℕ → Row Rental → Bool
is_same b t x c row = row.branch == b && (bytes_eq (moment_text row.it.rented) t && (row.it.copy == x && row.it.customer == c))

-- of rows of moments it is that by the moment
same_as : (b : ℕ) (m : Moment) (x c : ℕ) → IsMoment m → (rows : List (Row Rental)) → AllByRecursion (IsRow IsRental) rows
    → list_any (is_same b (moment_text m) x c) rows ≡ list_any (λ row. row.branch == b && its m x c row.it) rows
same_as b m x c real [] all = refl
same_as b m x c real (row ∷ rows) all =
    let text = text_of_same row.it.rented m all.0.2.rented real in
    λ i.
    (row.branch == b
    && (ap (λ (u : Bool). u && (row.it.copy == x && row.it.customer == c)) text
    ∙ nested (same_moment row.it.rented m) (row.it.copy == x) (row.it.customer == c))
    i)
    || same_as b m x c real rows all.1 i
  where
    nested : (p q r : Bool) → (p && (q && r)) ≡ (p && q && r)
    nested true q r = refl
    nested false q r = refl

reads : (old new : State) (b : ℕ) (m : Moment) (x c : ℕ) → IsMoment m → (rows : List sql.Row)
    → Shown SELECT_SAME_RENTAL.now (number_value b ∷ Text (moment_text m) ∷ number_value x ∷ number_value c ∷ []) old new rows
    → Reads old new
    (λ books. not (length rows == 0) ≡ list_any (λ (it : Rental). same_moment it.rented m && it.copy == x && it.customer == c) (of b books.rentals))
unfolding understood everything
reads old new b m x c real rows h books holds held =
    let t : List ℕ = moment_text m in
    let found =
    reads_any SELECT_SAME_RENTAL.now 27 7 (equals 0 (1 ∷ 3 ∷ 4 ∷ 5 ∷ [])) (col 1 2 ∷ [])
    (record { names = _; is = refl; plain = (refl, refl); unlisted = refl }) (λ books. rental_columns) (λ books. books.rentals) (λ books trees s. s.rentals)
    (number_value b ∷ Text t ∷ number_value x ∷ number_value c ∷ [])
    (λ vs. number_test 0 b vs && (text_test 2 t vs && (number_test 3 x vs && (number_test 4 c vs && true)))) (λ vs. column vs 1 ∷ []) (is_same b t x c)
    (λ books row i.
    number_tested row.branch b i
    && (text_tested (moment_text row.it.rented) t i && two_tested _ _ (number_tested row.it.copy x) (number_tested row.it.customer c) i))
    (λ r. refl) old new rows h books holds held in (
      found.0,
      found.1 ∙ same_as b m x c real books.rentals (held.values.rows Rentals) ∙ any_own (is_of b) (λ (row : Row Rental). row.it) (its m x c) books.rentals,
    )

pub returns : goal.returns
returns g c =
    let shown =
    rw (
      c.to_sql.ensures,
      c.get.ensures.value,
      c.to_sql-2.ensures,
      c.as_str.ensures,
      c.of-text.ensures,
      c.to_sql-3.ensures,
      c.get-2.ensures.value,
      c.to_sql-4.ensures,
      c.get-3.ensures.value,
    )
    at c.shows_row.ensures.does in
    tells _ _ shown (reads _ _ c.args.branch c.args.rented c.args.copy c.args.customer c.text-real.ensures.kind)
