-- Whether the first row is a count.
use Rattle.shop_schema.proofs.Common.{◌≡◌, ◌≤◌, ℕ, List, [], ◌∷◌, length, Option, Some, None, inl, inr, refl, sym, ap, ◌∙◌, arith, slice_get}
use Rattle.shop_schema.proofs.Common.{AllByRecursion, column, State, number_value, same_number, StoreFault, Failed, TellsFirst}
use Rattle.sqlite_value.specs.Order.{Row}
use Rattle.sql_rows.specs.Causes.{FailsToRead}
use Rattle.shop_schema.specs.Asked.{FailsToCount, ShowsNoCount}
use Rattle.shop_ledger.specs.Asked.{ShowsCount}

-- a number that isn't read is no count
pub count_unread : {Fails : Row → StoreFault → Type 0} (sql : List ℕ) (params : Row) (old new : State)
    → ((row : Row) (fault : StoreFault) → Fails row fault → fault ≡ Failed → ¬ ShowsCount row)
    → (fault : StoreFault) → FailsToRead Fails sql params old new fault → FailsToCount sql params old new fault
count_unread sql params old new refuses fault (inl told) = inl told
count_unread sql params old new refuses fault (inr h) = inr (
  h.0,
  h.1,
  λ failed row first n few is.
      let same : h.2.0 ≡ row = (let other = h.2.1 in cc) in
      refuses h.2.0 fault h.2.2 failed (n, omega arith, same ∙ is),
)

-- the number that was read is that of the first row
pub count_read : {Fits : Row → ℕ → Type 0} → ((row : Row) (n : ℕ) → Fits row n → column row 0 ≡ number_value n)
    → (rows : List Row) (found : Option ℕ) → TellsFirst Fits rows found
    → (row : Row) → Some row ≡ slice_get rows 0 → (n : ℕ) → row ≡ number_value n ∷ [] → found ≡ Some n
count_read fits rows None told row first n is = absurd (let none = told in cc)
count_read fits rows (Some m) told row first n is =
    let same : told.0 ≡ row = (let other = told.1 in cc) in
    ap Some (same_number m n (sym (fits told.0 m told.2) ∙ ap (λ (r : Row). column r 0) (same ∙ is)))

-- the first of some rows that all show this count is one
pub count_there : (n : ℕ) → n ≤ 1_000_000 → (rows : List Row) → 1 ≤ length rows → AllByRecursion (λ vs. vs ≡ number_value n ∷ []) rows → ¬ ShowsNoCount rows
count_there n few [] low all none = absurd (omega (arith, low))
count_there n few (row ∷ rows) low all none = none row refl n few all.0
