-- A step that takes one row out, and may put another in at its rowid.
use Rattle.sql_rows.proofs.Common.{cases_Bool, inl, inr, ◌≡◌, ◌<ℤ◌, ℤ, List, [], ◌∷◌, filter, true, false, Bool, refl, sym, ap, subst, ◌∙◌, arith, IsTrue}
use Rattle.sql_rows.proofs.Common.{Greater, is_eq, int_cmp, AllByRecursion, ints, Int, Row, value_cmp, value_cmp-Int, rowid, has_rowid, put_row, without_rowid}
use Rattle.sql_rows.proofs.Common.{IsShaped, is_int, IsKeyedBy, update_where, delete_where, all-filter, Less-from_lt}
use Rattle.sqlite_trees.specs.declared.store.Shape.TheVariants.{Table as TableShape}
use Rattle.sql_rows.proofs.Appends.{int_is, id_of, ids_rise}

abbrev pub AreInts : List Row → Type 0
AreInts = AllByRecursion (λ r. IsTrue (is_int (rowid r)))

cmp_ids : (a b : Row) → IsTrue (is_int (rowid a)) → IsTrue (is_int (rowid b)) → value_cmp (rowid a) (rowid b) ≡ int_cmp (id_of a) (id_of b)
cmp_ids a b p q = (λ i. value_cmp (int_is (rowid a) p i) (int_is (rowid b) q i)) ∙ value_cmp-Int (id_of a) (id_of b)

pub has_id : (id : ℤ) (r : Row) → IsTrue (is_int (rowid r)) → has_rowid id r ≡ is_eq (int_cmp (id_of r) id)
has_id id r p = ap is_eq ((λ i. value_cmp (int_is (rowid r) p i) (Int id)) ∙ value_cmp-Int (id_of r) id)

pub apart_up : (a b : ℤ) → a <ℤ b → is_eq (int_cmp b a) ≡ false
apart_up a b h = grind (arith, ints)

pub apart_down : (a b : ℤ) → a <ℤ b → is_eq (int_cmp a b) ≡ false
apart_down a b h = grind (arith, ints)

pub same_id : (a : ℤ) → is_eq (int_cmp a a) ≡ true
same_id a = grind (arith, ints)

greater : (a b : ℤ) → a <ℤ b → int_cmp b a ≡ Greater
greater a b h = grind (arith, ints)

-- none of the later rows has the id
pub spared : (id : ℤ) (rows : List Row) → AreInts rows → AllByRecursion (λ r. id <ℤ id_of r) rows → without_rowid id rows ≡ rows
spared id [] all up = refl
spared id (r ∷ rows) all up = rw (has_id id r all.0, apart_up id (id_of r) up.0, spared id rows all.1 up.1)

goes_first : (new : Row) (rows : List Row) → IsTrue (is_int (rowid new)) → AreInts rows
    → AllByRecursion (λ r. id_of new <ℤ id_of r) rows → put_row new rows ≡ new ∷ rows
goes_first new [] is all up = refl
goes_first new (r ∷ rows) is all up = rw (cmp_ids r new all.0 is, greater (id_of new) (id_of r) up.0)

module _ (p : Row → Bool) (f : Row → Row) (keeps : (r : Row) → id_of (f r) ≡ id_of r) (ints_stay : (r : Row) → IsTrue (is_int (rowid (f r)))) where
  pub unpicked : (rows : List Row) → filter p rows ≡ [] → update_where p f rows ≡ rows
  unpicked [] none = refl
  unpicked (r ∷ rows) none = elim (cases_Bool (p r)) [
    | inl hit ↦ let some : r ∷ filter p rows ≡ [] = rw hit at none in cc
    | inr miss ↦ rw miss (ap (λ l. r ∷ l) (unpicked rows (rw miss at none)))
  ]

  set_one : (rows : List Row) (x : Row) → AreInts rows → IsKeyedBy id_of rows
      → filter p rows ≡ x ∷ [] → put_row (f x) (without_rowid (id_of x) rows) ≡ update_where p f rows
  set_one [] x all up one = cc
  set_one (r ∷ rows) x all up one = elim (cases_Bool (p r)) [
    | inl hit ↦
        let h : r ∷ filter p rows ≡ x ∷ [] = rw hit at one in
        let is : r ≡ x = cc in
        let none : filter p rows ≡ [] = cc in
        let id = id_of r in
        let out : without_rowid id (r ∷ rows) ≡ rows = rw (has_id id r all.0, same_id id) (spared id rows all.1 up.0) in
        let first : put_row (f r) rows ≡ f r ∷ rows =
        goes_first (f r) rows (ints_stay r) all.1 (subst (λ (n : ℤ). AllByRecursion (λ y. n <ℤ id_of y) rows) (sym (keeps r)) up.0) in
        rw hit (subst (λ y. put_row (f y) (without_rowid (id_of y) (r ∷ rows)) ≡ f r ∷ update_where p f rows) is (rw (out, first, unpicked rows none)))
    | inr miss ↦
        let h : filter p rows ≡ x ∷ [] = rw miss at one in
        let lows : AllByRecursion (λ y. id_of r <ℤ id_of y) (x ∷ []) =
        subst (AllByRecursion (λ y. id_of r <ℤ id_of y)) h (all-filter (λ y. id_of r <ℤ id_of y) p rows up.0) in
        let low = lows.0 in
        rw
        (miss, has_id (id_of x) r all.0, apart_down (id_of r) (id_of x) low, cmp_ids r (f x) all.0 (ints_stay x), keeps x, Less-from_lt (id_of r) (id_of x) low)
        (ap (λ l. r ∷ l) (set_one rows x all.1 up.1 h))
  ]

  pub sets_one : (rows : List Row) (x : Row) → IsShaped TableShape rows → filter p rows ≡ x ∷ []
      → put_row (f x) (without_rowid (id_of x) rows) ≡ update_where p f rows
  sets_one rows x shaped one = set_one rows x shaped.1 (ids_rise rows shaped) one

-- ---- the rows that are left

module _ (p : Row → Bool) where
  pub none_dropped : (rows : List Row) → filter p rows ≡ [] → delete_where p rows ≡ rows
  none_dropped [] h = refl
  none_dropped (r ∷ rows) none = elim (cases_Bool (p r)) [
    | inl hit ↦ let some : r ∷ filter p rows ≡ [] = rw hit at none in cc
    | inr miss ↦ rw miss (ap (λ l. r ∷ l) (none_dropped rows (rw miss at none)))
  ]

  pub drop_one : (rows : List Row) (x : Row) → AreInts rows → IsKeyedBy id_of rows → filter p rows ≡ x ∷ [] → without_rowid (id_of x) rows ≡ delete_where p rows
  drop_one [] x all up one = cc
  drop_one (r ∷ rows) x all up one = elim (cases_Bool (p r)) [
    | inl hit ↦
        let h : r ∷ filter p rows ≡ x ∷ [] = rw hit at one in
        let head : r ≡ x = cc in
        let tail : filter p rows ≡ [] = cc in
        let out : without_rowid (id_of r) (r ∷ rows) ≡ rows = rw (has_id (id_of r) r all.0, same_id (id_of r)) (spared (id_of r) rows all.1 up.0) in
        rw hit (subst (λ y. without_rowid (id_of y) (r ∷ rows) ≡ delete_where p rows) head (out ∙ sym (none_dropped rows tail)))
    | inr miss ↦
        let h : filter p rows ≡ x ∷ [] = rw miss at one in
        let lows : AllByRecursion (λ y. id_of r <ℤ id_of y) (x ∷ []) =
        subst (AllByRecursion (λ y. id_of r <ℤ id_of y)) h (all-filter (λ y. id_of r <ℤ id_of y) p rows up.0) in
        rw (miss, has_id (id_of x) r all.0, apart_down (id_of r) (id_of x) lows.0) (ap (λ l. r ∷ l) (drop_one rows x all.1 up.1 h))
  ]
