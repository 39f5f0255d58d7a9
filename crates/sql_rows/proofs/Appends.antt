-- Rowids that rise, and values that a column takes as they are.
use Rattle.sql_rows.proofs.Common.{◌≡◌, ℤ, ◌<ℤ◌, List, [], ◌∷◌, true, false, Bool, cond, ◌&&◌, refl, sym, subst, ◌∙◌, IsTrue, Less, AllByRecursion, and_parts}
use Rattle.sql_rows.proofs.Common.{Value, Null, Int, Real, Text, Blob, Row, value_cmp, value_cmp-Int, rowid, IsShaped, is_int, id_in, cast, cast_all, IsKeyedBy}
use Rattle.sql_rows.proofs.Common.{lt_from_Less}
use Rattle.sqlite_trees.specs.declared.store.Shape.TheVariants.{Table as TableShape}
use Rattle.sqlite_schema.specs.declared.schema.Kind.{Kind}
use Rattle.sqlite_schema.specs.declared.schema.Kind.TheVariants as kind
use Rattle.sqlite_schema.specs.declared.schema.Column.{Column}
use Rattle.sqlite_sql.specs.Ops.{unary}
use Rattle.sqlite_keyed.proofs.ListLemmas.{all_both}

pub int_is : (v : Value) → IsTrue (is_int v) → v ≡ Int (id_in v)
int_is Null h = cc
int_is (Int n) h = refl
int_is (Real x) h = cc
int_is (Text t) h = cc
int_is (Blob b) h = cc

abbrev pub id_of : Row → ℤ
id_of r = id_in (rowid r)

below_id : (a b : Row) → IsTrue (is_int (rowid a)) → IsTrue (is_int (rowid b)) → value_cmp (rowid a) (rowid b) ≡ Less → id_of a <ℤ id_of b
below_id a b p q h =
    lt_from_Less _ _
    (sym (value_cmp-Int (id_of a) (id_of b))
    ∙ subst (λ v. value_cmp v (Int (id_of b)) ≡ Less) (int_is _ p) (subst (λ v. value_cmp (rowid a) v ≡ Less) (int_is _ q) h))

ids_above : (x : Row) (rows : List Row) → IsTrue (is_int (rowid x)) → AllByRecursion (λ r. IsTrue (is_int (rowid r))) rows
    → AllByRecursion (λ r. value_cmp (rowid x) (rowid r) ≡ Less) rows
    → AllByRecursion (λ r. id_of x <ℤ id_of r) rows
ids_above x rows p =
    all_both (λ (r : Row). IsTrue (is_int (rowid r))) (λ r. value_cmp (rowid x) (rowid r) ≡ Less) (λ r. id_of x <ℤ id_of r) (λ r q. below_id x r p q) rows

pub ids_rise : (rows : List Row) → IsShaped TableShape rows → IsKeyedBy id_of rows
ids_rise [] h = tt
ids_rise (r ∷ rows) h = (ids_above r rows h.1.0 h.1.1 h.0.0, ids_rise rows (h.0.1, h.1.1))

-- ---- values that a column takes as they are

abbrev pub is_kept : Kind → Value → Bool
is_kept kind.Integer (Int n) = true
is_kept kind.Integer Null = true
is_kept kind.Text (Text t) = true
is_kept kind.Text Null = true
is_kept kind.Blob v = true
is_kept kind.Any v = true
is_kept _ v = false

abbrev pub are_kept : List Column → Row → Bool
are_kept [] [] = true
are_kept [] (v ∷ vs) = false
are_kept (c ∷ cs) [] = false
are_kept (c ∷ cs) (v ∷ vs) = is_kept c.kind v && are_kept cs vs

same : (b : Bool) (v : Value) → cond b v v ≡ v
same true v = refl
same false v = refl

pub cast_null : cast kind.Integer Null ≡ Null
unfolding unary
cast_null = same _ Null

pub cast_int : (n : ℤ) → cast kind.Integer (Int n) ≡ Int n
unfolding unary
cast_int n = same _ (Int n)

cast_kept : (k : Kind) (v : Value) → is_kept k v ≡ true → cast k v ≡ v
cast_kept kind.Integer Null h = cast_null
cast_kept kind.Integer (Int n) h = cast_int n
cast_kept kind.Integer (Real x) h = cc
cast_kept kind.Integer (Text t) h = cc
cast_kept kind.Integer (Blob b) h = cc
cast_kept kind.Real v h = cc
cast_kept kind.Text Null h = refl
cast_kept kind.Text (Int n) h = cc
cast_kept kind.Text (Real x) h = cc
cast_kept kind.Text (Text t) h = refl
cast_kept kind.Text (Blob b) h = cc
cast_kept kind.Blob v h = refl
cast_kept kind.Any v h = refl

pub cast_all_kept : (cs : List Column) (vs : Row) → are_kept cs vs ≡ true → cast_all cs vs ≡ vs
cast_all_kept [] vs h = refl
cast_all_kept (c ∷ cs) [] h = refl
cast_all_kept (c ∷ cs) (v ∷ vs) h =
    let parts = and_parts (is_kept c.kind v) (are_kept cs vs) h in (λ i. cast_kept c.kind v parts.0 i ∷ cast_all_kept cs vs parts.1 i)
