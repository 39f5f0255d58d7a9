-- Tests of columns by a number, a text or a range of texts, and columns that may be NULL.
use Rattle.sql_rows.proofs.Common.{◌≡◌, ◌==◌, ◌&&◌, ℕ, pos, Bool, true, false, Option, Some, None, List, refl, sym, ap, is_eq, is_lt, ◌∙◌, nat_cmp, is_ge}
use Rattle.sql_rows.proofs.Common.{Value, Int, Text, Null, or_null, Row, column, Binary, value_cmp-Text, Compare, Eq, Lt, Ge, is_true, number_value, flag_value}
use Rattle.std.specs.Str.{bytes_eq}
use Rattle.std.specs.Cmp.Lexicographic.{slice_cmp}
use Rattle.std.proofs.lemmas.Map.Text.{is_eq-slice_cmp}
use Rattle.sqlite_schema.specs.declared.schema.Kind.TheVariants as kind
use Rattle.sqlite_sql.specs.Ops.{binary}
use Rattle.sqlite_tied.proofs.RuleLemmas.{and_true}
use Rattle.sql_rows.proofs.Appends.{is_kept}
use Rattle.sql_rows.proofs.Queries.{equal_numbers, truth_of}

-- `column = number` and `column = text`, as WHERE has them, of the columns without the rowid
abbrev pub number_test : ℕ → ℕ → Row → Bool
number_test at n vs = is_true (binary (Compare Eq Binary) (column vs at) (Int (pos n)))

abbrev pub text_test : ℕ → List ℕ → Row → Bool
text_test at t vs = is_true (binary (Compare Eq Binary) (column vs at) (Text t))

pub number_tested : (m n : ℕ) → is_true (binary (Compare Eq Binary) (number_value m) (number_value n)) ≡ (m == n)
number_tested = equal_numbers

-- the same of a row's column whose number is known
pub test_of : (vs : Row) (at m n : ℕ) → column vs at ≡ number_value m → number_test at n vs ≡ (m == n)
test_of vs at m n is = ap (λ v. is_true (binary (Compare Eq Binary) v (Int (pos n)))) is ∙ number_tested m n

pub text_tested : (s t : List ℕ) → is_true (binary (Compare Eq Binary) (Text s) (Text t)) ≡ bytes_eq s t
unfolding binary
text_tested s t = truth_of _ ∙ ap is_eq (value_cmp-Text s t) ∙ is_eq-slice_cmp s t

-- `column >= text` and `column < text`, by the order of bytes
abbrev pub from_test : ℕ → List ℕ → Row → Bool
from_test at t vs = is_true (binary (Compare Ge Binary) (column vs at) (Text t))

abbrev pub before_test : ℕ → List ℕ → Row → Bool
before_test at t vs = is_true (binary (Compare Lt Binary) (column vs at) (Text t))

pub from_tested : (s t : List ℕ) → is_true (binary (Compare Ge Binary) (Text s) (Text t)) ≡ is_ge (slice_cmp nat_cmp s t)
unfolding binary
from_tested s t = truth_of _ ∙ ap is_ge (value_cmp-Text s t)

pub before_tested : (s t : List ℕ) → is_true (binary (Compare Lt Binary) (Text s) (Text t)) ≡ is_lt (slice_cmp nat_cmp s t)
unfolding binary
before_tested s t = truth_of _ ∙ ap is_lt (value_cmp-Text s t)

-- a key of one column, and keys of two
pub one_tested : {a : Bool} (x : Bool) → x ≡ a → (x && true) ≡ a
one_tested x h = and_true x ∙ h

pub two_tested : {a b : Bool} (x y : Bool) → x ≡ a → y ≡ b → (x && (y && true)) ≡ (a && b)
two_tested x y g h = (λ i. g i && one_tested y h i)

pub three_tested : {a b c : Bool} (x y z : Bool) → x ≡ a → y ≡ b → z ≡ c → (x && (y && (z && true))) ≡ (a && b && c)
three_tested {a} {b} {c} x y z g h k = (λ i. g i && two_tested y z h k i) ∙ nested a b c
  where
    nested : (a b c : Bool) → (a && (b && c)) ≡ (a && b && c)
    nested true b c = refl
    nested false b c = refl

-- ---- a column has one value

pub same_number : (m n : ℕ) → number_value m ≡ number_value n → m ≡ n
same_number m n h = cc

pub same_flag : (a b : Bool) → flag_value a ≡ flag_value b → a ≡ b
same_flag true true h = refl
same_flag false false h = refl
same_flag true false h = cc
same_flag false true h = cc

pub same_or_null : {X : Type 0} (f : X → Value) → ((x : X) → f x ≡ Null → ⊥)
    → ((x y : X) → f x ≡ f y → x ≡ y) → (a b : Option X) → or_null f a ≡ or_null f b → a ≡ b
same_or_null f some one None None h = refl
same_or_null f some one None (Some y) h = absurd (some y (sym h))
same_or_null f some one (Some x) None h = absurd (some x h)
same_or_null f some one (Some x) (Some y) h = ap Some (one x y h)

-- ---- a column takes it as it is

pub kept_or_null : {X : Type 0} (f : X → Value) → ((x : X) → is_kept kind.Text (f x) ≡ true) → (o : Option X) → is_kept kind.Text (or_null f o) ≡ true
kept_or_null f kept None = refl
kept_or_null f kept (Some x) = kept x

pub number_or_null : (o : Option ℕ) → is_kept kind.Integer (or_null number_value o) ≡ true
number_or_null None = refl
number_or_null (Some n) = refl
