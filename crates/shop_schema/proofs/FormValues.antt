-- What the parts of a form hold, by their kinds: two forms of the same kinds are one exactly where their parts hold the same.
use Rattle.shop_schema.proofs.Common.{◌≡◌, ◌↔◌, ℕ, ◌==◌, ◌&&◌, List, [], ◌∷◌, ◌++◌, Bool, true, false, Option, Some, None, refl, ap, bytes_eq, bytes_eq-Decides}
use Rattle.shop_schema.proofs.Common.{and_parts, Text, same_option, same_numbers, same_if, equal_test, bytes_same, option_same, flag_same, subst, number_form}
use Rattle.shop_schema.proofs.Common.{text_form, numbers_form, option_form, flag_form}
use Rattle.shop_model.specs.Shop.{same_flag}
use Rattle.shop_schema.proofs.FormLemmas.{number_ends, text_ends, numbers_ends, option_ends, flag_ends}

pub data Kind : Type 0 where
  Number : Kind
  Bytes : Kind
  Numbers : Kind
  Perhaps : Kind
  Flag : Kind

abbrev pub Of : Kind → Type 0
Of Number = ℕ
Of Bytes = Text
Of Numbers = List ℕ
Of Perhaps = Option ℕ
Of Flag = Bool

abbrev pub Values : List Kind → Type 0
Values [] = Unit {0}
Values (k ∷ ks) = Of k × Values ks

-- ---- their forms

abbrev pub form : (k : Kind) → Of k → List ℕ
form Number n = number_form n
form Bytes t = text_form t
form Numbers ns = numbers_form ns
form Perhaps o = option_form o
form Flag b = flag_form b

abbrev pub forms : (ks : List Kind) → Values ks → List ℕ
forms [] v = []
forms (k ∷ ks) v = form k v.0 ++ forms ks v.1

ends : (k : Kind) (a b : Of k) (r s : List ℕ) → form k a ++ r ≡ form k b ++ s → (a ≡ b) × (r ≡ s)
ends Number a b r s h = number_ends a b r s h
ends Bytes a b r s h = text_ends a b r s h
ends Numbers a b r s h = numbers_ends a b r s h
ends Perhaps a b r s h = option_ends a b r s h
ends Flag a b r s h = flag_ends a b r s h

pub values_are : (ks : List Kind) (v w : Values ks) → forms ks v ≡ forms ks w → v ≡ w
values_are [] v w h = refl
values_are (k ∷ ks) v w h =
    let first = ends k v.0 w.0 (forms ks v.1) (forms ks w.1) h in
    let more = values_are ks v.1 w.1 first.1 in
    λ i. (first.0 i, more i)

-- ---- whether they are the same

abbrev pub same : (k : Kind) → Of k → Of k → Bool
same Number a b = a == b
same Bytes a b = bytes_eq a b
same Numbers a b = same_numbers a b
same Perhaps a b = same_option a b
same Flag a b = same_flag a b

abbrev pub same_from : Bool → (ks : List Kind) → Values ks → Values ks → Bool
same_from so [] v w = so
same_from so (k ∷ ks) v w = same_from (so && same k v.0 w.0) ks v.1 w.1

abbrev pub same_values : (ks : List Kind) → Values ks → Values ks → Bool
same_values [] v w = true
same_values (k ∷ ks) v w = same_from (same k v.0 w.0) ks v.1 w.1

pub text_equal : (t u : Text) → bytes_eq t u ≡ true → t ≡ u
text_equal t u h = (bytes_eq-Decides t u).0 h

pub option_equal : (o p : Option ℕ) → same_option o p ≡ true → o ≡ p
option_equal None None h = refl
option_equal None (Some n) h = cc
option_equal (Some m) None h = cc
option_equal (Some m) (Some n) h = ap Some (same_if m n h)

pub flag_equal : (a b : Bool) → same_flag a b ≡ true → a ≡ b
flag_equal true true h = refl
flag_equal false false h = refl
flag_equal true false h = cc
flag_equal false true h = cc

equal : (k : Kind) (a b : Of k) → same k a b ≡ true → a ≡ b
equal Number a b h = same_if a b h
equal Bytes a b h = text_equal a b h
equal Numbers a b h = text_equal a b h
equal Perhaps a b h = option_equal a b h
equal Flag a b h = flag_equal a b h

alike : (k : Kind) (a : Of k) → same k a a ≡ true
alike Number a = equal_test a a refl
alike Bytes a = bytes_same a
alike Numbers a = bytes_same a
alike Perhaps a = option_same a
alike Flag a = flag_same a

equal_from : (so : Bool) (ks : List Kind) (v w : Values ks) → same_from so ks v w ≡ true → (so ≡ true) × (v ≡ w)
equal_from so [] v w h = (h, refl)
equal_from so (k ∷ ks) v w h =
    let more = equal_from (so && same k v.0 w.0) ks v.1 w.1 h in
    let first = and_parts so (same k v.0 w.0) more.0 in
    let is = equal k v.0 w.0 first.1 in
    (first.0, λ i. (is i, more.1 i))

alike_from : (so : Bool) (ks : List Kind) (v : Values ks) → so ≡ true → same_from so ks v v ≡ true
alike_from so [] v h = h
alike_from so (k ∷ ks) v h = alike_from (so && same k v.0 v.0) ks v.1 (λ i. h i && alike k v.0 i)

pub values_equal : (ks : List Kind) (v w : Values ks) → same_values ks v w ≡ true → v ≡ w
values_equal [] v w h = refl
values_equal (k ∷ ks) v w h =
    let more = equal_from (same k v.0 w.0) ks v.1 w.1 h in
    let is = equal k v.0 w.0 more.0 in
    λ i. (is i, more.1 i)

values_alike : (ks : List Kind) (v : Values ks) → same_values ks v v ≡ true
values_alike [] v = refl
values_alike (k ∷ ks) v = alike_from (same k v.0 v.0) ks v.1 (alike k v.0)

-- ---- what is made of such values
pub by_form : {A : Type 0} (ks : List Kind) (make : Values ks → A) (v w : Values ks) → forms ks v ≡ forms ks w → make v ≡ make w
by_form ks make v w h = ap make (values_are ks v w h)

pub by_test : {A : Type 0} (ks : List Kind) (make : Values ks → A) (v w : Values ks) → same_values ks v w ≡ true → make v ≡ make w
by_test ks make v w h = ap make (values_equal ks v w h)

-- ---- forms that the same byte tells

abbrev pub behind : List ℕ → List ℕ
behind [] = []
behind (x ∷ xs) = xs

pub one_form : (n : ℕ) (ks : List Kind) (v w : Values ks) → (n ∷ forms ks v ≡ n ∷ forms ks w) ↔ (same_values ks v w ≡ true)
one_form n ks v w = (
  λ h. let is = values_are ks v w (ap behind h) in subst (λ (u : Values ks). same_values ks v u ≡ true) is (values_alike ks v),
  λ h. ap (λ (u : Values ks). n ∷ forms ks u) (values_equal ks v w h),
)

-- and what is made of them is one, by their forms or as they are the same
pub made_one : {A : Type 0} (n : ℕ) (ks : List Kind) (make : Values ks → A) (v w : Values ks)
    → (n ∷ forms ks v ≡ n ∷ forms ks w → make v ≡ make w) × (same_values ks v w ≡ true → make v ≡ make w)
made_one n ks make v w = (λ h. by_form ks make v w (ap behind h), by_test ks make v w)
