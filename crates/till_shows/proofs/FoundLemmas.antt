-- What is found in a body or isn't, and an error that is passed on.
use Rattle.shop_types.proofs.Common.{◌≡◌, ◌∙◌, List, ℕ, refl, sym, ap, Option, Some, None, inl, inr, cases_Bool, IsUtf8-from_is_utf8, Result, IfErr, IsUtf8}
use Rattle.shop_types.proofs.Common.{option_map, option_and_then, IsErrAnd, is_utf8}
use Rattle.std.specs.Prelude.{Ok, Err, OnOk}
use Rattle.serde_json.specs.Read.{read}
use Rattle.till_shows.specs.Bodies.{body_of}

pub body_of-None : (body : List ℕ) → (IsUtf8 body → read body ≡ None) → body_of body ≡ None
body_of-None body h = elim (cases_Bool (is_utf8 body)) [
  | inl e ↦ rw e (h (IsUtf8-from_is_utf8 body e))
  | inr e ↦ rw e refl
]

pub handed_on : {T E : Type 0} {W : Type 0} {bad : E} (e : E) (r : Result T E) → IsErrAnd r (λ y. y ≡ e) → (e ≡ bad → W) → IfErr r (λ f. f ≡ bad → W)
handed_on e (Ok x) is h = absurd is
handed_on e (Err y) is h = λ b. h (sym is ∙ b)

pub if_err : {T E : Type 0} (r : Result T E) (P Q : E → Type 0) → ((e : E) → P e → Q e) → IfErr r P → IfErr r Q
if_err (Ok x) P Q f h = tt
if_err (Err e) P Q f h = f e h

-- ---- what is read from a body, step by step

pub told : {A B C : Type 0} (g : B → C) (f : A → Option B) (o : Option A) (a : A) (b : B)
    → o ≡ Some a → Some b ≡ f a → option_map g (option_and_then f o) ≡ Some (g b)
told {A} g f o a b p q = ap (λ (x : Option A). option_map g (option_and_then f x)) p ∙ ap (option_map g) (sym q)

pub no_member : {A B C : Type 0} (g : B → C) (f : A → Option B) (o : Option A) (a : A) → o ≡ Some a → None ≡ f a → option_map g (option_and_then f o) ≡ None
no_member {A} g f o a p q = ap (λ (x : Option A). option_map g (option_and_then f x)) p ∙ ap (option_map g) (sym q)

pub no_value : {A B C : Type 0} (g : B → C) (f : A → Option B) (o : Option A) → o ≡ None → option_map g (option_and_then f o) ≡ None
no_value {A} g f o p = ap (λ (x : Option A). option_map g (option_and_then f x)) p

pub on_ok : {T E : Type 0} (r : Result T E) (P Q : Type 0) → (P → Q) → OnOk r P → OnOk r Q
on_ok (Ok x) P Q f h = f h
on_ok (Err e) P Q f h = tt
