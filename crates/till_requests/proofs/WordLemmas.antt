-- Words as a JSON list of texts.
use Rattle.shop_types.proofs.Common.{◌≡◌, ◌≤◌, ℕ, List, [], ◌∷◌, refl, sym, map, subst, arith, IsUtf8, Result, IfOk, is_utf8-from_IsUtf8, Text}
use Rattle.std.specs.Prelude.{Some, Ok, Err, IfErr, IsErrAnd}
use Rattle.serde_json.specs.Data.{Data, string, array, depth, items_depth}
use Rattle.serde_json.specs.Read.{read, max_depth}
use Rattle.serde_json.specs.View.{items_of}
use Rattle.counter_routes.specs.Words.{texts_in, texts_of}

-- the texts of a list are the texts from which it was made
pub texts_are : (texts : List Text) → texts_in (items_of (map string texts)) ≡ Some texts
texts_are [] = refl
texts_are (text ∷ texts) = rw (texts_are texts) refl

-- no item of such a list is a list or an object
pub flat : (texts : List Text) → items_depth (items_of (map string texts)) ≡ 0
flat [] = refl
flat (text ∷ texts) = rw (flat texts) refl

-- the texts are read back from the text of such a list
pub texts_told : (body : List ℕ) (vs : List Data) (texts : List Text) → vs ≡ map string texts → IsUtf8 body
    → (depth (array (items_of vs)) ≤ max_depth → read body ≡ Some (array (items_of vs))) → texts_of body ≡ Some texts
texts_told body vs texts same utf8 back =
    let P : List Data → Type 0 = λ l. depth (array (items_of l)) ≤ max_depth → read body ≡ Some (array (items_of l)) in
    let none = flat texts in
    let whole : read body ≡ Some (array (items_of (map string texts))) = subst P same back (omega (arith, none)) in
    rw (is_utf8-from_IsUtf8 body utf8, whole) (texts_are texts)

pub both_ok : {A E : Type 0} (r : Result A E) (P Q R : A → Type 0) → ((a : A) → P a → Q a → R a) → IfOk r P → IfOk r Q → IfOk r R
both_ok (Ok a) P Q R f p q = f a p q
both_ok (Err e) P Q R f p q = tt

-- what holds of a fault holds of a result that hands it on
pub handed_on : {A E : Type 0} (r : Result A E) (e : E) (P : E → Type 0) → IsErrAnd r (λ y. y ≡ e) → P e → IfErr r P
handed_on (Ok a) e P is holds = absurd is
handed_on (Err y) e P is holds = subst P (sym is) holds
