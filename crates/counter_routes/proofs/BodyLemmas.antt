-- What the proofs on bodies cite.
use Rattle.shop_types.proofs.Common.{◌≡◌, ℕ, List, [], ◌∷◌, length, refl, ap, Some, None, suc, inl, inr, cases_Bool, IsUtf8-from_is_utf8, is_utf8, String}
use Rattle.shop_types.proofs.Common.{IsUtf8, Global}
use Rattle.std.specs.Prelude.{◌==◌}
use Rattle.serde_json.specs.Data.{Data}
use Rattle.serde_json.specs.Find.{as_object}
use Rattle.serde_json.specs.Read.{read}
use Rattle.serde_json.specs.View.{members_view}
use Rattle.serde_json.specs.declared.value.Value.{Value}
use Rattle.counter_routes.specs.Bodies.{count, has_members, body_of}

count_view : (es : List (String Global × Value)) → count (members_view es) ≡ length es
count_view [] = refl
count_view (e ∷ es) = ap (λ n. suc n) (count_view es)

pub has_members-view : (n len : ℕ) (d : Data) (es : List (String Global × Value)) → Some (members_view es) ≡ as_object d → len ≡ length es
    → (len == n) ≡ has_members n d
has_members-view n len d es e l = rw (← e, count_view es, ← l) refl

pub body_of-None : (body : List ℕ) → (IsUtf8 body → read body ≡ None) → body_of body ≡ None
body_of-None body h = elim (cases_Bool (is_utf8 body)) [
  | inl e ↦ rw e (h (IsUtf8-from_is_utf8 body e))
  | inr e ↦ rw e refl
]
