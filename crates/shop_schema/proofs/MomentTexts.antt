-- The texts of moments, as columns have them.
use Rattle.shop_schema.proofs.Common.{◌≡◌, ◌≢◌, ℕ, List, sym, subst, IsUtf8, Value, Moment, moment_text, moment_text-utf8, moment_value}
use Rattle.sqlite.specs.declared.types.Value.TheVariants.{Text}

pub text_is_utf8 : (m : Moment) (t : List ℕ) → t ≡ moment_text m → IsUtf8 t
text_is_utf8 m t is = subst IsUtf8 (sym is) (moment_text-utf8 m)

pub no_moment : (v : Value) → ((t : List ℕ) → IsUtf8 t → v ≢ Text t) → (m : Moment) → v ≢ moment_value m
no_moment v none m = none (moment_text m) (moment_text-utf8 m)
