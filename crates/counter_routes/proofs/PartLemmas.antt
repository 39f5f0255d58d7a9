-- What the proofs on the parts of a path cite: a part that is of its form is ASCII, and so UTF-8.
use Rattle.shop_types.proofs.Common.{◌≡◌, ℕ, List, false, subst, arith, None, false_from_ne_true, IsUtf8, moment_text-utf8, is_key}
use Rattle.shop_types.proofs.AsciiTexts.{key_is_utf8}
use Rattle.counter_routes.specs.Moments.{moment_of}
use Rattle.counter_routes.proofs.MomentLemmas.{read_is}

pub no_key : (bytes : List ℕ) → ¬ (IsUtf8 bytes) → is_key bytes ≡ false
no_key bytes h = false_from_ne_true _ (λ e. h (key_is_utf8 bytes e))

pub no_moment : (bytes : List ℕ) → ¬ (IsUtf8 bytes) → None ≡ moment_of bytes
no_moment bytes h = read_is None bytes _ (λ m _ e. h (subst IsUtf8 e (moment_text-utf8 m)))
