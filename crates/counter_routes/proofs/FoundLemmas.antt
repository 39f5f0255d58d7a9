-- What is found or is not, where the code makes an error of what is not.
use Rattle.shop_types.proofs.Common.{◌≡◌, sym, ap, Option, Some, None, ok_or, result_ok}
use Rattle.std.specs.Prelude.{Ok}

pub was_there : {A E : Type 0} (o : Option A) (e : E) (x : A) → Ok x ≡ ok_or o e → o ≡ Some x
was_there None e x h = sym (ap result_ok h)
was_there (Some y) e x h = sym (ap result_ok h)
