use Rattle.std.proofs.Common.{◌≡◌, ◌∙◌, ℕ, Bool, true, false, List, Option, Some, None, sym}
use Rattle.std.specs.Prelude.{Result, Ok, Err, OnOk, if◌then◌else◌}
use Rattle.std.specs.Result.{is_err}
use Rattle.shop_types.specs.Texts.{is_token}
use Rattle.till_program.proofs.secret.Secret.draw.Goals as goal

-- what was read is the bytes
read_is : (kind : Bool) (bytes secret : List ℕ) → ◌≡◌ {A = Option (List ℕ)} (Some secret) (if kind then Some bytes else None) → secret ≡ bytes
read_is true bytes secret is = cc
read_is false bytes secret is = absurd cc

done_so : {A E P : Type 0} (r : Result A E) → false ≡ is_err r → OnOk r P → P
done_so (Ok x) ok p = p
done_so (Err e) ok p = absurd cc

pub returns-in-Some : goal.returns-in-Some
returns-in-Some g c = (
  c.in_ok-a.a,
  c.in_ok-b.b,
  c.in_ok-a.ensures,
  c.in_ok-b.ensures,
  read_is (is_token c.as_slice.result.now) c.as_slice.result.now c.in-Some.secret (sym c.in-Some.is ∙ c.read.ensures)
      ∙ (c.as_slice.ensures ∙ done_so c.encode_to_slice.result c.if-is_err.ensures.value c.encode_to_slice.ensures.written),
)
