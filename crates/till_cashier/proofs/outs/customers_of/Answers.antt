use Rattle.std.proofs.Common.{◌≡◌, ℕ, List, Some, subst, arith}
use Rattle.serde_json.specs.View.{view}
use Rattle.shop_types.proofs.Common.{is_utf8-from_IsUtf8}
use Rattle.till_client.specs.Replies.{seen_answer}
use Rattle.till_shows.specs.Bodies.{body_of}
use Rattle.till_cashier.proofs.outs.customers_of.Goals as goal

pub returns-in-Ok-from_slice : goal.returns-in-Ok-from_slice
returns-in-Ok-from_slice g c =
    let list = view c.in-Ok-from_slice.list in
    let text = is_utf8-from_IsUtf8 c.as_slice.result.now c.in-Ok-from_slice.ensures.ok.0 in
    let read : body_of c.as_slice.result.now ≡ Some list = rw text c.in-Ok-from_slice.ensures.ok.1 in (
      seen_answer c.in-Ok.answer,
      c.in-Ok.ensures,
      omega (arith, c.if-answer-ne200.false),
      subst (λ (b : List ℕ). body_of b ≡ Some list) c.as_slice.ensures.value read,
    )
