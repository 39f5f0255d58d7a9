use Rattle.shop_types.proofs.Common.{◌≡◌, Some, arith, iff_false, is_utf8-from_IsUtf8}
use Rattle.serde_json.specs.View.{view}
use Rattle.counter_routes.specs.Bodies.{body_of}
use Rattle.counter_routes.proofs.BodyLemmas.{body_of-None}
use Rattle.counter_routes.proofs.SizeLemmas.{body_size}
use Rattle.counter_routes.proofs.bodies.value_of.Goals as goal

pub returns-in-Ok-clause-ok : goal.returns-in-Ok-clause-ok
returns-in-Ok-clause-ok c =
    let text = is_utf8-from_IsUtf8 c.args.body.now c.in-Ok.ensures.ok.0 in
    rw text c.in-Ok.ensures.ok.1

pub returns-in-Err-2-clause-bad : goal.returns-in-Err-2-clause-bad
returns-in-Err-2-clause-bad c =
    λ _. body_of-None c.args.body.now (c.in-Err.ensures.err (iff_false c.is_memory.ensures c.if-is_memory.false))

pub returns-in-Ok-clause-small : goal.returns-in-Ok-clause-small
returns-in-Ok-clause-small c = λ few.
    let text = is_utf8-from_IsUtf8 c.args.body.now c.in-Ok.ensures.ok.0 in
    let is : body_of c.args.body.now ≡ Some (view c.in-Ok.value) = rw text c.in-Ok.ensures.ok.1 in
    omega (arith, few, body_size c.args.body.now (view c.in-Ok.value) is)
