use Rattle.shop_types.proofs.Common.{iff_false, is_utf8-from_IsUtf8}
use Rattle.till_shows.proofs.FoundLemmas.{body_of-None}
use Rattle.till_shows.proofs.bodies.value_of.Goals as goal

pub returns-in-Ok-clause-shown : goal.returns-in-Ok-clause-shown
returns-in-Ok-clause-shown c =
    let text = is_utf8-from_IsUtf8 c.args.body.now c.in-Ok.ensures.ok.0 in
    rw text c.in-Ok.ensures.ok.1

pub returns-in-Err-2-clause-other : goal.returns-in-Err-2-clause-other
returns-in-Err-2-clause-other c =
    λ _. body_of-None c.args.body.now (c.in-Err.ensures.err (iff_false c.is_memory.ensures c.if-is_memory.false))
