use Rattle.shop_types.proofs.Common.{◌≡◌, ◌∙◌, ◌<◌, length, drop, false, sym, arith, take_rest}
use Rattle.till_shows.specs.Lists.{begins_with}
use Rattle.till_shows.proofs.ListLemmas.{stands_later}
use Rattle.till_shows.proofs.lists.stands_in.Goals as goal

pub loop-at-preserved : goal.loop-at-preserved
loop-at-preserved c =
    let text = c.args.text.now in
    let at = c.loop-at.at in
    let within : at < length text = omega arith in
    let rest = take_rest text at in
    let no : begins_with c.args.part.now (drop at text) ≡ false = cc in
    sym (stands_later c.args.part.now text at within no) ∙ c.loop-at.invariant
