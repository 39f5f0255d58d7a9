use Rattle.shop_types.proofs.Common.{◌∙◌, ap, fold, YieldsList-end}
use Rattle.std.proofs.lemmas.Iterator.Splits.{YieldsList-from_lines}
use Rattle.till_shows.specs.Slips.{no_slips, with_line, Slips}
use Rattle.till_shows.proofs.slips.last_slip.Goals as goal

pub returns : goal.returns
returns c =
    let end =
    YieldsList-end (YieldsList-from_lines c.args.text.now cc) c.loop-line.yielded _ c.loop-line.yielded_by _ _ c.in-None.is c.next.ensures.steps in
    ap (λ (slips : Slips). slips.last) (c.loop-line.invariant ∙ ap (fold with_line no_slips) end.0)
