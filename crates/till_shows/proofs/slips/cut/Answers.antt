use Rattle.shop_types.proofs.Common.{◌∙◌, ap, sym, map-id, fold, YieldsList-from_chars, YieldsList-end}
use Rattle.till_shows.specs.Slips.{nothing_cut, with_char, CutLine}
use Rattle.till_shows.proofs.slips.cut.Goals as goal

pub returns : goal.returns
returns c =
    let end =
    YieldsList-end (YieldsList-from_chars c.args.text.now c.utf8.text cc) c.loop-c.yielded _ c.loop-c.yielded_by _ _ c.in-None.is c.next.ensures.steps in
    ap (λ (cut : CutLine). cut.text) (c.loop-c.invariant ∙ ap (fold with_char nothing_cut) (sym (map-id c.loop-c.yielded) ∙ end.0))
