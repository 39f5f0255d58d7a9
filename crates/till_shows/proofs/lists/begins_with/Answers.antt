use Rattle.std.proofs.Common.{◌∙◌, sym}
use Rattle.till_shows.proofs.SoughtLemmas.{text_ends}
use Rattle.till_shows.proofs.lists.begins_with.Goals as goal

pub returns : goal.returns
returns c =
    c.is_empty.ensures ∙ sym (text_ends c.loop-t.left.now c.args.text.now c.loop-t.t-index c.loop-t-test.false)
    ∙ c.loop-t.invariant
