use Rattle.shop_types.proofs.Common.{◌∙◌, ap, sym, map-id, fold, chars, YieldsList-from_chars, YieldsList-end}
use Rattle.till_words.specs.PromptLine.{beginning, read_char, LineSplit}
use Rattle.till_words.specs.Seen.{seen_split}
use Rattle.till_words.proofs.PromptLemmas.{ends_open, ends_closed}
use Rattle.till_words.proofs.lines.words_of.Goals as goal

pub returns-then-reading : goal.returns-then-reading
returns-then-reading c =
    let end =
    YieldsList-end (YieldsList-from_chars c.args.line.now c.utf8.line cc) c.loop-c.yielded _ c.loop-c.yielded_by _ _ c.in-None.is c.next.ensures.steps in
    ends_open (seen_split c.loop-c.reading) (fold read_char beginning (chars c.args.line.now))
    (c.loop-c.invariant ∙ ap (fold read_char beginning) (sym (map-id c.loop-c.yielded) ∙ end.0)) c.if-reading.true

pub returns : goal.returns
returns c =
    let end =
    YieldsList-end (YieldsList-from_chars c.args.line.now c.utf8.line cc) c.loop-c.yielded _ c.loop-c.yielded_by _ _ c.in-None.is c.next.ensures.steps in
    ends_closed (seen_split c.loop-c.reading) (fold read_char beginning (chars c.args.line.now)) _
    (c.loop-c.invariant ∙ ap (fold read_char beginning) (sym (map-id c.loop-c.yielded) ∙ end.0)) c.if-reading.false
    (ap (λ (r : LineSplit). r.words) c.in_ok-end_word.ensures)
