use Rattle.shop_types.proofs.Common.{◌∙◌, ap, sym, map, drop_more, drop_all, row_number_of}
use Rattle.till_words.proofs.TextLemmas.{number_more, no_number, all_read}
use Rattle.till_words.proofs.texts.all_numbers.Goals as goal

pub returns-in_default : goal.returns-in_default
returns-in_default g c = no_number _ _ _ _ _ (ap (map (λ s. s.now)) (drop_more c.args.pieces.now c.loop-piece.piece-index _ c.loop-piece-test.true))
    (ap row_number_of (sym c.as_bytes.ensures.value) ∙ sym c.read.ensures ∙ c.in_default.is) c.loop-piece.invariant

pub loop-piece-preserved : goal.loop-piece-preserved
loop-piece-preserved g c = number_more _ _ _ _ _ _ _ (ap (map (λ s. s.now)) (drop_more c.args.pieces.now c.loop-piece.piece-index _ c.loop-piece-test.true))
    (ap row_number_of (sym c.as_bytes.ensures.value) ∙ sym c.read.ensures ∙ c.in-Some.is) c.in_ok-push.ensures.items c.loop-piece.invariant

pub returns : goal.returns
returns g c = all_read _ _ _ (ap (map (λ s. s.now)) (drop_all c.loop-piece.piece-index c.args.pieces.now c.loop-piece-test.false)) c.loop-piece.invariant
