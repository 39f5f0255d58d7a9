use Rattle.shop_model.proofs.Common.{true, false, ◌≡◌, ◌∙◌, sym, ap, subst, bytes_eq-Decides, IsMoment, moment_text}
use Rattle.shop_types.proofs.MomentLemmas.{parts_read}
use Rattle.shop_types.proofs.moment.Moment.read.Goals as goal

pub returns-else-eq-clause-none : goal.returns-else-eq-clause-none
returns-else-eq-clause-none c m h e =
    let is = parts_read m c.as_bytes-bytes.result.now _ _ _ _ _ _ _ h (e ∙ sym c.as_bytes-bytes.ensures.value)
    c.pair.ensures c.pair-2.ensures c.pair-3.ensures c.pair-4.ensures c.pair-5.ensures c.pair-6.ensures c.pair-7.ensures in
    let same : c.in-Some.moment ≡ m = c.in-Some.ensures.some.0 ∙ sym is in
    let texts : c.as_slice.result.now ≡ c.as_bytes-bytes.result.now =
    c.as_slice.ensures ∙ c.text.ensures.value ∙ ap moment_text same ∙ e ∙ sym c.as_bytes-bytes.ensures.value in
    let hit = (bytes_eq-Decides c.as_slice.result.now c.as_bytes-bytes.result.now).1 texts in
    let bad : true ≡ false = sym hit ∙ sym c.if-eq.ensures in cc

pub returns-in-None-clause-none : goal.returns-in-None-clause-none
returns-in-None-clause-none c m h e =
    let is = parts_read m c.as_bytes-bytes.result.now _ _ _ _ _ _ _ h (e ∙ sym c.as_bytes-bytes.ensures.value)
    c.pair.ensures c.pair-2.ensures c.pair-3.ensures c.pair-4.ensures c.pair-5.ensures c.pair-6.ensures c.pair-7.ensures in
    c.in-None.ensures.none (subst IsMoment is h)
