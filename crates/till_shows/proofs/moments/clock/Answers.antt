use Rattle.shop_types.proofs.Common.{◌≡◌, ◌∙◌, ◌∷◌, ◌++◌, ◌/◌, ◌%◌, decimal, IfOk-weaker}
use Rattle.till_shows.proofs.MomentLemmas.{hour_digits, minute_digits}
use Rattle.till_shows.proofs.moments.clock.Goals as goal

pub returns : goal.returns
returns c =
    let m = c.args.moment in
    let hour : c.pair-hour.result ≡ m.hour =
    c.pair-hour.ensures m.hour (hour_digits m c.as_slice.result.now c.text-text.ensures.kind (c.as_slice.ensures ∙ c.text-text.ensures.value)) in
    let minute : c.pair-minute.result ≡ m.minute =
    c.pair-minute.ensures m.minute (minute_digits m c.as_slice-2.result.now c.text-text.ensures.kind (c.as_slice-2.ensures ∙ c.text-text.ensures.value)) in
    IfOk-weaker c.format.result _ _
    (λ s is. is ∙ (λ i. decimal (hour i / 10) ++ (decimal (hour i % 10) ++ 58 ∷ (decimal (minute i / 10) ++ decimal (minute i % 10))))) c.format.ensures.ok
