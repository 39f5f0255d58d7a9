use Rattle.shop_types.proofs.Common.{◌≡◌, ◌∙◌, ◌∷◌, ◌++◌, decimal, IfOk-weaker}
use Rattle.till_shows.specs.Times.{month_name}
use Rattle.till_shows.proofs.MomentLemmas.{day_digits}
use Rattle.till_shows.proofs.moments.day_words.Goals as goal

pub returns : goal.returns
returns c =
    let text = c.as_slice.ensures ∙ c.text-text.ensures.value in
    let day : c.pair-day.result ≡ c.args.moment.day =
    c.pair-day.ensures c.args.moment.day (day_digits c.args.moment c.as_slice.result.now c.text-text.ensures.kind text) in
    let month : c.month_name-month.result.now ≡ month_name c.args.moment.month = c.month_name-month.ensures ∙ (λ i. month_name (c.month.ensures.value i)) in
    IfOk-weaker c.format.result _ _ (λ s is. is ∙ (λ i. decimal (day i) ++ 32 ∷ (month i ++ 32 ∷ decimal (c.year-year.ensures.value i)))) c.format.ensures.ok
