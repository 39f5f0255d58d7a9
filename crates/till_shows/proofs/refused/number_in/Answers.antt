use Rattle.shop_types.proofs.Common.{◌∙◌, ap, sym, decimal, same_text, other_text}
use Rattle.till_shows.proofs.NumberLemmas.{read_is, none_read, zero_text}
use Rattle.till_shows.proofs.refused.number_in.Goals as goal

pub returns-then-eq-clause-some : goal.returns-then-eq-clause-some
returns-then-eq-clause-some c = same_text c.args.digits.now c.as_slice.result.now c.if-eq.ensures ∙ c.as_slice.ensures ∙ sym zero_text

pub returns-in-Some-clause-some : goal.returns-in-Some-clause-some
returns-in-Some-clause-some c = read_is c.args.digits.now c.in-Some.number (sym c.in-Some.ensures) ∙ ap decimal (sym c.get.ensures.value)

pub returns-in-None-clause-none : goal.returns-in-None-clause-none
returns-in-None-clause-none c =
    none_read c.args.digits.now c.in-None.ensures (λ zero. other_text c.args.digits.now c.as_slice.result.now c.if-eq.ensures (zero ∙ sym c.as_slice.ensures))
