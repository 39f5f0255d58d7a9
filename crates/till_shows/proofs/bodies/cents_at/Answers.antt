use Rattle.shop_types.proofs.Common.{◌∙◌, ap, option_and_then}
use Rattle.till_shows.specs.Bodies.{cents_in}
use Rattle.till_shows.proofs.bodies.cents_at.Goals as goal

pub returns-in_err-get : goal.returns-in_err-get
returns-in_err-get c = c.from_residual.ensures ∙ ap (option_and_then cents_in) c.in_err-get.ensures

pub returns : goal.returns
returns c = c.as_i64.ensures ∙ ap (option_and_then cents_in) c.in_ok-get.ensures
