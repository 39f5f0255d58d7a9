use Rattle.shop_schema.proofs.MomentTexts.{no_moment}
use Rattle.shop_schema.proofs.read.moment_at.Goals as goal

pub returns-in-Err-clause-failed : goal.returns-in-Err-clause-failed
returns-in-Err-clause-failed c is m valid low = no_moment _ (λ t utf8. c.in-Err.ensures.failed is t utf8 low) m
