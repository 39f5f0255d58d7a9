use Rattle.std.specs.Prelude.{None, Some}
use Rattle.shop_schema.proofs.MomentTexts.{no_moment}
use Rattle.shop_schema.proofs.read.moment_or_null_at.Goals as goal

pub returns-in-Err-clause-failed : goal.returns-in-Err-clause-failed
returns-in-Err-clause-failed c is None valid low = c.in-Err.ensures.failed is None tt low
returns-in-Err-clause-failed c is (Some m) valid low = no_moment _ (λ t utf8. c.in-Err.ensures.failed is (Some t) utf8 low) m
