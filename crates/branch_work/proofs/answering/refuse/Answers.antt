use Rattle.shop_schema.proofs.Common.{refl, BadCsv, seen_refusal}
use Rattle.branch_reports.proofs.Decisions.{refused_told, refused_by}
use Rattle.branch_work.proofs.answering.refuse.Goals as goal

pub returns-in-Ok-clause-decided : goal.returns-in-Ok-clause-decided
returns-in-Ok-clause-decided c = refused_told _ (seen_refusal (BadCsv c.in-BadCsv.fault)) c.in-Ok.ensures refl

pub returns-in_default-clause-decided : goal.returns-in_default-clause-decided
returns-in_default-clause-decided c = refused_by _ (seen_refusal c.args.refusal) _ c.refused.ensures c.status.ensures c.if-status-eq503.false
