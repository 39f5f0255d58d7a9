use Rattle.std.proofs.Common.{◌≡◌, length}
use Rattle.audit_rows.specs.Lists.{front_of, back_of}
use Rattle.audit_rows.specs.Tables.{is_in, lent_rows, each}
use Rattle.audit_rows.proofs.branches.take_branch.Goals as goal

pub returns-clause-part : goal.returns-clause-part
returns-clause-part c = λ i. record {
  rows = λ t. each (λ t. lent_rows c.split.result.0 t ≡ front_of (is_in c.args.branch) (lent_rows c.args.rest.rows t)) c.split.ensures.front t i;
  lots = length (c.split_branch.ensures.front i);
  kept = length (c.split_branch-2.ensures.front i);
  sent = length (c.split_branch-3.ensures.front i);
}

pub returns-clause-more : goal.returns-clause-more
returns-clause-more c = record {
  rows = each (λ t. lent_rows c.split.result.1 t ≡ back_of (is_in c.args.branch) (lent_rows c.args.rest.rows t)) c.split.ensures.back;
  lots = c.split_branch.ensures.back;
  kept = c.split_branch-2.ensures.back;
  headers = c.split_branch-3.ensures.back;
}
