use Rattle.shop_types.proofs.Common.{◌∙◌, ap, sym, bytes_eq, are_different}
use Rattle.audit_rows.specs.declared.catalogue.TokenKey.{TokenKey}
use Rattle.audit_rows.specs.declared.rows.CheckedBranch.{CheckedBranch}
use Rattle.audit_rows.proofs.Keys.{different-map}
use Rattle.audit_rows.proofs.catalogue.tokens_differ.Goals as goal

pub returns : goal.returns
returns c =
    c.are_distinct.ensures.distinct ∙ sym (different-map bytes_eq (λ (row : TokenKey). row.token) c.in_ok-keys.keys.items)
    ∙ ap (are_different bytes_eq) c.in_ok-keys.ensures ∙ different-map bytes_eq (λ (row : CheckedBranch). row.token) c.args.branches.now
