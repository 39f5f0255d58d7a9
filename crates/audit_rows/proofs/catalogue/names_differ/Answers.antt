use Rattle.shop_types.proofs.Common.{◌∙◌, ap, sym, bytes_eq, are_different}
use Rattle.audit_rows.specs.declared.catalogue.NameKey.{NameKey}
use Rattle.audit_rows.proofs.Keys.{different-map}
use Rattle.audit_rows.proofs.catalogue.names_differ.Goals as goal

pub returns : goal.returns
returns c =
    c.are_distinct.ensures.distinct ∙ sym (different-map bytes_eq (λ (row : NameKey). row.name.now) c.in_ok-keys.keys.items)
    ∙ ap (are_different bytes_eq) c.in_ok-keys.ensures
