use Rattle.shop_types.proofs.Common.{[], ◌∷◌, ◌∙◌, ap, sym, bytes_eq, are_different}
use Rattle.audit_rows.specs.declared.shop.OpenKey.{OpenKey}
use Rattle.audit_rows.proofs.Keys.{different-map}
use Rattle.audit_rows.proofs.shop.are_held_once.Goals as goal

pub returns : goal.returns
returns c =
    c.are_distinct.ensures.distinct ∙ sym (different-map bytes_eq (λ (row : OpenKey). row.copy ∷ []) c.in_ok-keys.keys.items)
    ∙ ap (are_different bytes_eq) c.in_ok-keys.ensures
