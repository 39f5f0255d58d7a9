use Rattle.std.proofs.Common.{◌∙◌, sym, map}
use Rattle.audit_rows.specs.Lists.{same_lists}
use Rattle.audit_rows.proofs.Bags.{bag_from_order, order_from_bag}
use Rattle.audit_rows.proofs.order.same_bag.Goals as goal

pub returns : goal.returns
returns g c =
    let is = c.same_keys.ensures ∙ (λ i. same_lists (map g.T.Keyed.key (c.as_slice.ensures.value i)) (map g.T.Keyed.key (c.as_slice-2.ensures.value i))) in (
      λ h.
          bag_from_order g.T.Keyed.key _ _ _ _ c.sort_rows.ensures.permutation c.sort_rows-2.ensures.permutation
          c.sort_rows.ensures.sorted c.sort_rows-2.ensures.sorted (sym is ∙ h),
      λ h.
          is
          ∙ order_from_bag g.T.Keyed.key _ _ _ _ c.sort_rows.ensures.permutation
          c.sort_rows-2.ensures.permutation c.sort_rows.ensures.sorted c.sort_rows-2.ensures.sorted h,
    )
