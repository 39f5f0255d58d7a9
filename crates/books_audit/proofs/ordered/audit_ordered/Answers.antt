use Rattle.shop_schema.proofs.Common.{◌↔◌, IsTrue, Bool, subst, sym, IsSound, widest}
use Rattle.books_audit.proofs.ordered.audit_ordered.Goals as goal

pub returns : goal.returns
returns c = record {
  sound =
      λ rules whole has. subst (λ (b : Bool). IsTrue b ↔ IsSound (widest rules) whole) (sym c.counted.ensures.sound) (c.in_ok-sound.ensures rules whole has);
  counts = rw (c.as_slice-copies.ensures.value, c.as_slice-lines.ensures.value) at c.counted.ensures.counts;
}
