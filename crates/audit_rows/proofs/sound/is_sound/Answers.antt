use Rattle.shop_types.proofs.Common.{List, IsTrue, IfOk-weaker, Rules, Books, Consignment, IsSound, widest}
use Rattle.std.specs.Prelude.{◌↔◌}
use Rattle.audit_rows.specs.Ordered.{AreConsignmentsOf, HaveOrderedRows}
use Rattle.audit_rows.specs.Checked.{AreChecked}
use Rattle.audit_rows.proofs.SoundLemmas.{sound_from_checks, checks_from_sound}
use Rattle.audit_rows.proofs.sound.is_sound.Goals as goal

pub returns : goal.returns
returns c =
    let rows = c.args.books.now in
    IfOk-weaker c.are_checked.result (λ is. (its : List Consignment) → AreConsignmentsOf rows its → IsTrue is ↔ AreChecked rows its)
    (λ is. (rules : Rules) (whole : Books) → HaveOrderedRows rows whole → IsTrue is ↔ IsSound (widest rules) whole)
    (λ is h rules whole s. (
      λ yes. sound_from_checks rows whole c.requires s rules ((h whole.consignments s.consignments).0 yes),
      λ sound. (h whole.consignments s.consignments).1 (checks_from_sound rows whole c.requires s rules sound),
    )) c.are_checked.ensures
