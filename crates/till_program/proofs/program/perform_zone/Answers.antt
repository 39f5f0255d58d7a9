use Rattle.std.proofs.Common.{◌≡◌, List, ℕ, string_bytes, subst}
use Rattle.std.specs.Prelude.{IfOk}
use Rattle.till_cashier.specs.ZoneText.{IsZoneText}
use Rattle.till_program.specs.Lines.{HasZone}
use Rattle.till_program.proofs.LineLaws.{zone_performed}
use Rattle.till_program.proofs.OutputLaws.{said_done}
use Rattle.till_program.proofs.program.perform_zone.Goals as goal

pub returns-clause-done : goal.returns-clause-done
returns-clause-done g c =
    let set = subst (λ (zone : List ℕ). IfOk c.set_zone-said.result (λ x. HasZone zone c.set_zone-said.new.held)) c.as_str.ensures.value
    c.set_zone-said.ensures.set in
    zone_performed c.set_zone-said.result c.print.result c.print.ensures.done c.set_zone-said.ensures.sets c.set_zone-said.ensures.fails set

pub returns-clause-shown : goal.returns-clause-shown
returns-clause-shown g c =
    let said = subst (λ (zone : List ℕ). IfOk c.set_zone-said.result (λ said. IsZoneText zone (string_bytes said.text) × (said.status ≡ 0)))
    c.as_str.ensures.value c.set_zone-said.ensures.said in
    said_done c.set_zone-said.result _ _ _ _ said c.print.ensures.shown
