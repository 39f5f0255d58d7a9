-- A book that was found: it was looked at, got a zone, or failed.
use Rattle.std.proofs.Common.{◌≡◌, ◌∙◌, Bool, true, Option, Some, None, ap, string_bytes, subst, sym}
use Rattle.std.specs.Prelude.{Result, Ok, Err, IfOk}
use Rattle.shop_model.specs.Values.{Text}
use Rattle.sqlite.specs.Files.{file_state}
use Rattle.sqlite.specs.State.{HasCleanDisk}
use Rattle.till_book.specs.Steps.{Stays}
use Rattle.till_requests.specs.declared.zones.Zone.{Zone}
use Rattle.till_cashier.specs.declared.said.Said.{Said}
use Rattle.till_cashier.specs.ZoneText.{IsZoneText, zone_name}
use Rattle.till_program.specs.declared.opening.OpenBook.{OpenBook}
use Rattle.till_program.specs.Lines.{SetsZone, SetsZoneIn}
use Rattle.till_program.specs.Performing.{IsFound, IsLeft}
use Rattle.till_program.specs.Serving.{IsLooked}

pub looked_at : (held : Option OpenBook) (before after : OpenBook) → held ≡ Some before → after.tools ≡ before.tools
    → (HasCleanDisk (file_state after.conn) → Stays (file_state before.conn) (file_state after.conn)) → IsLooked held (Some after)
looked_at held before after is tools stays = subst (λ (it : Option OpenBook). IsLooked it (Some after)) (sym is) (tools, stays)

pub zone_set : (name : Text) (held : Option OpenBook) (found after : OpenBook) → IsFound name held found → SetsZone found after
    → SetsZoneIn name held (Some after)
zone_set name held found after is sets = (found, is, sets)

pub left_failed : (Does : Bool → OpenBook → OpenBook → Type 0) (found last : OpenBook) (now : Option OpenBook) → now ≡ None → Does true found last
    → IsLeft Does found now
left_failed Does found last now none does = subst (λ (it : Option OpenBook). IsLeft Does found it) (sym none) (last, does)

-- the sentence has the name of the zone that was set
pub zone_said : {E : Type 0} (r : Result Said E) (settings : Option Zone) (zone : Zone) (name : Text) → settings ≡ Some zone → zone.name ≡ name
    → IfOk r (λ said. IsZoneText (zone_name settings) (string_bytes said.text)) → IfOk r (λ said. said.status ≡ 0)
    → IfOk r (λ said. IsZoneText name (string_bytes said.text) × (said.status ≡ 0))
zone_said (Ok said) settings zone name is named text done =
    (subst (λ (n : Text). IsZoneText n (string_bytes said.text)) (ap zone_name is ∙ named) text, done)
zone_said (Err e) settings zone name is named text done = tt
