use Rattle.shop_types.proofs.Common.{◌≡◌, ◌∙◌, refl, sym, ap, Some, option_map, option_and_then, slice_get, is_key}
use Rattle.http_messages.specs.Items.{parts}
use Rattle.counter_routes.specs.Bodies.{passing}
use Rattle.counter_routes.proofs.FoundLemmas.{was_there}
use Rattle.counter_routes.proofs.PartLemmas.{no_key}
use Rattle.counter_routes.proofs.imports.name.Goals as goal

pub returns-in_default-clause-bad : goal.returns-in_default-clause-bad
returns-in_default-clause-bad g c =
    let found : slice_get (parts c.args.target.now) c.args.n ≡ Some c.in_ok-bytes.bytes.now =
    sym c.part.ensures ∙ ap (option_map (λ s. s.now)) (was_there c.part.result _ c.in_ok-bytes.bytes c.in_ok-bytes.ensures.value) in
    let no = no_key _ c.in_default.ensures.cases.0 in
    λ _. ap (option_and_then (passing is_key)) found ∙ (rw no refl)
