use Rattle.shop_types.proofs.Common.{◌≡◌, ◌∙◌, Some, sym, ap, option_map}
use Rattle.serde_json.specs.Find.{get}
use Rattle.serde_json.specs.View.{view}
use Rattle.counter_routes.proofs.FoundLemmas.{was_there}
use Rattle.counter_routes.proofs.SizeLemmas.{not_long}
use Rattle.counter_routes.proofs.bodies.numbers.Goals as goal

pub unreachable-requires : goal.unreachable-requires
unreachable-requires g c =
    let found : get c.args.name.now (view c.args.value.now) ≡ Some (view c.in_ok-list.list.now) =
    sym c.get.ensures ∙ ap (option_map (λ v. view v.now)) (was_there c.get.result _ c.in_ok-list.list c.in_ok-list.ensures.value) in
    not_long c.args.name.now (view c.args.value.now) (view c.in_ok-list.list.now)
    c.in_ok-listed.field-0.items found c.in_ok-listed.ensures.ok c.requires (sym c.in-None.is ∙ c.new.ensures)
