use Rattle.shop_types.proofs.Common.{◌≡◌, ◌∙◌, ℕ, ◌+◌, ◌++◌, ◌∷◌, [], List, take, map, sym, ap, arith, take_more, take_all, map-append}
use Rattle.serde_json.specs.View.{view, items_of}
use Rattle.serde_json.proofs.Views.{view-Array}
use Rattle.serde_json.specs.Data.{Data, number, unsigned, array}
use Rattle.shop_views.proofs.numbers.numbers_value.Goals as goal

abbrev as_data : ℕ → Data
as_data n = number (unsigned n)

pub loop-number-init : goal.loop-number-init
loop-number-init g c = (c.in_ok-values.ensures.len, c.in_ok-values.ensures.capacity, ap (map view) c.in_ok-values.ensures.items)

pub push_reserved-requires : goal.push_reserved-requires
push_reserved-requires g c = omega (arith, c.loop-number.invariant.0, c.loop-number.invariant.1, c.loop-number-test.true)

pub loop-number-preserved : goal.loop-number-preserved
loop-number-preserved g c =
    let inv = c.loop-number.invariant in
    let i = c.loop-number.number-index in
    let n = c.number-item.result in
    let asked : map as_data (take (i + 1) c.args.numbers.now) ≡ map as_data (take i c.args.numbers.now) ++ as_data n ∷ [] =
    ap (map as_data) (take_more c.args.numbers.now i n c.loop-number-test.true ∙ ap (λ (x : ℕ). take i c.args.numbers.now ++ x ∷ []) (sym c.number-item.is))
    ∙ map-append as_data (take i c.args.numbers.now) (n ∷ []) in
    let one : view c.from.result ≡ as_data n = c.from.ensures ∙ ap as_data c.get.ensures.value in
    let told : map view c.push_reserved.new.self.items ≡ map view c.loop-number.values.items ++ as_data n ∷ [] =
    ap (map view) c.push_reserved.ensures.items ∙ map-append view c.loop-number.values.items (c.from.result ∷ [])
    ∙ ap (λ (d : Data). map view c.loop-number.values.items ++ d ∷ []) one in (
      omega (arith, c.push_reserved.ensures.len, inv.0),
      omega (arith, c.push_reserved.ensures.capacity, inv.1),
      told ∙ ap (λ (ds : List Data). ds ++ as_data n ∷ []) inv.2 ∙ sym asked,
    )

pub returns : goal.returns
returns g c =
    let all : take c.loop-number.number-index c.args.numbers.now ≡ c.args.numbers.now =
    take_all c.loop-number.number-index c.args.numbers.now c.loop-number-test.false in
    view-Array c.loop-number.values ∙ ap (λ (ds : List Data). array (items_of ds)) (c.loop-number.invariant.2 ∙ ap (map as_data) all)
