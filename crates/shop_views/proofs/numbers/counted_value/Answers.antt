use Rattle.shop_types.proofs.Common.{◌≡◌, ◌∙◌, ℕ, ◌+◌, ◌++◌, ◌∷◌, [], List, map, sym, ap, refl, arith, map-append}
use Rattle.std.proofs.lemmas.List.FromFn.{map-range_with_len_more}
use Rattle.serde_json.specs.View.{view}
use Rattle.serde_json.specs.Data.{Data, number, unsigned}
use Rattle.shop_views.proofs.numbers.counted_value.Goals as goal

abbrev as_data : ℕ → Data
as_data n = number (unsigned n)

pub loop-at-preserved : goal.loop-at-preserved
loop-at-preserved c =
    let inv = c.loop-at.invariant in
    let n : ℕ = c.args.first + c.loop-at.at in
    let before = c.loop-at.values.items in
    let told : map view c.push_reserved.new.self.items ≡ map view before ++ as_data n ∷ [] =
    ap (map view) c.push_reserved.ensures.items ∙ map-append view before (c.from.result ∷ []) ∙ ap (λ (d : Data). map view before ++ d ∷ []) c.from.ensures in (
      omega (arith, c.push_reserved.ensures.len, inv.0),
      omega (arith, c.push_reserved.ensures.capacity, inv.1),
      told ∙ ap (λ (ds : List Data). ds ++ as_data n ∷ []) inv.2 ∙ sym (map-range_with_len_more as_data c.args.first c.loop-at.at n refl),
    )
