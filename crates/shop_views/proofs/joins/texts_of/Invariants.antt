use Rattle.std.proofs.Common.{◌≡◌, ◌≤◌, length, take, map, string_bytes, vec_len, vec_capacity}
use Rattle.shop_views.proofs.joins.texts_of.Given as goal

-- the values so far are there as texts, and there is room for the rest
abbrev pub invariant-loop-value : goal.invariant-loop-value
invariant-loop-value g l =
    (vec_len l.texts ≡ l.value-index) × (length l.values ≤ vec_capacity l.texts)
    × (map string_bytes l.texts.items ≡ map g.T.Told.told (take l.value-index l.values))
