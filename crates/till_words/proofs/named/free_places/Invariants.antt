use Rattle.std.proofs.Common.{◌≡◌, ◌++◌, drop, map, string_bytes}
use Rattle.till_words.specs.Places.{free_places}
use Rattle.till_words.proofs.named.free_places.Given as goal

abbrev pub invariant-loop-name : goal.invariant-loop-name
invariant-loop-name l =
    map (λ s. s.now) l.free.items ++ free_places (map string_bytes l.words) (map (λ s. s.now) (drop l.name-index l.names))
    ≡ free_places (map string_bytes l.words) (map (λ s. s.now) l.names)
