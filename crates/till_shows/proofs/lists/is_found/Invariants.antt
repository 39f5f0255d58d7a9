use Rattle.std.proofs.Common.{◌≡◌, drop, map, string_bytes}
use Rattle.till_shows.specs.Lists.{is_found}
use Rattle.till_shows.proofs.lists.is_found.Given as goal

-- no text before this one contains the part
abbrev pub invariant-loop-text : goal.invariant-loop-text
invariant-loop-text l = is_found (map string_bytes (drop l.text-index l.texts)) l.part ≡ is_found (map string_bytes l.texts) l.part
