use Rattle.std.proofs.Common.{◌≡◌, drop, map}
use Rattle.till_model.specs.Settled.{accepted_of}
use Rattle.till_book.specs.Seen.{seen_settlement}
use Rattle.till_cashier.proofs.entries.accepted_among.Given as goal

-- no settlement before this one is it
abbrev pub invariant-loop-it : goal.invariant-loop-it
invariant-loop-it l = accepted_of l.number (map seen_settlement (drop l.it-index l.settled)) ≡ accepted_of l.number (map seen_settlement l.settled)
