use Rattle.std.proofs.Common.{◌≡◌, ◌++◌, drop}
use Rattle.branch_core.proofs.FilmLemmas.{numbers_of}
use Rattle.branch_core.proofs.film_copies.listed.Given as goal

-- the numbers so far, and the numbers of the later copies that are listed, are all numbers
abbrev pub invariant-loop-copy : goal.invariant-loop-copy
invariant-loop-copy l = l.numbers.items ++ numbers_of l.is_in (drop l.copy-index l.copies) ≡ numbers_of l.is_in l.copies
