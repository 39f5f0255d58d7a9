use Rattle.std.proofs.Common.{rules, ◌≡◌, ◌∷◌, ◌++◌, [], length}
use Rattle.books_audit.proofs.Splits.{not_one_row}
use Rattle.books_audit.proofs.lists.read_one.Goals as goal

pub returns-then-not-is_empty-clause-none : goal.returns-then-not-is_empty-clause-none
returns-then-not-is_empty-clause-none g c e h =
    let popped : c.in-Some.all.items ≡ c.pop.new.self.items ++ c.in-Some-pop.one ∷ [] = search rules in
    let some : ¬ (length c.pop.new.self.items ≡ 0) = search rules in
    not_one_row g.T.Listed.is_row c.in-Some.all.items c.pop.new.self.items c.in-Some-pop.one _
    (rw (c.of.ensures, c.in-Some.is) at c.in_ok-all.ensures.found) popped some h.one
