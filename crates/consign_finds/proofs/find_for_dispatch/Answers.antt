use Rattle.shop_schema.proofs.Common.{◌∙◌, ap, List, ℕ, subst, is_some, and_then, done, some_calls, at}
use Rattle.sql_rows.proofs.Chaining.{one_call}
use Rattle.shop_store.specs.SharedSeen.{manager_of}
use Rattle.consign_finds.specs.Finds.{AreListed}
use Rattle.consign_finds.proofs.Readings.{some_there}
use Rattle.consign_finds.proofs.find_for_dispatch.Goals as goal

pub returns : goal.returns
returns g c = done (and_then (one_call c.in_ok-manager.ensures) (some_calls c.in_ok-listed.ensures)) (λ said moment books holds held.
    let manager = said.0 books holds held in
    let found = said.1 books manager.0 held in
    let listed = subst (λ (xs : List ℕ). AreListed c.args.branch xs c.in_ok-listed.listed books) c.as_slice.ensures.value found.1 in
    let there = c.is_some.ensures ∙ ap is_some manager.1 ∙ some_there manager_of (at c.args.to books.catalogue.branches) in
    (found.0, ((λ rules reads. record { branch = there; listed = listed.0 }), listed.1)))
