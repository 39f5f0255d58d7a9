use Rattle.std.proofs.Common.{◌≡◌, ◌∙◌, ℕ, List, sym, subst}
use Rattle.till_client.specs.Sealing.{IsUnsealed, SaysCommand}
use Rattle.till_client.specs.declared.sealed.NotSealed.{NotSealed}
use Rattle.till_cashier.proofs.Listing.{some_same}
use Rattle.till_cashier.proofs.entries.EntriesAfter.command_at.Goals as goal

pub returns-in-Err-Other-clause-other : goal.returns-in-Err-Other-clause-other
returns-in-Err-Other-clause-other c = λ same command there.
    let request : there.0 ≡ c.in-Some.request.now = some_same there.0 c.in-Some.request.now (sym there.1 ∙ sym c.in-Some.ensures) in
    subst (λ (fault : NotSealed). IsUnsealed fault c.in-Some.request.now there.2.0) c.in-Err-Other.field-0-is (c.in-Err-Other.ensures.err there.2.0) command
    (subst (λ (bytes : List ℕ). SaysCommand bytes there.2.0 command) request there.2.1)
