use Rattle.shop_schema.proofs.Common.{◌∙◌, ap, sym, inr, caller_in, seen_refusal, seen_request, is_store_failure}
use Rattle.chain_requests.specs.Chains.{event_of}
use Rattle.chain_requests.proofs.Requests.{event_answered, store_refuses, refused_takes}
use Rattle.chain_requests.proofs.Wells.{well_then}
use Rattle.chain_requests.proofs.Taking.{takes_then}
use Rattle.chain_engine.proofs.chain.Chain.answer_with.Goals as goal

pub returns-in-Ok-clause-taken : goal.returns-in-Ok-clause-taken
returns-in-Ok-clause-taken g c =
    takes_then c.in-Ok.ensures.taken c.answer.ensures.taken
    (λ old mid new x y. event_answered c.args.token.now c.args.request.now c.in-Ok.caller _ old mid new x y)

pub returns-in-Err-clause-taken : goal.returns-in-Err-clause-taken
returns-in-Err-clause-taken g c = refused_takes c.in-Err.refusal
    (λ old. caller_in (event_of (c.args.token.now, c.args.request.now)) old.books) (λ _. seen_request c.args.request.now) c.in-Err.ensures.taken (λ old new x.
    rw c.refused.ensures
    (store_refuses (caller_in (event_of (c.args.token.now, c.args.request.now)) old.books) (seen_request c.args.request.now) c.in-Err.refusal old new x))

pub returns-in-Err-clause-told : goal.returns-in-Err-clause-told
returns-in-Err-clause-told g c = inr (seen_refusal c.in-Err.refusal, c.refused.ensures)

pub returns-in-Err-clause-fails : goal.returns-in-Err-clause-fails
returns-in-Err-clause-fails g c = c.in-Err.ensures.fails ∙ sym (ap is_store_failure c.refused.ensures)

pub returns-in-Ok-clause-well : goal.returns-in-Ok-clause-well
returns-in-Ok-clause-well g c row =
    well_then g.S.Store c.args.self.now c.caller.new.self c.answer.new.self c.answer.ensures.taken.clean
    (λ now books besides at. let it = c.in-Ok.ensures.taken.goes now books besides at in (it.0, it.1, it.3)) c.in-Ok.ensures.well (c.answer.ensures.well row)

pub returns-in-Err-clause-well : goal.returns-in-Err-clause-well
returns-in-Err-clause-well g c row = c.in-Err.ensures.well
