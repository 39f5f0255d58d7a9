use Rattle.shop_types.proofs.Common.{◌≡◌, ◌∙◌, ℕ, List, refl, sym, ap, subst, Bool, true, false, not, bytes_eq, bytes_eq-Decides}
use Rattle.http_messages.specs.Shown.{message_of}
use Rattle.counter_routes.specs.Words.{texts_of}
use Rattle.till_client.specs.Sealing.{IsSole}
use Rattle.till_requests.proofs.office.asked_in.Goals as goal

pub returns-in-Ok-Asked-clause-asks : goal.returns-in-Ok-Asked-clause-asks
returns-in-Ok-Asked-clause-asks c = λ words listed.
    let message = message_of c.in-Some.message in
    let told = rw c.in-Ok-Asked.field-0-is at c.in-Ok-Asked.ensures.reading in
    let equal : bytes_eq message.body c.args.body.now ≡ true = not_not (bytes_eq message.body c.args.body.now) c.if-ne.ensures in
    let same : message.body ≡ c.args.body.now = (bytes_eq-Decides message.body c.args.body.now).0 equal in
    record {
      message = message;
      sole = subst (λ (token : List ℕ). IsSole c.args.bytes.now token message) (c.as_slice.ensures ∙ c.as_bytes.ensures.value) c.in-Some.ensures;
      listed = ap texts_of same ∙ listed;
      asks = sym told;
    }
  where
    not_not : (b : Bool) → false ≡ not b → b ≡ true
    not_not true e = refl
    not_not false e = e
