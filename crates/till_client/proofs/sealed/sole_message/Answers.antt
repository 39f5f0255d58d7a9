use Rattle.shop_types.proofs.Common.{◌≡◌, ◌∙◌, ◌≤◌, length, ℕ, List, [], drop, ap, refl, subst, arith, Some, Bool, true, false, not, option_map, bytes_eq}
use Rattle.shop_types.proofs.Common.{bytes_eq-Decides, drop_all}
use Rattle.http_messages.specs.Input.{HasMessage}
use Rattle.http_messages.specs.Shown.{message_of}
use Rattle.till_client.proofs.SoleMessages.{is_read, not_read, no_token, other_token, stays_open}
use Rattle.till_client.proofs.sealed.sole_message.Goals as goal
use Rattle.till_client.proofs.sealed.sole_message.Goals.{then-len-bytes-via-then-len-bytes, then-len-bytes-via-else-len-bytes+then-ne}
use Rattle.till_client.proofs.sealed.sole_message.Goals.{then-len-bytes-via-else-len-bytes+else-ne+then-not-message}

pub returns-in_default : goal.returns-in_default
returns-in_default c = record {
  some = tt;
  none = λ message sole. not_read c.args.bytes.now c.read_request.result c.read_request.ensures c.in_default.not-Whole message sole.whole;
}

pub returns-in_default-token-clause-none : goal.returns-in_default-token-clause-none
returns-in_default-token-clause-none c message sole =
    let same =
    is_read c.args.bytes.now c.args.token.now c.in-Whole.len (message_of c.in-Whole.message) message c.in-Whole.ensures.0 c.in-Whole.ensures.1 sole in
    no_token c.args.token.now (message_of c.in-Whole.message) message same.0 (ap (option_map (λ it. it.now)) c.in_default-token.is) sole.token_is

pub returns-then-len-bytes-clause-none : goal.returns-then-len-bytes-clause-none
returns-then-len-bytes-clause-none c message sole =
    let same =
    is_read c.args.bytes.now c.args.token.now c.in-Whole.len (message_of c.in-Whole.message) message c.in-Whole.ensures.0 c.in-Whole.ensures.1 sole in
    elim c.then-len-bytes.branch [
      | then-len-bytes-via-then-len-bytes w ↦ absurd (omega (arith, same.1, w.if-len-bytes))
      | then-len-bytes-via-else-len-bytes+then-ne w ↦ other_token c.args.token.now c.in-Some.digits.now (message_of c.in-Whole.message) message same.0
          (ap (option_map (λ it. it.now)) c.in-Some.is) sole.token_is w.if-ne.ensures
      | then-len-bytes-via-else-len-bytes+else-ne+then-not-message w ↦
          stays_open (message_of c.in-Whole.message) message same.0 w.if-not-message.true sole.closes
    ]

pub returns-clause-some : goal.returns-clause-some
returns-clause-some c =
    let bytes = c.args.bytes.now in
    let all : length bytes ≤ c.in-Whole.len = omega arith in
    let none : drop c.in-Whole.len bytes ≡ [] = drop_all c.in-Whole.len bytes all in
    let same : bytes_eq c.in-Some.digits.now c.args.token.now ≡ true = not_not (bytes_eq c.in-Some.digits.now c.args.token.now) c.if-ne.ensures in
    let digits : c.in-Some.digits.now ≡ c.args.token.now = (bytes_eq-Decides c.in-Some.digits.now c.args.token.now).0 same in
    record {
      whole = subst (λ (rest : List ℕ). HasMessage bytes (message_of c.in-Whole.message) rest) none c.in-Whole.ensures.1;
      token_is = ap (option_map (λ it. it.now)) c.in-Some.is ∙ ap (λ (l : List ℕ). Some l) digits;
      closes = c.if-not-message.false;
    }
  where
    not_not : (b : Bool) → false ≡ not b → b ≡ true
    not_not true e = refl
    not_not false e = e
