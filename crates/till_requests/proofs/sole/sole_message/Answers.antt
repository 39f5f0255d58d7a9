use Rattle.shop_types.proofs.Common.{◌≡◌, ◌∙◌, ◌≤◌, length, ℕ, List, [], drop, ap, refl, subst, arith, Some, Bool, true, false, not, option_map, bytes_eq}
use Rattle.shop_types.proofs.Common.{bytes_eq-Decides, drop_all}
use Rattle.http_messages.specs.Input.{HasMessage}
use Rattle.http_messages.specs.Shown.{message_of}
use Rattle.till_requests.proofs.sole.sole_message.Goals as goal

pub returns : goal.returns
returns c =
    let bytes = c.args.bytes.now in
    let all : length bytes ≤ c.in-Whole.len = omega arith in
    let none : drop c.in-Whole.len bytes ≡ [] = drop_all c.in-Whole.len bytes all in
    let same : bytes_eq c.in-Some.digits.now c.args.token.now ≡ true = not_not (bytes_eq c.in-Some.digits.now c.args.token.now) c.if-ne.ensures in
    let digits : c.in-Some.digits.now ≡ c.args.token.now = (bytes_eq-Decides c.in-Some.digits.now c.args.token.now).0 same in
    record {
      whole = subst (λ (rest : List ℕ). HasMessage bytes (message_of c.in-Whole.message) rest) none c.in-Whole.ensures.1;
      token_is = ap (option_map (λ it. it.now)) c.in-Some.is ∙ ap (λ (l : List ℕ). Some l) digits;
      closes = c.if-not-message.false;
    }
  where
    not_not : (b : Bool) → false ≡ not b → b ≡ true
    not_not true e = refl
    not_not false e = e
