-- The parts of a request, one after another.
use Rattle.std.proofs.Common.{◌≡◌, ◌∙◌, ◌++◌, ℕ, List, length, ap}
use Rattle.std.specs.Prelude.{codes, decimal}
use Rattle.till_client.specs.Requests.{before_token, before_length, before_body, post_text}

behind : (a b : List ℕ) (more : List ℕ) → a ≡ b → a ++ more ≡ b ++ more
behind a b more e = ap (λ (l : List ℕ). l ++ more) e

pub joined : (token target body digits b0 b1 b2 b3 b4 b5 b6 b7 : List ℕ) → b0 ≡ codes "POST " → b1 ≡ b0 ++ target → b2 ≡ b1 ++ before_token → b3 ≡ b2 ++ token
    → b4 ≡ b3 ++ before_length → b5 ≡ b4 ++ digits → b6 ≡ b5 ++ before_body → b7 ≡ b6 ++ body → digits ≡ decimal (length body)
    → b7 ≡ post_text token target body
joined token target body digits b0 b1 b2 b3 b4 b5 b6 b7 e0 e1 e2 e3 e4 e5 e6 e7 e8 =
    let f1 : b1 ≡ codes "POST " ++ target = e1 ∙ behind _ _ target e0 in
    let f2 : b2 ≡ codes "POST " ++ target ++ before_token = e2 ∙ behind _ _ before_token f1 in
    let f3 : b3 ≡ codes "POST " ++ target ++ before_token ++ token = e3 ∙ behind _ _ token f2 in
    let f4 : b4 ≡ codes "POST " ++ target ++ before_token ++ token ++ before_length = e4 ∙ behind _ _ before_length f3 in
    let f5 : b5 ≡ codes "POST " ++ target ++ before_token ++ token ++ before_length ++ decimal (length body) =
    e5 ∙ behind _ _ digits f4 ∙ ap (λ (l : List ℕ). codes "POST " ++ target ++ before_token ++ token ++ before_length ++ l) e8 in
    let f6 : b6 ≡ codes "POST " ++ target ++ before_token ++ token ++ before_length ++ decimal (length body) ++ before_body = e6 ∙ behind _ _ before_body f5 in
    e7 ∙ behind _ _ body f6
