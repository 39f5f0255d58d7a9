-- The pieces of a look's request, joined one by one, are its text.
use Rattle.std.proofs.Common.{◌≡◌, ◌∙◌, ℕ, List, ◌++◌, ap, codes}
use Rattle.till_client.specs.Requests.{before_token}
use Rattle.till_requests.specs.Requests.{get_text, behind_token}

behind : (a b : List ℕ) (more : List ℕ) → a ≡ b → a ++ more ≡ b ++ more
behind a b more e = ap (λ (l : List ℕ). l ++ more) e

pub joined : (token target b1 b2 b3 b4 b5 : List ℕ)
    → b1 ≡ codes "GET " → b2 ≡ b1 ++ target → b3 ≡ b2 ++ before_token → b4 ≡ b3 ++ token → b5 ≡ b4 ++ behind_token
    → b5 ≡ get_text token target
joined token target b1 b2 b3 b4 b5 e1 e2 e3 e4 e5 =
    let f2 : b2 ≡ codes "GET " ++ target = e2 ∙ behind _ _ target e1 in
    let f3 : b3 ≡ codes "GET " ++ target ++ before_token = e3 ∙ behind _ _ before_token f2 in
    let f4 : b4 ≡ codes "GET " ++ target ++ before_token ++ token = e4 ∙ behind _ _ token f3 in
    e5 ∙ behind _ _ behind_token f4
