use Rattle.shop_types.proofs.Common.{◌≡◌, ◌∙◌, length, ℕ, List, ◌++◌, take, drop, sym, ap, arith, take-append-drop, bytes_eq-Decides}
use Rattle.http_messages.specs.Text.{head_text}
use Rattle.till_client.proofs.replies.reply_with.Goals as goal

pub returns : goal.returns
returns c =
    let bytes = c.args.bytes.now in
    let head = c.as_bytes.result.now in
    let body = c.in-Some.body.now in
    let h = c.in-Some.ensures.cases in
    let front : take (length head) bytes ≡ head = (bytes_eq-Decides (take (length head) bytes) head).0 h.0 in
    let rest : body ≡ drop (length head) bytes = h.1 in
    let low : c.args.len ≡ length body = omega arith in
    let is : head ≡ head_text c.args.status c.args.len = c.as_bytes.ensures.value ∙ c.as_str.ensures.value ∙ c.reply_head-head.ensures in
    sym (take-append-drop (length head) bytes)
    ∙ ap (λ (l : List ℕ). l ++ drop (length head) bytes) front
    ∙ ap (λ (l : List ℕ). head ++ l) (sym rest)
    ∙ ap (λ (l : List ℕ). l ++ body) is
    ∙ ap (λ (n : ℕ). head_text c.args.status n ++ body) low
