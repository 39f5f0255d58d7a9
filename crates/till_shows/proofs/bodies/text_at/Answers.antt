use Rattle.shop_types.proofs.Common.{◌∙◌, ap, ℕ, List, option_and_then, option_map, Bor}
use Rattle.serde_json.specs.Find.{as_str}
use Rattle.till_shows.proofs.bodies.text_at.Goals as goal

pub returns-in_err-get : goal.returns-in_err-get
returns-in_err-get c = ap (option_map (λ (t : Bor (List ℕ)). t.now)) c.from_residual.ensures ∙ ap (option_and_then as_str) c.in_err-get.ensures

pub returns : goal.returns
returns c = c.as_str.ensures ∙ ap (option_and_then as_str) c.in_ok-get.ensures
