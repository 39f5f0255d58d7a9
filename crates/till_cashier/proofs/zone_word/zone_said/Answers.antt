use Rattle.std.proofs.Common.{◌≡◌, ◌∙◌, [], ◌++◌, ap}
use Rattle.std.specs.Prelude.{codes}
use Rattle.shop_model.specs.Values.{Text}
use Rattle.till_cashier.specs.Saying.{ended}
use Rattle.till_cashier.specs.ZoneText.{IsZoneText}
use Rattle.till_cashier.proofs.zone_word.zone_said.Goals as goal

-- the line was added to nothing
zone_text : (new old shown line name zone time : Text) → new ≡ old ++ ended shown → old ≡ [] → shown ≡ line
    → line ≡ codes "the till's zone is " ++ (name ++ (codes ": entries have its standard time, UTC" ++ time)) → name ≡ zone → IsZoneText zone new
zone_text new old shown line name zone time added empty is says named = (
  time,
  added ∙ (ap (λ (l : Text). l ++ ended shown) empty
      ∙ ap ended
      (is ∙ (says ∙ ap (λ (n : Text). codes "the till's zone is " ++ (n ++ (codes ": entries have its standard time, UTC" ++ time))) named))),
)

pub returns-clause-text : goal.returns-clause-text
returns-clause-text c =
    zone_text _ _ _ _ _ _ c.as_str.result.now c.in_ok-line-2.ensures.added c.done-said.ensures.text c.as_str-2.ensures.value c.in_ok-line.ensures
    c.zone_name.ensures
