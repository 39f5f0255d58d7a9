use Rattle.std.proofs.Common.{◌≡◌, ◌∙◌, ◌++◌, List, ℕ, ap, ap₂, string_bytes}
use Rattle.till_shows.specs.Drawers.{closing_text}
use Rattle.till_cashier.specs.Saying.{ended}
use Rattle.till_cashier.proofs.day.close.Goals as goal

pub returns-clause-says : goal.returns-clause-says
returns-clause-says g c clean =
    let it = c.in_ok-drawer.field-0 in
    let line : string_bytes c.in_ok-line.line ≡ closing_text c.on_wall-at.result it.drawer.tally.paid c.args.counted =
    c.in_ok-line.ensures
    ∙ ap₂ (λ (paid counted : ℕ). closing_text c.on_wall-at.result paid counted) c.closing_of-closing.ensures.expected
    c.closing_of-closing.ensures.counted in (
      c.line.ensures.status ∙ c.in_ok-drawer.ensures.status,
      (
        it.drawer.tally,
        string_bytes it.said.text,
        c.on_wall-at.result,
        c.in_ok-drawer.ensures.says clean,
        c.in_ok-line-2.ensures.added ∙ ap (λ (text : List ℕ). string_bytes it.said.text ++ ended text) (c.as_str.ensures.value ∙ line),
      ),
    )
