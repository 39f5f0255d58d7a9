use Rattle.std.proofs.Common.{◌≡◌, ◌∙◌, ℕ, ap}
use Rattle.till_cashier.specs.Drawers.{sums_text}
use Rattle.till_cashier.proofs.day.shown.Goals as goal

pub returns-clause-says : goal.returns-clause-says
returns-clause-says g c clean = (
  c.closed_at-closed.result,
  c.as_slice-2.result.now,
  c.args.desk.now.drawer,
  c.in_ok-said.ensures.said
      ∙ ap (λ (waiting : ℕ). sums_text c.args.desk.now.drawer c.closed_at-closed.result waiting c.in_ok-drawer.drawer.tally) c.saturating_sub-waiting.ensures,
  λ journal rests. (
    c.last_of-last.result.replies,
    c.as_slice.result.now,
    c.in_ok-drawer.drawer.rows,
    (λ none. let first = c.last_of-last.ensures (c.closed_at-closed.ensures none) in (first.0, c.as_slice.ensures.value ∙ first.1)),
    (c.in_ok-drawer.ensures.since clean journal rests).1,
    c.in_ok-drawer.ensures.sums,
  ),
)
