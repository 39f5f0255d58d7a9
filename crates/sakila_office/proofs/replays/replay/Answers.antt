use Rattle.shop_schema.proofs.Common.{◌≡◌, ◌∙◌, subst, refl, false, List, Keeps-refl, Ghosts, no_doubt, state, HasCleanDisk, most_limits, opening_books}
use Rattle.office_words.specs.Line.{line_of}
use Rattle.chain_requests.specs.Holding.{Chained, Holding, holding}
use Rattle.chain_requests.specs.Chains.{IsAt, Runs}
use Rattle.counter_http.specs.Exchanges.{Exchange, events_of, answers_of, RunsOver}
use Rattle.counter_http.proofs.Serving.{served_as, fault_as}
use Rattle.sakila_office.specs.Replays.{replayed, broke_off, RunsFromOpening}
use Rattle.sakila_office.proofs.Books.{is_opened}
use Rattle.sakila_office.proofs.replays.replay.Goals as goal

from_opening : {S : Type 0} (g : Ghosts S) (chain new : Chained S) → chain.limits ≡ most_limits
    → chain.is_failed ≡ false → IsAt g chain opening_books opening_books → HasCleanDisk (state g new.conn)
    → (es : List Exchange) → RunsOver g line_of chain new es → RunsFromOpening es
from_opening g chain new limits live at clean es taken =
    let went = taken.takes.goes clean opening_books opening_books at in (
      holding new went.0 went.1,
      subst (λ (h : Holding). Runs (events_of line_of es) (answers_of es) h (holding new went.0 went.1)) (is_opened chain opening_books limits live) went.2,
    )

pub returns-in-Ok-serve-clause-replays : goal.returns-in-Ok-serve-clause-replays
returns-in-Ok-serve-clause-replays g c =
    let tell =
    from_opening _ c.in-Ok.chain c.serve.new.chain
    (c.in-Ok.ensures.made.0 ∙ c.default.ensures) c.in-Ok.ensures.made.1 c.in-Ok.ensures.made.2 (no_doubt _ refl) in
    replayed c.in-Ok-serve.served
    (served_as c.in-Ok-serve.served 1000 _ RunsFromOpening _ _ _ _ c.in-Ok-serve.ensures.served tell) c.status.ensures (Keeps-refl _)

pub returns-clause-replays : goal.returns-clause-replays
returns-clause-replays g c =
    let tell =
    from_opening _ c.in-Ok.chain c.serve.new.chain
    (c.in-Ok.ensures.made.0 ∙ c.default.ensures) c.in-Ok.ensures.made.1 c.in-Ok.ensures.made.2 (no_doubt _ refl) in
    broke_off c.in-Err-serve.field-0 (fault_as c.in-Err-serve.field-0 1000 _ RunsFromOpening _ _ _ _ c.in-Err-serve.ensures.fault tell) refl (Keeps-refl _)
