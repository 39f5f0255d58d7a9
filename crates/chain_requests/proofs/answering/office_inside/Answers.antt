use Rattle.shop_types.specs.Seen.{seen_office}
use Rattle.chain_caches.proofs.FilmSteps.{rows_by_office}
use Rattle.sql_rows.proofs.Chaining.{done_inside}
use Rattle.branch_work.specs.Rules.{rules_of}
use Rattle.chain_requests.proofs.answering.office_inside.Goals as goal

pub returns-clause-does : goal.returns-clause-does
returns-clause-does g c = done_inside c.in_ok-done.ensures.does (λ does books holds held.
    let taken = c.take_out_changed.ensures in
    let still = taken.kept books.catalogue.films held.1 in
    (does books holds held.0, rows_by_office _ (rules_of c.args.limits) (seen_office c.args.command.now) books still (taken.done books.catalogue held.1)))
