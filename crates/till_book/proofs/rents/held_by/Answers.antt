use Rattle.sql_rows.proofs.Common.{◌∙◌, ap, Bool}
use Rattle.sql_rows.proofs.Chaining.{done_inside}
use Rattle.till_book.specs.Held.{held_if}
use Rattle.till_book.proofs.rents.held_by.Goals as goal

pub returns : goal.returns
returns g c = done_inside c.in_ok-is_back.ensures (λ said journal holds.
    let found = said journal holds in
    (found.0, λ commands say. c.rental_unless.ensures ∙ ap (held_if c.args.rent) (found.1 commands say)))
