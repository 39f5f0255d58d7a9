use Rattle.shop_schema.proofs.Common.{refl, sym, seen_office}
use Rattle.sql_rows.proofs.Chaining.{then_does, done_inside}
use Rattle.catalogue_rows.proofs.adding.keep.Goals as goal

pub returns : goal.returns
returns g c = done_inside (then_does c.in_ok-put_kept.ensures c.in_ok-take_numbers.ensures.does) (λ said counts books holds once.
    let kept = said.0 (seen_office c.args.command.now) refl (sym c.requires) counts books holds tt in
    (said.1 counts _ kept once).0)
