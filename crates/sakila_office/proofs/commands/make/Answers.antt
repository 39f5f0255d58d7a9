use Rattle.std.proofs.KnownBytes.{Keeps-refl}
use Rattle.sakila_office.specs.Commands.{made}
use Rattle.sakila_office.proofs.commands.make.Goals as goal

pub returns-in-Ok-clause-makes : goal.returns-in-Ok-clause-makes
returns-in-Ok-clause-makes g c =
    let created = c.in-Ok.ensures.made in
    let new = created.3 in
    made (record {
      files = created.0;
      left = c.close.result;
      none = λ honest. new.none (c.close.ensures.clean honest);
      kept = λ honest. c.close.ensures.keeps new.live _ _ (new.made (c.close.ensures.clean honest));
    }) c.print.ensures (Keeps-refl _)
