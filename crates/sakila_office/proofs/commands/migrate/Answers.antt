use Rattle.std.proofs.KnownBytes.{Keeps-refl}
use Rattle.sakila_office.specs.Commands.{made_new}
use Rattle.sakila_office.proofs.commands.migrate.Goals as goal

pub returns-in-Ok-clause-migrates : goal.returns-in-Ok-clause-migrates
returns-in-Ok-clause-migrates g c =
    let migrated = c.in-Ok.ensures.migrated in
    let new = migrated.3 in
    made_new (record {
      files = migrated.0;
      left = c.close.result;
      first = λ honest. new.first (c.close.ensures.clean honest);
      sound = λ honest. let books = new.sound (c.close.ensures.clean honest) in (books.0, books.1, c.close.ensures.keeps new.live _ _ books.2);
      kept = λ honest books holds. c.close.ensures.keeps new.live _ _ (new.found (c.close.ensures.clean honest) books holds);
    }) c.print.ensures (Keeps-refl _)
