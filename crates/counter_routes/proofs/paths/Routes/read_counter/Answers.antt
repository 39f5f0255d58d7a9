use Rattle.shop_types.proofs.Common.{refl, NoRoute}
use Rattle.counter_routes.proofs.paths.Routes.read_counter.Goals as goal

pub returns-in_default-clause-reading : goal.returns-in_default-clause-reading
returns-in_default-clause-reading c = (NoRoute, refl, rw (← c.find.ensures, c.in_default.is) refl, refl)

pub returns-in-Command-clause-reading : goal.returns-in-Command-clause-reading
returns-in-Command-clause-reading c =
    rw (← c.in-Some.ensures, c.in-Command.is) (c.read_command.ensures.reading _ c.body_command.ensures.ok c.body_command.ensures.bad)

pub returns-in-Import-clause-reading : goal.returns-in-Import-clause-reading
returns-in-Import-clause-reading c =
    rw (← c.in-Some.ensures, c.in-Import.is) (c.read_command-in-Import.ensures.reading _ c.import_command.ensures.ok c.import_command.ensures.bad)
