use Rattle.std.proofs.Common.{refl}
use Rattle.matchit.proofs.OnLiterals.{matchit_on_literals}
use Rattle.counter_routes.specs.Commands.{post_entries}
use Rattle.counter_routes.specs.Routes.{is_table}
use Rattle.counter_routes.proofs.paths.post_routes.Goals as goal

pub build-requires : goal.build-requires
unfolding matchit_on_literals is_table post_entries
build-requires c = refl

pub returns : goal.returns
unfolding post_entries
returns c = c.build.ensures
