use Rattle.std.proofs.Common.{◌≡◌, drop, true, []}
use Rattle.counter_routes.specs.Routes.{with_routes, are_new, entries}
use Rattle.counter_routes.proofs.paths.build.Given as goal

abbrev pub invariant-loop-pattern : goal.invariant-loop-pattern
invariant-loop-pattern l = record {
  rest : with_routes l.router (entries (drop l.pattern-index l.patterns)) ≡ with_routes [] (entries l.patterns);
  fits : are_new l.router (entries (drop l.pattern-index l.patterns)) ≡ true;
}
