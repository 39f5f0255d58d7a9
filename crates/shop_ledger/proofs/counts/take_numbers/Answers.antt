use Rattle.shop_schema.proofs.Common.{◌<◌, ◌^◌, sym, arith}
use Rattle.shop_ledger.specs.Counted.{caller_of, kind_of}
use Rattle.shop_ledger.proofs.CountLemmas.{tallies_taken}
use Rattle.shop_ledger.proofs.Doing.{does_so}
use Rattle.shop_ledger.proofs.counts.take_numbers.Goals as goal

pub returns-clause-does : goal.returns-clause-does
returns-clause-does g c =
    let few : c.args.more < 2 ^ 32 = omega arith in
    let one = rw (c.to_sql.ensures, c.caller.ensures.value, c.to_sql-2.ensures, c.kind.ensures, c.to_sql-3.ensures) at c.count_shown.ensures.does in
    does_so one.inside one.says
    (λ n these. tallies_taken _ _ (caller_of c.args.count) (kind_of c.args.count) c.args.more few these.0 these.1 these.2 n (sym these.3) these.4)
