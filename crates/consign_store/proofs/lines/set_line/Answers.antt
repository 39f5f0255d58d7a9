use Rattle.shop_schema.proofs.Common.{arith, seen_line_state}
use Rattle.shop_ledger.proofs.Doing.{does_so}
use Rattle.consign_store.proofs.Texts.{sets_line}
use Rattle.consign_store.proofs.lines.set_line.Goals as goal

pub returns : goal.returns
returns g c =
    does_so c.execute.ensures.inside
    (rw (
      c.to_sql.ensures,
      c.get.ensures.value,
      c.to_sql-2.ensures,
      c.get-2.ensures.value,
      c.to_sql-3.ensures,
      c.get-3.ensures.value,
      c.to_sql-4.ensures,
      c.get-4.ensures.value,
      c.to_sql-5.ensures,
      c.line_state_code.ensures,
    )
    at c.execute.ensures.ran)
    (λ _ ran.
    sets_line _ _ c.args.key.now.source c.args.key.now.addressee c.args.key.now.number c.args.line
    (seen_line_state c.args.new) ran.0 (omega (arith, c.get-4.ensures.bound, c.get-4.ensures.value)) ran.1)
