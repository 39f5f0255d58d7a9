use Rattle.shop_schema.proofs.Common.{arith, refl, ◌∙◌, ◌≡◌, ◌+◌, ◌≤◌, and_then, done, some_calls, within_none}
use Rattle.sql_rows.proofs.Chaining.{one_call}
use Rattle.consign_store.proofs.ParcelLemmas.{no_line_put, writes_nothing}
use Rattle.consign_store.proofs.ParcelSteps.{number_is, one_line, all_lines}
use Rattle.consign_store.proofs.parcels.put_lines.Goals as goal

pub loop-line-init : goal.loop-line-init
loop-line-init g c =
    let key = c.args.key.now in (refl, record { inside = within_none; says = λ clean. writes_nothing _ _ _ (no_line_put key.source key.addressee key.number) })

pub loop-line-preserved : goal.loop-line-preserved
loop-line-preserved g c =
    let key = c.args.key.now in
    let inv = c.loop-line.invariant in
    let i = c.loop-line.line-index in
    let low : 1 ≤ c.loop-line.number = omega (arith, inv.0) in
    let number : c.unwrap.result ≡ i + 1 = number_is c.loop-line.number c.unwrap.result c.new.result low c.new.ensures c.unwrap.ensures ∙ inv.0 in (
      omega (arith, inv.0),
      done (and_then (some_calls inv.1) (one_call c.in_ok-put_line.ensures)) (λ said.
          one_line key.source key.addressee key.number _ _ _ c.args.lines.now i c.unwrap.result
          c.line-item.result c.loop-line-test.true c.line-item.is number said.0 said.1),
    )

pub returns : goal.returns
returns g c =
    let key = c.args.key.now in
    done (some_calls c.loop-line.invariant.1)
    (λ said. all_lines key.source key.addressee key.number _ _ c.args.lines.now c.loop-line.line-index c.loop-line-test.false said)
