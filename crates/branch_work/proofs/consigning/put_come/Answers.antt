use Rattle.shop_schema.proofs.Common.{◌≡◌, ◌∙◌, ◌+◌, ℕ, ap, arith, subst, sym, state, and_then, done, some_calls, within_none, HoldsWith}
use Rattle.sql_rows.proofs.Chaining.{one_call}
use Rattle.shop_store.specs.Seen.{seen_copy_row}
use Rattle.branch_core.specs.Consigned.{come_copy}
use Rattle.branch_work.proofs.Writings.{writes_then, writes_as}
use Rattle.branch_work.proofs.ConsignLemmas.{none_come, one_come, all_come}
use Rattle.branch_work.proofs.consigning.put_come.Goals as goal

pub loop-line-init : goal.loop-line-init
loop-line-init g c = (
  omega (arith, c.get-number.ensures.value),
  record {
    inside = within_none;
    says = λ clean counts books holds given.
        subst (HoldsWith counts (state g.S.Store c.args.tx.now.conn.now)) (sym (none_come c.args.branch c.args.first c.args.come.now books)) holds;
  },
)

pub loop-line-preserved : goal.loop-line-preserved
loop-line-preserved g c =
    let b = c.args.branch in
    let first = c.args.first in
    let i = c.loop-line.line-index in
    let line = c.line-item.result in
    let inv = c.loop-line.invariant in
    let row : seen_copy_row c.come_copy.result ≡ record { branch = b; number = first + i; it = come_copy line (first + i) } =
    c.come_copy.ensures ∙ ap (λ (n : ℕ). record { branch = b; number = n; it = come_copy line n }) inv.0 in (
      omega (arith, inv.0),
      done (and_then (some_calls inv.1) (one_call c.in_ok-put_copy.ensures)) (λ said.
          writes_as _ _ _ _ (λ books. one_come b first i c.args.come.now line c.come_copy.result books c.loop-line-test.true c.line-item.is row)
          (writes_then _ _ _ _ _ said.0 said.1)),
    )

pub returns : goal.returns
returns g c =
    done (some_calls c.loop-line.invariant.1)
    (λ said. writes_as _ _ _ _ (λ books. all_come c.args.branch c.args.first c.loop-line.line-index c.args.come.now books c.loop-line-test.false) said)
