use Rattle.sql_rows.proofs.Common.{◌+◌, ◌∙◌, refl, sym, subst, arith, map, drop, state, keeps_then, Builds, IsToldOf}
use Rattle.sql_rows.proofs.Creates.{next_of}
use Rattle.sql_rows.proofs.Inside.{survives_nothing}
use Rattle.sql_rows.proofs.Stays.{survives_more}
use Rattle.sql_rows.proofs.Faults.{one_gave, err_and}
use Rattle.sql_rows.proofs.make.make_tables.Goals as goal

pub loop-text-init : goal.loop-text-init
loop-text-init g c = record {
  same = refl;
  survives = survives_nothing _;
  kept = λ clean. record { was_open = λ now. now; committed = λ _. refl };
  built = λ clean whole b. b;
}

pub loop-text-preserved : goal.loop-text-preserved
loop-text-preserved g c = record {
  same = c.make_table.ensures.same_reference ∙ c.loop-text.invariant.same;
  survives = survives_more _ _ _ c.loop-text.invariant.survives c.make_table.ensures.survives;
  kept = λ clean.
      keeps_then _ _ _ (c.loop-text.invariant.kept (omega (arith, clean, c.make_table.ensures.survives.clean))) (c.in_ok-make_table.ensures.kept clean);
  built = λ clean whole b. c.in_ok-make_table.ensures.made clean whole (map (λ t. t.now) (drop (c.loop-text.text-index + 1) c.args.texts.now))
      (subst (Builds whole (state g.S.Store c.loop-text.tx.conn.now).now)
      (next_of c.args.texts.now c.loop-text.text-index _ (omega (arith, c.loop-text-test.true)))
      (c.loop-text.invariant.built (omega (arith, clean, c.make_table.ensures.survives.clean)) whole b));
}

pub returns-in_err-make_table-clause-told : goal.returns-in_err-make_table-clause-told
returns-in_err-make_table-clause-told g c clean =
    let told =
    one_gave g.S.Store c.args.texts.now c.loop-text.text-index _
    (omega (arith, c.loop-text-test.true)) c.args.tx.now.conn.now c.loop-text.tx.conn.now c.make_table.new.tx.conn.now
    c.loop-text.invariant.survives c.in_err-make_table.field-0.0 (c.in_err-make_table.ensures.told clean) in
    err_and c.from_residual.result c.from_residual.ensures.1 (λ fault is. subst (IsToldOf _) (sym is) told)
