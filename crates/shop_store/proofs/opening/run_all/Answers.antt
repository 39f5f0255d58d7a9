use Rattle.shop_schema.proofs.Common.{Bor, Ok, refl, sym, ap, subst, map, List, ℕ, arith, drop_all, next_of, clean_before, within_none, within_of, within_then}
use Rattle.shop_store.specs.Runs.{Runs}
use Rattle.shop_store.proofs.opening.run_all.Goals as goal

pub loop-text-init : goal.loop-text-init
loop-text-init g c = record { within = within_none; ran = λ clean new rest. rest }

pub loop-text-preserved : goal.loop-text-preserved
loop-text-preserved g c =
    let inside = c.in_ok-execute.ensures.inside in record {
      within = within_then {s = Ok tt} c.loop-text.invariant.within (within_of inside);
      ran = λ clean new rest.
          let ran = c.in_ok-execute.ensures.ran clean in
          c.loop-text.invariant.ran (clean_before inside clean) new
          (subst (λ (texts : List (List ℕ)). Runs g.S.Store texts c.loop-text.tx.conn.now new)
          (sym (next_of c.args.texts.now c.loop-text.text-index _ (omega (arith, c.loop-text-test.true)))) (c.execute.new.tx.conn.now, ran.0, ran.1, rest));
    }

pub returns : goal.returns
returns g c =
    let last = c.loop-text.tx.conn.now in
    record {
      inside = c.loop-text.invariant.within;
      says = λ clean. c.loop-text.invariant.ran clean last
          (subst (λ (texts : List (List ℕ)). Runs g.S.Store texts last last)
          (sym (ap (λ (texts : List (Bor (List ℕ))). map (λ t. t.now) texts)
          (drop_all c.loop-text.text-index c.args.texts.now (omega (arith, c.loop-text-test.false)))))
          refl);
    }
