use Rattle.shop_schema.proofs.Common.{Bor, List, ℕ, [], sym, ap, subst, ◌∙◌, ◌+◌, map, drop, arith, drop_all, map_push, state, next_of, and_then, done}
use Rattle.shop_schema.proofs.Common.{some_calls, ⊤, Err, IsShop}
use Rattle.sql_rows.proofs.CallFaults.{fails_behind}
use Rattle.sql_rows.proofs.Chaining.{one_call}
use Rattle.books_audit.specs.Tables.{AreRowsOf}
use Rattle.books_audit.proofs.ReadFaults.{select_each, read_at, passed_on, memory_fine}
use Rattle.books_audit.proofs.Told.{SoFar, next_table, one_more, all_read}
use Rattle.books_audit.proofs.tables.read_each.Goals as goal

pub loop-text-preserved : goal.loop-text-preserved
loop-text-preserved g c = done (and_then (some_calls c.loop-text.invariant) (one_call c.in_ok-rows.ensures.does)) (λ said has ts h.
    let trees = (state g.S.Store c.args.tx.now.conn.now).now.trees in
    let read = map (λ rows. rows.items) c.loop-text.all.items in
    let left = map (λ t. t.now) (drop (c.loop-text.text-index + 1) c.args.texts.now) in
    let next = next_of c.args.texts.now c.loop-text.text-index _ (omega (arith, c.loop-text-test.true)) in
    let pushed = ap (map (λ rows. rows.items)) c.in_ok-push.ensures.items ∙ map_push (λ rows. rows.items) c.loop-text.all.items c.in_ok-rows.rows in
    let before = said.0 has ts h in
    let so = subst (λ texts. SoFar trees texts read ts) next before.0 in
    let told = said.1 (ap (λ d. d.schema) before.1 ∙ has) in
    let t = next_table so in (
      subst (λ all. SoFar trees left all ts) (sym pushed)
          (one_more trees _ left read ts c.in_ok-rows.rows.items so
          (λ t means. subst (λ d. AreRowsOf t d.trees c.in_ok-rows.rows.items) before.1 (told t means).0)),
      (told t.0 t.1).1 ∙ before.1,
    ))

pub returns-clause-does : goal.returns-clause-does
returns-clause-does g c = done (some_calls c.loop-text.invariant) (λ said has ts h.
    let none =
    ap (λ (texts : List (Bor (List ℕ))). map (λ t. t.now) texts)
    (drop_all c.loop-text.text-index c.args.texts.now (omega (arith, c.loop-text-test.false))) in
    let trees = (state g.S.Store c.args.tx.now.conn.now).now.trees in
    let read = said has ts h in
    let so : SoFar trees [] (map (λ rows. rows.items) c.loop-text.all.items) ts =
    subst (λ left. SoFar trees left (map (λ rows. rows.items) c.loop-text.all.items) ts) none read.0 in
    (all_read trees _ ts so, read.1))

pub returns-in_err-rows-clause-fails : goal.returns-in_err-rows-clause-fails
returns-in_err-rows-clause-fails g c ts reads clean ready has =
    let e = c.in_err-rows.field-0.0 in
    let it = read_at ts c.args.texts.now reads c.loop-text.text-index _ (omega (arith, c.loop-text-test.true)) in
    passed_on c.from_residual.result e
    (fails_behind {Y = ⊤} c.read_whole.new.tx.conn (Err e) IsShop IsShop c.loop-text.invariant.inside
    (λ clean has. ap (λ d. d.schema) (c.loop-text.invariant.says clean has ts (select_each ts _ reads)).1 ∙ has)
    c.in_err-rows.ensures.does.inside.survives (c.in_err-rows.ensures.fails it.0 it.1) clean ready has)
    c.from_residual.ensures.1

pub returns-in_err-push-clause-fails : goal.returns-in_err-push-clause-fails
returns-in_err-push-clause-fails g c ts reads clean ready has = memory_fine c.from_residual-in_err-push.result _ c.from_residual-in_err-push.ensures.1
