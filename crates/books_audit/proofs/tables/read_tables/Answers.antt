use Rattle.shop_schema.proofs.Common.{⊤, Err, ◌∷◌, ap, subst, ◌∙◌, map, drop}
use Rattle.shop_schema.proofs.Common.{state, clean_within, within_of, inside_as, inside_then, shop_schema, IsShop, chain_table}
use Rattle.sql_rows.proofs.CallFaults.{fails_behind}
use Rattle.books_audit.proofs.Places.{chain, others}
use Rattle.books_audit.proofs.ReadFaults.{select_each, passed_on, memory_fine}
use Rattle.shop_schema.specs.Shop.{HaveRows}
use Rattle.books_audit.specs.declared.tables.TheConstants.{OTHER_TEXTS}
use Rattle.books_audit.proofs.Told.{at_places}
use Rattle.books_audit.proofs.tables.read_tables.Goals as goal

pub returns-clause-does : goal.returns-clause-does
returns-clause-does g c = record {
  inside = inside_as (inside_then c.in_ok-chain.ensures.does.inside c.in_ok-all.ensures.does.inside);
  says = λ clean has.
      let behind = drop 1 shop_schema.tables in
      let first = c.in_ok-chain.ensures.does.says (clean_within c.in_ok-all.ensures.does.inside clean) has chain_table chain.means in
      let rest = c.in_ok-all.ensures.does.says clean (ap (λ d. d.schema) first.1 ∙ has) behind (select_each behind (map (λ t. t.now) OTHER_TEXTS) others) in
      let lists = map (λ rows. rows.items) c.in_ok-all.all.items in
      let trees = (state g.S.Store c.args.tx.now.conn.now).now.trees in
      let read = subst (λ d. HaveRows behind d.trees lists) first.1 rest.0 in (
        at_places trees (record { all = c.insert.new.self }) shop_schema.tables (c.in_ok-chain.chain.items ∷ lists)
            (ap (map (λ rows. rows.items)) c.in_ok-insert.ensures.items) (first.0, read),
        rest.1 ∙ first.1,
      );
}

pub returns-in_err-chain-clause-fails : goal.returns-in_err-chain-clause-fails
returns-in_err-chain-clause-fails g c clean ready has =
    passed_on c.from_residual.result c.in_err-chain.field-0.0 (c.in_err-chain.ensures.fails chain_table chain clean ready has) c.from_residual.ensures.1

pub returns-in_err-all-clause-fails : goal.returns-in_err-all-clause-fails
returns-in_err-all-clause-fails g c clean ready has =
    let e = c.in_err-all.field-0.0 in
    passed_on c.from_residual-in_err-all.result e
    (fails_behind {Y = ⊤} c.read_each.new.tx.conn (Err e) IsShop IsShop (within_of c.in_ok-chain.ensures.does.inside)
    (λ clean has. ap (λ d. d.schema) (c.in_ok-chain.ensures.does.says clean has chain_table chain.means).1 ∙ has)
    c.in_err-all.ensures.does.inside.survives (c.in_err-all.ensures.fails (drop 1 shop_schema.tables) others) clean ready has)
    c.from_residual-in_err-all.ensures.1

pub returns-in_err-insert-clause-fails : goal.returns-in_err-insert-clause-fails
returns-in_err-insert-clause-fails g c clean ready has = memory_fine c.from_residual-in_err-insert.result _ c.from_residual-in_err-insert.ensures.1
