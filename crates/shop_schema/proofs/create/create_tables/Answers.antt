use Rattle.shop_schema.proofs.Common.{sym, subst, Schema, state, MakeAll, shop_schema}
use Rattle.shop_schema.proofs.CreateTexts.{texts, make_all, made_empty, empty_keyed}
use Rattle.shop_schema.proofs.create.create_tables.Goals as goal

pub returns-clause-made : goal.returns-clause-made
returns-clause-made g c clean none =
    let all =
    c.in_ok-make_tables.ensures.made clean shop_schema
    (record { makes = subst (λ (s : Schema). MakeAll shop_schema s texts) (sym none) make_all; empty = rw none tt }) in
    let empty = made_empty shop_schema (state g.S.Store c.make_tables.new.tx.conn.now).now all in
    (all.makes, empty_keyed shop_schema (state g.S.Store c.make_tables.new.tx.conn.now).now.trees empty, empty)
