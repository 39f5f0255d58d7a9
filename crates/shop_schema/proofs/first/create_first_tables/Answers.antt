use Rattle.shop_schema.proofs.Common.{sym, subst, Schema, state, MakeAll, version_1_schema}
use Rattle.shop_schema.proofs.CreateTexts.{first_texts, make_first, made_empty, empty_keyed}
use Rattle.shop_schema.proofs.first.create_first_tables.Goals as goal

pub returns-clause-made : goal.returns-clause-made
returns-clause-made g c clean none =
    let now = (state g.S.Store c.make_tables.new.tx.conn.now).now in
    let all =
    c.in_ok-make_tables.ensures.made clean version_1_schema
    (record { makes = subst (λ (s : Schema). MakeAll version_1_schema s first_texts) (sym none) make_first; empty = rw none tt }) in
    let empty = made_empty version_1_schema now all in
    (all.makes, empty_keyed version_1_schema now.trees empty, empty)
