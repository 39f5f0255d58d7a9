use Rattle.shop_types.proofs.Common.{◌∙◌, sym, IfOk-weaker}
use Rattle.till_shows.proofs.FoundLemmas.{if_err}
use Rattle.till_shows.proofs.ListLemmas.{whole_is}
use Rattle.till_shows.proofs.lists.whole_table.Goals as goal

pub returns-clause-shown : goal.returns-clause-shown
returns-clause-shown c = IfOk-weaker c.table_of.result _ _ (λ table is. sym (whole_is c.args.parts.now c.args.body.now) ∙ is) c.table_of.ensures.shown

pub returns-clause-other : goal.returns-clause-other
returns-clause-other c = if_err c.table_of.result _ _ (λ fault is e. sym (whole_is c.args.parts.now c.args.body.now) ∙ is e) c.table_of.ensures.other
