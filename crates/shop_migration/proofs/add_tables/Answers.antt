use Rattle.shop_schema.proofs.Common.{on_ok_then, clean_before}
use Rattle.shop_migration.proofs.MigrateTexts.{tables_made, tables_keyed, tables_left, tables_added}
use Rattle.shop_migration.proofs.add_tables.Goals as goal

pub returns-clause-added : goal.returns-clause-added
returns-clause-added g c clean =
    let one = c.in_ok-execute.ensures.ran (clean_before c.execute-2.ensures.inside clean) in
    on_ok_then c.execute-2.result (λ two books holds. tables_added _ _ _ one.0 two.0 books one.1 two.1 holds) (c.execute-2.ensures.ran clean)

pub returns-clause-shop : goal.returns-clause-shop
returns-clause-shop g c clean =
    let one = c.in_ok-execute.ensures.ran (clean_before c.execute-2.ensures.inside clean) in
    on_ok_then c.execute-2.result (λ two shop. tables_made _ _ _ one.0 two.0 one.1 two.1 shop) (c.execute-2.ensures.ran clean)

pub returns-clause-keyed : goal.returns-clause-keyed
returns-clause-keyed g c clean =
    let one = c.in_ok-execute.ensures.ran (clean_before c.execute-2.ensures.inside clean) in
    on_ok_then c.execute-2.result (λ two shop keyed. tables_keyed _ _ _ one.0 two.0 one.1 two.1 shop keyed) (c.execute-2.ensures.ran clean)

pub returns-clause-tables : goal.returns-clause-tables
returns-clause-tables g c clean =
    let one = c.in_ok-execute.ensures.ran (clean_before c.execute-2.ensures.inside clean) in
    on_ok_then c.execute-2.result (λ two shop. tables_left _ _ _ one.0 two.0 one.1 two.1 shop) (c.execute-2.ensures.ran clean)
