use Rattle.shop_schema.proofs.Common.{Ok, ⊤, Term, Update, State, ExecutesInside, Means, are_kept, writes_by, plain_query, sets_row, Rule, ByCode, ByComment}
use Rattle.shop_schema.proofs.Common.{Books, seen_rule, shop_schema, chain_rule_table, rule_value, rule_columns, StandsWith, Writes}
use Rattle.shop_schema.proofs.Listed.{own_rows}
use Rattle.shop_schema.proofs.Stands.{stands_but}
use Rattle.shop_store.specs.declared.chain.TheConstants.{UPDATE_RULE}
use Rattle.shop_store.proofs.Common.{◌≡◌, ℕ, List, [], ◌∷◌, true, arith, refl, everything, understood, col, does_so}
use Rattle.shop_store.proofs.chain.set_rule.Goals as goal
use Rattle.shop_schema.specs.Trees.{chain_rule_tree}

abbrev rule_terms : List Term
rule_terms = col 1 0 ∷ col 1 0 ∷ col 0 0 ∷ []

update_rule_means : Means shop_schema UPDATE_RULE.now (Update 22 (record { lets = []; body = plain_query chain_rule_tree [] rule_terms [] }))
unfolding understood everything
update_rule_means = record { is = refl; plain = (refl, refl) }

kept_rule : (rule : Rule) → are_kept chain_rule_table.columns (rule_columns rule) ≡ true
kept_rule ByCode = refl
kept_rule ByComment = refl

abbrev with_rule : Rule → Books → Books
with_rule rule books = record books { catalogue = record books.catalogue { rule = rule } }

sets_rule : (rule : Rule) (old new : State) (count : ℕ) → ExecutesInside 0 UPDATE_RULE.now (rule_value rule ∷ []) old new (Ok count)
    → Writes old new (λ _. ⊤) (λ books. record books { catalogue = record books.catalogue { rule = rule } })
sets_rule rule old new count h counts =
    writes_by shop_schema (StandsWith counts) old new (λ _. ⊤) (with_rule rule) (λ has.
    sets_row shop_schema (StandsWith counts) UPDATE_RULE.now 22 chain_rule_table 1 [] rule_terms
    (rule_value rule ∷ []) rule_columns (λ vs. true) (λ it. true) (λ vs. rule_value rule ∷ []) (λ it. rule)
    (λ it. refl) (λ it. refl) (λ it. kept_rule rule) old new has
    update_rule_means refl refl count h (own_rows old.now.trees chain_rule_tree)
    (λ r. refl) (λ r. refl) (λ r. refl) (λ r. refl) (λ v vs. refl) (λ _. ⊤) (with_rule rule)
    (λ them same s given sets.
    stands_but 22 chain_rule_table refl refl counts counts them (with_rule rule them) (rule_columns rule ∷ []) refl old.now.trees new.now.trees same s
    (sets (them.catalogue.rule ∷ []) s.more.rows.1.0 (omega arith))))

pub returns : goal.returns
returns g c =
    does_so c.execute.ensures.inside (rw (c.to_sql.ensures, c.rule_code.ensures) at c.execute.ensures.ran)
    (λ _ ran. sets_rule (seen_rule c.args.rule) _ _ ran.0 ran.1)
