use Rattle.shop_schema.proofs.Common.{Some, None, State, Rule, ByCode, ByComment, seen_rule, TellsFirst, rule_value, rule_columns, rules, inside_as, ⊤}
use Rattle.shop_schema.proofs.Common.{◌∷◌, col, sym, ap, ◌∙◌, subst, slice_get, AllByRecursion, Books, Holds, Selects, plain_query, shop_schema, StoreFault}
use Rattle.shop_schema.proofs.Common.{Failed}
use Rattle.sql_rows.specs.Causes.{IsReadyInside, MetFaults, FailsToRead}
use Rattle.sql_rows.proofs.QueryFaults.{IsFine, fine_plain, first_met, err_then}
use Rattle.shop_schema.specs.Asked.{HoldsBooks}
use Rattle.shop_store.specs.Asked.{IsNoneOf}
use Rattle.shop_store.proofs.FindFaults.{IsSomeOf}
use Rattle.std.specs.Prelude.{Option, Result, IfErr}
use Rattle.sqlite.specs.Held.{state}
use Rattle.sqlite_value.specs.Order as sql
use Rattle.shop_types.specs.declared.rule.Rule.{Rule as TheRule}
use Rattle.shop_store.specs.declared.chain.TheConstants.{SELECT_RULE}
use Rattle.shop_store.proofs.Common.{◌≡◌, List, [], refl, everything, understood, Shown, column, Reads}
use Rattle.shop_store.proofs.SharedReads.{only_shown, reads_only}
use Rattle.shop_store.proofs.chain.rule_at.Goals as goal

same_rule : (a b : Rule) → rule_value a ≡ rule_value b → a ≡ b
same_rule ByCode ByCode h = refl
same_rule ByComment ByComment h = refl
same_rule a b h = cc

means : Selects shop_schema SELECT_RULE.now (plain_query 59 [] (col 1 1 ∷ []) [])
unfolding understood everything
means = record { names = _; is = refl; plain = (refl, refl); unlisted = refl }

rule_shown : (old new : State) (rows : List sql.Row) → Shown SELECT_RULE.now [] old new rows → (books : Books) → Holds old books
    → rows ≡ rule_columns books.catalogue.rule ∷ []
unfolding understood everything
rule_shown = only_shown SELECT_RULE.now 59 1 0 means (λ r. refl) rule_columns (λ books. books.catalogue.rule) (λ books trees s. s.more.rows.1.0)

rule_fine : IsFine shop_schema SELECT_RULE.now (plain_query 59 [] (col 1 1 ∷ []) []) []
unfolding understood everything
rule_fine = fine_plain 59 [] (col 1 1 ∷ []) [] means (refl, refl, refl) refl

met : {Fails : sql.Row → StoreFault → Type 0} (old new : State)
    → ((row : sql.Row) (fault : StoreFault) → Fails row fault → fault ≡ Failed → IsNoneOf (λ _. ⊤) rule_columns row) → IsReadyInside old → HoldsBooks old
    → (fault : StoreFault) → FailsToRead Fails SELECT_RULE.now [] old new fault → fault ≡ Failed → MetFaults old new
met old new refuses ready it =
    first_met (IsSomeOf (λ _. ⊤) rule_columns) shop_schema SELECT_RULE.now _ [] rule_fine old new it.1.schema_is
    (λ row fault fails failed is. refuses row fault fails failed is.0 is.1 is.2)
    (λ rows h. subst (AllByRecursion (IsSomeOf (λ _. ⊤) rule_columns)) (sym (rule_shown old new rows h it.0 it.1)) ((it.0.catalogue.rule, tt, refl), tt))
    ready

reads : {Fits : sql.Row → TheRule → Type 0} → ((row : sql.Row) (rule : TheRule) → Fits row rule → column row 0 ≡ rule_value (seen_rule rule))
    → (old new : State) (rows : List sql.Row)
    → (found : Option TheRule) (rule : TheRule) → Shown SELECT_RULE.now [] old new rows → TellsFirst Fits rows found
    → found ≡ Some rule → Reads old new (λ books. seen_rule rule ≡ books.catalogue.rule)
unfolding understood everything
reads =
    reads_only SELECT_RULE.now 59 1 0 means (λ r. refl) rule_columns (λ books. books.catalogue.rule) (λ books trees s. s.more.rows.1.0) same_rule seen_rule

-- there is a row
never_none : (Fits : sql.Row → TheRule → Type 0) (old new : State) (rows : List sql.Row) (found : Option TheRule) → Shown SELECT_RULE.now [] old new rows
    → TellsFirst Fits rows found → found ≡ None → HoldsBooks old → ⊥
never_none Fits old new rows found h first is it =
    let none : None ≡ slice_get rows 0 = subst (TellsFirst Fits rows) is first in
    let some : None ≡ Some (rule_columns it.0.catalogue.rule) = none ∙ ap (λ (rs : List sql.Row). slice_get rs 0) (rule_shown old new rows h it.0 it.1) in
    cc

pub returns-in-Ok-Some-clause-does : goal.returns-in-Ok-Some-clause-does
returns-in-Ok-Some-clause-does g c = record {
  inside = inside_as c.in-Ok-Some.ensures.inside;
  says = λ clean.
      let these = c.in-Ok-Some.ensures.shown clean in
      reads (λ row rule says. search rules) _ _ _ _ c.in-Ok-Some.rule these.1 these.2 c.in-Ok-Some.field-0-is;
}

pub returns-in-Ok-None-clause-fails : goal.returns-in-Ok-None-clause-fails
returns-in-Ok-None-clause-fails g c clean ready holds failed =
    let these = c.in-Ok-None.ensures.shown clean in
    absurd (never_none _ _ _ _ _ these.1 these.2 c.in-Ok-None.field-0-is holds)

pub returns-in-Err-clause-fails : goal.returns-in-Err-clause-fails
returns-in-Err-clause-fails g c clean ready holds =
    subst
    (λ (r : Result (Option TheRule) StoreFault).
    IfErr r (λ e. e ≡ Failed → MetFaults (state g.S.Store c.args.tx.now.conn.now) (state g.S.Store c.query_first.new.tx.conn.now)))
    c.in-Err.is
    (err_then c.query_first.result _ _ (c.query_first.ensures.told clean) (met _ _ (λ row fault says failed. search rules) ready holds))
