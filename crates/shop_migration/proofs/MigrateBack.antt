-- What the tables of version 1 stood for, which follows from what the migrated tables stand for.
use Rattle.shop_schema.proofs.Common.{◌≡◌, ◌≢◌, ℕ, List, [], ◌∷◌, true, not, refl, sym, subst, ◌∙◌, arith, IsPermutation, AllByRecursion, and_parts}
use Rattle.shop_schema.proofs.Common.{IsPermutation-sym, IsPermutation-trans, Trees, Table, one_permutation, HasRows, SameBut, number_value, same_number, Text}
use Rattle.shop_schema.proofs.Common.{Rule, ByCode, ByComment, Books, without_terms, this_version, first_version, versioned_columns, rule_columns, counts_of}
use Rattle.shop_schema.proofs.Common.{StandsFor, StandsForVersion1, TermedRows, shop_schema, version_1_schema, later_tables, chain_table}
use Rattle.std.specs.Prelude.{◌==◌}
use Rattle.sqlite_value.specs.Order as sql
use Rattle.shop_migration.specs.Migrating.{AddsTables, PutsRule, SetsVersion, Tells}
use Rattle.shop_migration.proofs.MigrateTexts.{first_part, last_part}
use Rattle.shop_schema.proofs.Stands.{none_has, differ, first_rows, first_listed, first_named, one_changed}

-- ---- a table's one row

same_row : (a b : sql.Row) (rows : List sql.Row) → IsPermutation rows (a ∷ []) → IsPermutation rows (b ∷ []) → a ≡ b
same_row a b rows first second =
    let one : b ∷ [] ≡ a ∷ [] = one_permutation a (b ∷ []) (IsPermutation-trans _ _ _ (IsPermutation-sym _ _ first) second) in
    let back : b ≡ a = cc in sym back

same_token : (a b : Text) (trees : Trees) → Tells this_version a trees → Tells this_version b trees → a ≡ b
same_token a b trees first second =
    let is : versioned_columns this_version a ≡ versioned_columns this_version b = same_row _ _ _ first second in
    cc

by_code : (rule : Rule) → rule_columns ByCode ≡ rule_columns rule → rule ≡ ByCode
by_code ByCode is = refl
by_code ByComment is =
    let values : number_value 0 ≡ number_value 1 = cc in
    let none : ◌≡◌ {A = ℕ} 0 1 = same_number 0 1 values in
    absurd (omega (arith, none))

-- ---- all tables of version 1 but the first are as they were

module _ (old one two three new : Trees) where
  back : (ts : List Table) → none_has 57 ts ≡ true → none_has 59 ts ≡ true
      → AllByRecursion (λ t. one t.tree ≡ old t.tree) ts → AllByRecursion (λ t. t.tree ≢ 57 → two t.tree ≡ one t.tree) ts
      → AllByRecursion (λ t. t.tree ≢ 59 → three t.tree ≡ two t.tree) ts
      → AllByRecursion (λ t. t.tree ≢ 0 → new t.tree ≡ three t.tree) ts → AllByRecursion (λ t. t.tree ≢ 0 → old t.tree ≡ new t.tree) ts
  back [] p q a b c d = tt
  back (t ∷ ts) p q a b c d =
      let no_terms = and_parts (not (t.tree == 57)) (none_has 57 ts) p in
      let no_rule = and_parts (not (t.tree == 59)) (none_has 59 ts) q in
      (λ apart. sym (d.0 apart ∙ c.0 (differ t.tree 59 no_rule.0) ∙ b.0 (differ t.tree 57 no_terms.0) ∙ a.0), back ts no_terms.1 no_rule.1 a.1 b.1 c.1 d.1)

  -- if four steps turned the tables of version 1 into the tables of this version
  module _ (added : AddsTables old one) (filled : SameBut shop_schema 57 one two) (ruled : PutsRule two three) where
    abbrev first : List Table
    first = version_1_schema.tables

    -- the first three steps leave the table with the version as it was
    pub tells_still : (token : Text) → Tells first_version token old → Tells first_version token three
    tells_still token tells =
        let same : three 0 ≡ old 0 = ruled.others.0 (differ 0 59 refl) ∙ filled.0 (differ 0 57 refl) ∙ added.others.0 in
        subst (λ (tree : List sql.Row). HasRows 2 tree (versioned_columns first_version token ∷ [])) (sym same) tells

    module _ (token : Text) (set : SetsVersion three new token) where
      has_rule : HasRows 1 (new 59) (rule_columns ByCode ∷ [])
      has_rule =
          let filled_59 = (last_part (λ t. t.tree ≢ 57 → two t.tree ≡ one t.tree) first later_tables filled).1.0 in
          let set_59 = (last_part (λ t. t.tree ≢ 0 → new t.tree ≡ three t.tree) first later_tables set.others).1.0 in
          subst (λ (tree : List sql.Row). HasRows 1 tree (rule_columns ByCode ∷ []))
          (sym (set_59 (differ 59 0 refl))) (ruled.rule (filled_59 (differ 59 57 refl) ∙ added.no_rule))

      pub stood : Tells first_version token old → (books : Books) → StandsFor new books → StandsForVersion1 old (without_terms books)
      stood tells books s =
          let others = back first refl refl added.others (first_part (λ t. t.tree ≢ 57 → two t.tree ≡ one t.tree) first later_tables filled)
          (first_part (λ t. t.tree ≢ 59 → three t.tree ≡ two t.tree) first later_tables ruled.others)
          (first_part (λ t. t.tree ≢ 0 → new t.tree ≡ three t.tree) first later_tables set.others) in
          let told : HasRows 2 (old 0) (versioned_columns first_version books.catalogue.office_token ∷ []) =
          subst (λ (it : Text). HasRows 2 (old 0) (versioned_columns first_version it ∷ []))
          (same_token token books.catalogue.office_token new set.told s.chain) tells in
          first_named first_version (λ _ its. (its.terms ≡ []) × (its.catalogue.rule ≡ ByCode)) (counts_of (without_terms books)) old (without_terms books)
          (one_changed 0 new old 0 first (first_rows this_version (counts_of books) books) chain_table
          (versioned_columns first_version books.catalogue.office_token ∷ []) refl refl others told
          (first_listed this_version TermedRows (counts_of books) new books s))
          (refl, by_code books.catalogue.rule (same_row _ _ _ has_rule s.more.rows.1.0))
