-- The one row of a table `chain` of version 1: it has a token, since the tables obey their schema.
use Rattle.shop_schema.proofs.Common.{and_parts, ◌≡◌, ◌&&◌, ◌==◌, pos, List, [], ◌∷◌, map, Bool, true, false, refl, ap, subst, inl, inr, IsPermutation}
use Rattle.shop_schema.proofs.Common.{AllByRecursion, cases_Bool, false≢true, IsPermutation-refl, column, Trees, HasRows, columns_of, number_value, Text}
use Rattle.shop_schema.proofs.Common.{same_if, first_version, versioned_columns, version_1_schema, chain_table, version_of, version_told}
use Rattle.shop_schema.specs.declared.known.KnownVersion.TheVariants.{This, First, Other}
use Rattle.std.specs.Prelude.{negsuc}
use Rattle.sqlite_value.specs.declared.value.Value.{Value}
use Rattle.sqlite_value.specs.declared.value.Value.TheVariants as value
use Rattle.sqlite_value.specs.Order.{Row}
use Rattle.sqlite_schema.specs.declared.schema.Constraint.TheVariants.{Datatype, NotNull}
use Rattle.sqlite_schema.specs.Rules.{passes, Obeys}
use Rattle.shop_migration.specs.Migrating.{Tells}

no_and : (a : Bool) → (a && false) ≡ true → ⊥
no_and a h = false≢true (and_parts a false h).1

no_both : (a c : Bool) → ((a && false) && c) ≡ true → ⊥
no_both a c h = no_and a (and_parts (a && false) c h).0

told_first : (v : Value) → version_told v ≡ First → v ≡ number_value first_version
told_first value.Null h = cc
told_first (value.Int (pos n)) h = elim (cases_Bool (n == 2)) [
  | inl is ↦ let no : This ≡ First = rw is at h in cc
  | inr isnt ↦ elim (cases_Bool (n == 1)) [
    | inl is ↦ ap number_value (same_if n 1 is)
    | inr neither ↦ let no : Other ≡ First = rw (isnt, neither) at h in cc
  ]
]
told_first (value.Int (negsuc n)) h = cc
told_first (value.Real x) h = cc
told_first (value.Text t) h = cc
told_first (value.Blob b) h = cc

module _ (db : Trees) where
  abbrev IsTyped : Row → Type 0
  IsTyped row = passes Datatype version_1_schema db chain_table row ≡ true

  abbrev IsThere : Row → Type 0
  IsThere row = passes NotNull version_1_schema db chain_table row ≡ true

  text_there : (row : Row) → IsTyped row → IsThere row → (token : Text) × (column row 2 ≡ value.Text token)
  text_there [] typed there = absurd (false≢true there)
  text_there (id ∷ []) typed there = absurd (false≢true there)
  text_there (id ∷ v ∷ []) typed there = absurd (no_and _ there)
  text_there (id ∷ v ∷ value.Null ∷ more) typed there = absurd (no_and _ there)
  text_there (id ∷ v ∷ value.Int n ∷ more) typed there = absurd (no_both _ _ typed)
  text_there (id ∷ v ∷ value.Real x ∷ more) typed there = absurd (no_both _ _ typed)
  text_there (id ∷ v ∷ value.Text t ∷ more) typed there = (t, refl)
  text_there (id ∷ v ∷ value.Blob b ∷ more) typed there = absurd (no_both _ _ typed)

  row_told : (tree : List Row) → AllByRecursion IsTyped tree → AllByRecursion IsThere tree → version_of (map (columns_of 1) tree) ≡ First
      → (token : Text) × HasRows 2 tree (versioned_columns first_version token ∷ [])
  row_told [] typed there told = cc
  row_told (row ∷ other ∷ more) typed there told = cc
  row_told (row ∷ []) typed there told =
      let version = told_first (column row 1) told in
      let token = text_there row typed.0 there.0 in
      (token.0, subst (IsPermutation (columns_of 2 row ∷ [])) (λ i. (version i ∷ token.1 i ∷ []) ∷ []) (IsPermutation-refl (columns_of 2 row ∷ [])))

  pub first_row : Obeys version_1_schema db → version_of (map (columns_of 1) (db 0)) ≡ First → (token : Text) × Tells first_version token db
  first_row obeys told = row_told (db 0) (obeys.rules Datatype).0 (obeys.rules NotNull).0 told
