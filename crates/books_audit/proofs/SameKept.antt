-- Two books for which the same tables stand have the same kept commands of branches, and the same keys of head office's.
use Rattle.shop_schema.proofs.Common.{◌≡◌, ◌==◌, ℕ, List, [], ◌∷◌, map, not, Bool, true, false, refl, ap, subst, arith, IsTrue, IsPermutation, pos}
use Rattle.shop_schema.proofs.Common.{AllByRecursion, all_weaker, nat_tests, IsPermutation-map, IsPermutation-trans, IsPermutation-sym, Value, Int, column}
use Rattle.shop_schema.proofs.Common.{map-map, Owned, Kept, OfficeKept, same_command, Books, kept_columns, office_kept_columns, kept_rows, command_form, IsKept}
use Rattle.shop_schema.proofs.Common.{IsNumber}
use Rattle.sqlite.specs.declared.types.Value.TheVariants.{Text}
use Rattle.sqlite_value.specs.Order as sql
use Rattle.shop_schema.proofs.OneToOne.{command_equal, forms_are_one_to_one}
use Rattle.audit_rows.specs.Canons.{office_key}
use Rattle.audit_rows.proofs.Standing.{same_bag_of, first_bag, second_bag}
use Rattle.books_audit.specs.declared.tables.TableRows.{TableRows}
use Rattle.books_audit.specs.Audits.{HaveBooks}

-- ---- the rows of branches and of head office in one table

-- the caller is head office
by_office : sql.Row → Bool
by_office [] = false
by_office (Int (pos n) ∷ row) = n == 0
by_office (v ∷ row) = false

of_branches : (kept : List (Owned Kept)) → AllByRecursion IsKept kept → AllByRecursion (λ r. by_office r ≡ false) (map kept_columns kept)
unfolding by_office
of_branches [] all = tt
of_branches (row ∷ kept) all = (apart row.owner all.0.0, of_branches kept all.1)
  where
    apart : (n : ℕ) → IsNumber n → (n == 0) ≡ false
    apart n h = grind (arith, nat_tests)

of_office : (kept : List OfficeKept) → AllByRecursion (λ r. by_office r ≡ true) (map office_kept_columns kept)
unfolding by_office
of_office [] = tt
of_office (it ∷ kept) = (refl, of_office kept)

one_kept : (a b : Owned Kept) → IsKept a → IsKept b → kept_columns a ≡ kept_columns b → a ≡ b
one_kept a b p q h =
    let owner : a.owner ≡ b.owner = cc in
    let key : a.it.command.key ≡ b.it.command.key = cc in
    let form : command_form a.it.command ≡ command_form b.it.command = cc in
    let reply : a.it.reply ≡ b.it.reply = cc in
    let same : IsTrue (same_command a.it.command b.it.command) = (forms_are_one_to_one a.it.command b.it.command p.1.moment q.1.moment key).0 form in
    let command = command_equal a.it.command b.it.command same in
    (λ i. record { owner = owner i; it = record { command = command i; reply = reply i } })

key_of : Value → List ℕ
key_of (Text t) = t
key_of v = []

office_keys_are : (kept : List OfficeKept) → map (λ r. key_of (column r 1)) (map office_kept_columns kept) ≡ map office_key kept
unfolding key_of
office_keys_are kept = map-map (λ r. key_of (column r 1)) office_kept_columns kept

-- one table of kept commands for the lists of two books
module _ (ks ls : List (Owned Kept)) (os ps : List OfficeKept) (k : AllByRecursion IsKept ks)
    (l : AllByRecursion IsKept ls) (both : IsPermutation (kept_rows ks os) (kept_rows ls ps)) where
  pub same_kept : IsPermutation ks ls
  same_kept =
      same_bag_of kept_columns IsKept one_kept ks ls k l
      (first_bag (λ r. not (by_office r)) (map kept_columns ks) (map office_kept_columns os) (map kept_columns ls) (map office_kept_columns ps)
      (all_weaker (λ r. by_office r ≡ false) (λ r. not (by_office r) ≡ true) (λ r h. ap not h) _ (of_branches ks k))
      (all_weaker (λ r. by_office r ≡ true) (λ r. not (by_office r) ≡ false) (λ r h. ap not h) _ (of_office os))
      (all_weaker (λ r. by_office r ≡ false) (λ r. not (by_office r) ≡ true) (λ r h. ap not h) _ (of_branches ls l))
      (all_weaker (λ r. by_office r ≡ true) (λ r. not (by_office r) ≡ false) (λ r h. ap not h) _ (of_office ps)) both)

  pub same_office_keys : IsPermutation (map office_key os) (map office_key ps)
  same_office_keys =
      let rows =
      second_bag by_office (map kept_columns ks) (map office_kept_columns os) (map kept_columns ls)
      (map office_kept_columns ps) (of_branches ks k) (of_office os) (of_branches ls l) (of_office ps) both in
      subst (IsPermutation (map office_key os)) (office_keys_are ps)
      (subst (λ l. IsPermutation l (map (λ r. key_of (column r 1)) (map office_kept_columns ps)))
      (office_keys_are os) (IsPermutation-map (λ r. key_of (column r 1)) _ _ rows))

module _ (tables : TableRows) (c b : Books) (s : HaveBooks tables c) (t : HaveBooks tables b) where
  both : IsPermutation (kept_rows b.kept b.catalogue.kept) (kept_rows c.kept c.catalogue.kept)
  both = IsPermutation-trans _ _ _ (IsPermutation-sym _ _ t.rows.kept) s.rows.kept

  pub kept : IsPermutation b.kept c.kept
  kept = same_kept b.kept c.kept b.catalogue.kept c.catalogue.kept t.values.kept s.values.kept both

  pub office_keys : IsPermutation (map office_key b.catalogue.kept) (map office_key c.catalogue.kept)
  office_keys = same_office_keys b.kept c.kept b.catalogue.kept c.catalogue.kept t.values.kept s.values.kept both
