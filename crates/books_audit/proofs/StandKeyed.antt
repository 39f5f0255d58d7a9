-- A table that stands for values whose keys differ can be read in the order of its keys.
use Rattle.shop_schema.proofs.Common.{◌≡◌, ◌∙◌, List, map, true, subst, IsPermutation, AllByRecursion, bytes_eq, IsPermutation-refl, are_different, TableOf}
use Rattle.sqlite_value.specs.Order as sql
use Rattle.shop_schema.proofs.OneRow.{same_row}
use Rattle.audit_rows.specs.Lists.{Key}
use Rattle.audit_rows.proofs.Keys.{different_along, different-map, bytes_eq_symm}
use Rattle.audit_rows.proofs.Standing.{same_rows}
use Rattle.books_audit.specs.Listed.{AreRows, FullOf}
use Rattle.books_audit.proofs.FullLists.{fulls, seen_all, ones}
use Rattle.books_audit.specs.ReadLists.{AreKeyed}

module _ {X F : Type 0} {columns : F → sql.Row} {Fits : F → Type 0} (t : TableOf columns Fits) (small : F → X)
    (table : List sql.Row) (its : List F) (fit : AllByRecursion Fits its) (p : IsPermutation table (map columns its)) where
  -- what was read of the rows is kept of the values
  read_bag : (found : List X) → AreRows (FullOf columns Fits small) found table → (others : List F) × IsPermutation others its × (map small others ≡ found)
  read_bag found h =
      let f = fulls columns Fits small found found table h (IsPermutation-refl found) in
      (f.its, same_rows columns Fits (same_row t) table f.its its f.fit fit f.has p, f.keeps)

  pub seen_bag : (seen : X → F) → ((it : F) → seen (small it) ≡ it) → (found : List X)
      → AreRows (FullOf columns Fits small) found table → IsPermutation (map seen found) its
  seen_bag seen again found h =
      let b = read_bag found h in
      subst (λ l. IsPermutation l its) (seen_all seen small again b.0 b.2) b.1

  pub stands_keyed : (key : X → Key) → are_different (λ (a b : F). bytes_eq (key (small a)) (key (small b))) its ≡ true
      → AreKeyed (FullOf columns Fits small) key table
  stands_keyed key apart = record {
    ones = ones columns Fits small its table fit p;
    different = λ found h.
        let b = read_bag found h in
        subst (λ l. are_different (λ (x y : X). bytes_eq (key x) (key y)) l ≡ true) b.2
        (different-map (λ (x y : X). bytes_eq (key x) (key y)) small b.0
        ∙ different_along (λ (x y : F). bytes_eq (key (small x)) (key (small y))) (λ x y. bytes_eq_symm (key (small x)) (key (small y))) b.0 its b.1
        ∙ apart);
  }
