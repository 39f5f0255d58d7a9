-- Tables of shared rows stand for lists.
use Rattle.shop_schema.proofs.Common.{◌≡◌, ◌<◌, ◌≤◌, ◌+◌, ◌-◌, ◌==◌, ◌^◌, ◌++◌, ℕ, List, [], ◌∷◌, map, length, false, Option, Some, None, refl, sym, ap, subst}
use Rattle.shop_schema.proofs.Common.{◌∙◌, arith, IsPermutation, length_permutation, IfSome, if◌then◌else◌, AllByRecursion, all_map, all_weaker, nat_tests}
use Rattle.shop_schema.proofs.Common.{map-map, Moment, IsMoment, Owned, IsCounted, numbered, numbered_from, at, owned_by, Branch, head, branch_columns}
use Rattle.shop_schema.proofs.Common.{IsShared, AreShared, IsLast, IsBranch}
use Rattle.sqlite_value.specs.Order as sql
use Rattle.books_audit.specs.Rows.{shared_row, told_row, IsSharedRow}
use Rattle.books_audit.specs.declared.shared.SharedRow.{SharedRow}
use Rattle.books_audit.specs.Columns.{told_columns, IsTold}
use Rattle.audit_rows.specs.Ordered.{last_of, lasts_from}
use Rattle.audit_rows.specs.declared.rows.CheckedBranch.{CheckedBranch}
use Rattle.audit_rows.proofs.LastLemmas.{last_at, last_in}
use Rattle.books_audit.specs.ReadLists.{PlacesRead}
use Rattle.books_audit.proofs.FullLists.{fulls, shared_rows, shared_fit}
use Rattle.audit_rows.proofs.Maps.{length-map}

pub record SharedOf {A S : Type 0} (columns : ℕ × A → sql.Row) (P : A → Type 0) (seen : A → S) (table : List sql.Row) (kept : List S) : Type 0 where
  pub items : List A
  pub has : IsPermutation table (map columns (numbered items))
  pub fit : AreShared P items
  pub keeps : map seen items ≡ kept

module _ {A S : Type 0} (columns : ℕ × A → sql.Row) (P : A → Type 0) (seen : A → S) where
  pub shared_of : {table : List sql.Row} {kept : List S}
      → PlacesRead (IsSharedRow columns P seen) (λ row. row.number) (λ row. row.it) table kept → SharedOf columns P seen table kept
  shared_of {table} {kept} r =
      let f = fulls columns (IsShared P) (shared_row seen) r.found r.sorted table r.are_rows r.same in
      let firsts : map (λ (it : ℕ × A). it.0) f.its ≡ map (λ (row : SharedRow S). row.number) r.sorted =
      sym (map-map (λ (row : SharedRow S). row.number) (shared_row seen) f.its) ∙ ap (map (λ (row : SharedRow S). row.number)) f.keeps in
      let items = map (λ (it : ℕ × A). it.1) f.its in
      let are : map seen items ≡ kept =
      map-map seen (λ (it : ℕ × A). it.1) f.its ∙ sym (map-map (λ (row : SharedRow S). row.it) (shared_row seen) f.its)
      ∙ ap (map (λ (row : SharedRow S). row.it)) f.keeps ∙ r.keeps in
      let size : length table ≡ length items = sym (length_permutation _ _ f.has) ∙ length-map columns f.its ∙ sym (length-map (λ (it : ℕ × A). it.1) f.its) in
      record {
        items = items;
        has = shared_rows columns table f.its (subst (IsCounted 1) (sym firsts) r.counted) f.has;
        fit = (subst (λ n. n < 2 ^ 32) size r.few, shared_fit P f.its f.fit);
        keeps = are;
      }

-- ---- branches, whose last moments are in a list of their own

abbrev Told : Type 0
Told = Branch × Option Moment

not_first : (n : ℕ) → 1 ≤ n → (n + 1 == 1) ≡ false
not_first n h = grind (arith, nat_tests)

behind : (k m n : ℕ) (x : CheckedBranch) (xs : List CheckedBranch) → m ≡ n + k → 1 ≤ n
    → head (owned_by m (lasts_from k (x ∷ xs))) ≡ head (owned_by m (lasts_from (k + 1) xs))
behind k m n x xs e low =
    last_at k (x ∷ xs) (n + 1) m (omega (arith, e)) (omega arith)
    ∙ ap (λ b. last_in (if b then x ∷ [] else at (n + 1 - 1) xs)) (not_first n low) ∙ ap (λ (j : ℕ). last_in (at j xs)) less
    ∙ sym (last_at (k + 1) xs n m (omega (arith, e)) low)
  where
    less : n + 1 - 1 ≡ n
    less = omega arith

pub tell : (k : ℕ) (items : List Told) (l : List (Owned Moment))
    → ((m : ℕ) → k ≤ m → head (owned_by m l) ≡ head (owned_by m (lasts_from k (map told_row items))))
    → map (branch_columns l) (numbered_from k (map (λ (it : Told). it.0) items)) ≡ map told_columns (numbered_from k items)
tell k [] l h = refl
tell k (it ∷ items) l h =
    let own : head (owned_by k l) ≡ it.1 = h k (omega arith) ∙ last_at k (told_row it ∷ map told_row items) 1 k (omega arith) (omega arith) in
    (λ i.
    told_columns (k, (it.0, own i))
    ∷ tell (k + 1) items l
    (λ m low. h m (omega (arith, low)) ∙ behind k m (m - k) (told_row it) (map told_row items) (omega (arith, low)) (omega (arith, low))) i)

pub lasts_fit : (k : ℕ) (items : List Told) → AllByRecursion IsTold items → AllByRecursion IsLast (lasts_from k (map told_row items))
lasts_fit k [] h = tt
lasts_fit k (it ∷ items) h = go it.1 h.0.1 (lasts_fit (k + 1) items h.1)
  where
    go : (o : Option Moment) → IfSome o IsMoment → AllByRecursion IsLast (lasts_from (k + 1) (map told_row items))
        → AllByRecursion IsLast (last_of k o ++ lasts_from (k + 1) (map told_row items))
    go None is more = more
    go (Some m) is more = (is, more)

pub branches_fit : (items : List Told) → AllByRecursion IsTold items → AllByRecursion IsBranch (map (λ (it : Told). it.0) items)
branches_fit items h = all_map IsBranch (λ it. it.0) items (all_weaker IsTold (λ it. IsBranch it.0) (λ it fits. fits.0) items h)
