-- The version of a database about which only the first table is known.
use Rattle.std.proofs.Common.{IfOk}
use Rattle.shop_schema.proofs.Common.{◌≡◌, ◌≢◌, ◌<◌, ◌^◌, ◌==◌, ℕ, pos, negsuc, List, [], ◌∷◌, codes, refl, map, cond, true, length, get_or, ap, sym, subst}
use Rattle.shop_schema.proofs.Common.{◌∙◌, arith, Ok, Err, Result, flat_map, IsPermutation-map, IsPermutation-sym, length_permutation, ne_eqb, one_permutation}
use Rattle.shop_schema.proofs.Common.{Null, Int, Real, Blob, column, Output, output, State, columns_of, number_value, KnownVersion, First, This, Other}
use Rattle.shop_schema.proofs.Common.{this_version, first_version, version_of, version_told, begins_so, Table, Index, chain_table, shop_schema, HaveFirst}
use Rattle.shop_schema.proofs.Common.{Selects, plain_query, answers}
use Rattle.std.specs.List.Sorted.{IsPermutation}
use Rattle.sqlite.specs.declared.types.Value.TheVariants.{Text}
use Rattle.sqlite_value.specs.Order.{Row}
use Rattle.sqlite.specs.State.{Shown}
use Rattle.shop_schema.specs.declared.known.KnownVersion.TheVariants.{Missing}
use Rattle.sqlite.specs.Term.{col}
use Rattle.sqlite_schema.specs.declared.schema.View.{View}
use Rattle.sqlite_tied.specs.Compute.{everything}
use Rattle.sqlite.specs.Listing.{understood}

abbrev pub version_text : List ℕ
version_text = codes "SELECT version FROM chain"

pub reads_version : (more : List Table) (indexes : List Index) (views : List View)
    → Selects (record { tables = chain_table ∷ more; indexes = indexes; views = views }) version_text (plain_query 0 [] (col 1 1 ∷ []) [])
unfolding understood everything
reads_version more indexes views = record { names = _; is = refl; plain = (refl, refl); unlisted = refl }

matching : (rows : List Row)
    → map (λ (o : Output). o.1) (map (output (plain_query 0 [] (col 1 1 ∷ []) [])) (flat_map (λ r. cond true (([] ∷ r ∷ []) ∷ []) []) rows))
    ≡ map (columns_of 1) rows
matching [] = refl
matching (r ∷ rows) = ap (λ t. columns_of 1 r ∷ t) (matching rows)

pub reads : (tables : List Table) (i : List Index) (v : List View) (old new : State) (found : List Row)
    → old.now.schema ≡ record { tables = tables; indexes = i; views = v } → begins_so tables
    → Shown version_text [] old new found → IsPermutation (map (columns_of 1) (old.now.trees 0)) found
reads [] i v old new found has none h = elim none [ ]
reads (table ∷ more) i v old new found has first h =
    let q = plain_query 0 [] (col 1 1 ∷ []) [] in
    let known : old.now.schema ≡ record { tables = chain_table ∷ more; indexes = i; views = v } =
    has ∙ ap (λ t. record { tables = t ∷ more; indexes = i; views = v }) first in
    let a = answers _ version_text q [] old new known (reads_version more i v) found h in
    let all = IsPermutation-map (λ (o : Output). o.1) a.kept a.ordered a.same in
    let kept : map (λ (o : Output). o.1) a.kept ≡ map (columns_of 1) (old.now.trees 0) =
    ap (λ (k : List Output). map (λ (o : Output). o.1) k) (a.distinct ∙ ap (map (output q)) a.grouped) ∙ matching (old.now.trees 0) in
    subst (λ l. IsPermutation l found) kept (subst (IsPermutation (map (λ (o : Output). o.1) a.kept)) (sym a.shown) all)

pub read_if : {R E : Type 0} (items : R → List Row) (r : Result R E) (old new : State)
    → IfOk r (λ rows. Shown version_text [] old new (items rows)) → begins_so old.now.schema.tables
    → IfOk r (λ rows. IsPermutation (map (columns_of 1) (old.now.trees 0)) (items rows))
read_if items (Ok rows) old new shown has = reads old.now.schema.tables old.now.schema.indexes old.now.schema.views old new (items rows) refl has shown
read_if items (Err e) old new shown has = tt

pub first_is : (tables others : List Table) → others ≡ shop_schema.tables
    → (HaveFirst tables others → begins_so tables) × (begins_so tables → HaveFirst tables others)
first_is [] others is = (λ h. h, λ h. h)
first_is (table ∷ more) others is = rw is (λ h. h.0, λ e. (e, refl))

-- ---- what rows in any order tell

pub told_none : (rows found : List Row) → length rows ≢ 1 → IsPermutation found rows → Missing ≡ version_of found
told_none rows [] some same = refl
told_none rows (r ∷ []) some same = absurd (omega (arith, some, length_permutation _ _ same))
told_none rows (r ∷ s ∷ found) some same = refl

pub told_one : (row : Row) (rows found : List Row) (v : KnownVersion) → length rows ≡ 1
    → row ≡ get_or rows 0 row → v ≡ version_told (column row 0) → IsPermutation found rows → v ≡ version_of found
told_one row [] found v one at told same = absurd (omega arith)
told_one row (r ∷ []) found v one at told same =
    told ∙ ap (λ (x : Row). version_told (column x 0)) at ∙ ap version_of (sym (one_permutation r found (IsPermutation-sym _ _ same)))
told_one row (r ∷ s ∷ rows) found v one at told same = absurd (omega arith)

pub other_number : (n : ℕ) → n ≢ this_version → n ≢ first_version → Other ≡ version_told (Int (pos n))
other_number n other later =
    ap (λ b. cond b This Other) (sym (ne_eqb n this_version other))
    ∙ ap (λ b. cond (n == this_version) This (cond b First Other)) (sym (ne_eqb n first_version later))

pub told_other : (row : Row) → ((n : ℕ) → n < 2 ^ 32 → 0 < length row → column row 0 ≢ number_value n) → Other ≡ version_told (column row 0)
told_other [] other = refl
told_other (Int (pos n) ∷ row) other =
    other_number n (λ is. other this_version (omega arith) (omega arith) (ap number_value is))
    (λ is. other first_version (omega arith) (omega arith) (ap number_value is))
told_other (Int (negsuc n) ∷ row) other = refl
told_other (Null ∷ row) other = refl
told_other (Real x ∷ row) other = refl
told_other (Text t ∷ row) other = refl
told_other (Blob b ∷ row) other = refl

pub told_number : (row : Row) (n : ℕ) → column row 0 ≡ number_value n → version_told (number_value n) ≡ version_told (column row 0)
told_number row n is = ap version_told (sym is)
