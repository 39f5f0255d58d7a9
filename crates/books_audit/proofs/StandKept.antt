-- If the table of kept commands stands for books, it can be read.
use Rattle.shop_schema.proofs.Common.{◌≡◌, ◌∙◌, List, [], ◌∷◌, ◌++◌, map, true, refl, sym, ap, IsPermutation, AllByRecursion, bytes_eq, IsPermutation-sym}
use Rattle.shop_schema.proofs.Common.{IsPermutation-trans, Owned, are_different, Kept, OfficeKept, Books, kept_rows, IsNumber, IsKept, IsOfficeKept}
use Rattle.books_audit.specs.Listed.{AreRows, IsListed}
use Rattle.books_audit.specs.Kept.{OfBranch, OfOffice, caller_row, IsCallerRow}
use Rattle.books_audit.specs.declared.kept_rows.CallerRow.{CallerRow}
use Rattle.audit_rows.specs.Lists.{Key}
use Rattle.audit_rows.specs.Canons.{office_key}
use Rattle.audit_rows.specs.Ordered.{kept_row}
use Rattle.audit_rows.specs.declared.rows.CheckedKept.{CheckedKept}
use Rattle.audit_rows.proofs.Keys.{different_along, different-map, bytes_eq_symm}
use Rattle.audit_rows.proofs.Standing.{all_moved}
use Rattle.books_audit.specs.declared.tables.TableRows.{TableRows}
use Rattle.books_audit.specs.declared.tables.TheConstants.{KEPT}
use Rattle.books_audit.specs.Tables.{rows_in}
use Rattle.books_audit.specs.Audits.{HaveBooks}
use Rattle.books_audit.specs.Keys.{office_caller, branch_caller, KeptCanBeRead}
use Rattle.books_audit.proofs.KeptRows.{KeptOf, kept_of}
use Rattle.books_audit.proofs.SameKept.{same_kept, same_office_keys}

-- ---- each row is a kept command's

all_ones : (kept : List (Owned Kept)) (office : List OfficeKept) → AllByRecursion IsKept kept
    → AllByRecursion IsOfficeKept office → AllByRecursion (IsListed IsCallerRow) (kept_rows kept office)
all_ones [] [] h k = tt
all_ones [] (it ∷ office) h k = ((caller_row (OfOffice it), record { it = OfOffice it; has = refl; fits = k.0; keeps = refl }), all_ones [] office h k.1)
all_ones (row ∷ kept) office h k = ((caller_row (OfBranch row), record { it = OfBranch row; has = refl; fits = h.0; keeps = refl }), all_ones kept office h.1 k)

-- ---- no two rows have one key

module _ (tables : TableRows) (b : Books) (t : HaveBooks tables b) where
  ones : AllByRecursion (IsListed IsCallerRow) (rows_in tables KEPT)
  ones = all_moved (IsListed IsCallerRow) _ _ (IsPermutation-sym _ _ t.rows.kept) (all_ones b.kept b.catalogue.kept t.values.kept t.values.catalogue.kept)

  module _ (found : List CallerRow) (office : List Key) (kept : List CheckedKept)
      (rows : AreRows IsCallerRow found (rows_in tables KEPT)) (branches : AllByRecursion (λ (x : CheckedKept). IsNumber x.branch) kept)
      (same : IsPermutation found (map office_caller office ++ map branch_caller kept)) where
    of : KeptOf (rows_in tables KEPT) office kept
    of = kept_of (rows_in tables KEPT) office kept branches (record { found = found; are_rows = rows; same = same })

    both : IsPermutation (kept_rows of.kept of.office) (kept_rows b.kept b.catalogue.kept)
    both = IsPermutation-trans _ _ _ (IsPermutation-sym _ _ of.has) t.rows.kept

    office_differ : are_different bytes_eq office ≡ true
    office_differ =
        let keys = same_office_keys of.kept b.kept of.office b.catalogue.kept of.kept_fit t.values.kept both in
        ap (are_different bytes_eq) (sym of.office_keys) ∙ different_along bytes_eq bytes_eq_symm _ _ keys
        ∙ different-map bytes_eq office_key b.catalogue.kept ∙ t.keys.office_kept

    kept_differ : are_different (λ (x y : CheckedKept). bytes_eq (x.branch ∷ x.key) (y.branch ∷ y.key)) kept ≡ true
    kept_differ =
        let bag = same_kept of.kept b.kept of.office b.catalogue.kept of.kept_fit t.values.kept both in
        let same = λ (x y : CheckedKept). bytes_eq (x.branch ∷ x.key) (y.branch ∷ y.key) in
        ap (are_different same) (sym of.kept_keys) ∙ different-map same kept_row of.kept
        ∙ different_along (λ x y. same (kept_row x) (kept_row y))
        (λ x y. bytes_eq_symm (x.owner ∷ x.it.command.key) (y.owner ∷ y.it.command.key)) of.kept b.kept bag
        ∙ t.keys.kept

  pub kept_can_be_read : KeptCanBeRead tables
  kept_can_be_read = record { ones = ones; office = office_differ; kept = kept_differ }
