-- The table of kept commands stands for head office's commands and for the branches' commands.
use Rattle.shop_schema.proofs.Common.{◌≡◌, ◌≢◌, ◌++◌, ℕ, List, [], ◌∷◌, map, refl, sym, ap, subst, ◌∙◌, arith, IsPermutation, AllByRecursion}
use Rattle.shop_schema.proofs.Common.{IsPermutation-trans, IsPermutation-append_comm, Owned, Kept, OfficeKept, kept_columns, office_kept_columns, kept_rows}
use Rattle.shop_schema.proofs.Common.{IsNumber, IsKept, IsOfficeKept}
use Rattle.sqlite_value.specs.Order as sql
use Rattle.audit_rows.specs.Lists.{Key}
use Rattle.audit_rows.specs.Ordered.{kept_row}
use Rattle.audit_rows.specs.declared.rows.CheckedKept.{CheckedKept}
use Rattle.books_audit.specs.Kept.{AnyKept, OfBranch, OfOffice, any_columns, AnyFits, caller_row, IsCallerRow}
use Rattle.books_audit.specs.declared.kept_rows.CallerRow.{CallerRow}
use Rattle.books_audit.proofs.Ranges.{in_range}
use Rattle.books_audit.specs.Keys.{office_caller, branch_caller}
use Rattle.books_audit.specs.ReadLists.{RowsRead}
use Rattle.books_audit.proofs.FullLists.{full_rows}

-- ---- head office's commands come first

pub record SplitKept (keys : List Key) (others : List CheckedKept) (its : List AnyKept) : Type 0 where
  pub office : List OfficeKept
  pub kept : List (Owned Kept)
  pub is : its ≡ map OfOffice office ++ map OfBranch kept
  pub office_fit : AllByRecursion IsOfficeKept office
  pub kept_fit : AllByRecursion IsKept kept
  pub office_keys : map (λ (it : OfficeKept). it.command.key) office ≡ keys
  pub kept_keys : map kept_row kept ≡ others

no_branch : (n : ℕ) → IsNumber n → n ≢ 0
no_branch n h e = let low = (in_range n h).0 in absurd (omega (arith, low, e))

split_branches : (others : List CheckedKept) → AllByRecursion (λ (x : CheckedKept). IsNumber x.branch) others
    → (its : List AnyKept) → AllByRecursion AnyFits its → map caller_row its ≡ map branch_caller others → SplitKept [] others its
split_branches [] n [] f e = record { office = []; kept = []; is = refl; office_fit = tt; kept_fit = tt; office_keys = refl; kept_keys = refl }
split_branches [] n (it ∷ its) f e = cc
split_branches (x ∷ others) n [] f e = cc
split_branches (x ∷ others) n (OfBranch it ∷ its) f e =
    let head : caller_row (OfBranch it) ≡ branch_caller x = cc in
    let tail : map caller_row its ≡ map branch_caller others = cc in
    let more = split_branches others n.1 its f.1 tail in
    let none : more.office ≡ [] = empty more.office more.office_keys in record {
      office = [];
      kept = it ∷ more.kept;
      is = λ i. OfBranch it ∷ (more.is ∙ ap (λ (l : List OfficeKept). map OfOffice l ++ map OfBranch more.kept) none) i;
      office_fit = tt;
      kept_fit = (f.0, more.kept_fit);
      office_keys = refl;
      kept_keys = λ i. record { branch = (head i).caller; key = (head i).key } ∷ more.kept_keys i;
    }
  where
    empty : (l : List OfficeKept) → map (λ (it : OfficeKept). it.command.key) l ≡ [] → l ≡ []
    empty [] h = refl
    empty (a ∷ l) h = cc
split_branches (x ∷ others) n (OfOffice it ∷ its) f e =
    let head : caller_row (OfOffice it) ≡ branch_caller x = cc in
    let zero_is : 0 ≡ x.branch = ap (λ (c : CallerRow). c.caller) head in
    absurd (no_branch x.branch n.0 (sym zero_is))

pub split : (keys : List Key) (others : List CheckedKept)
    → AllByRecursion (λ (x : CheckedKept). IsNumber x.branch) others → (its : List AnyKept) → AllByRecursion AnyFits its
    → map caller_row its ≡ map office_caller keys ++ map branch_caller others → SplitKept keys others its
split [] others n its f e = split_branches others n its f e
split (key ∷ keys) others n [] f e = cc
split (key ∷ keys) others n (OfOffice it ∷ its) f e =
    let head : caller_row (OfOffice it) ≡ office_caller key = cc in
    let tail : map caller_row its ≡ map office_caller keys ++ map branch_caller others = cc in
    let more = split keys others n its f.1 tail in record {
      office = it ∷ more.office;
      kept = more.kept;
      is = λ i. OfOffice it ∷ more.is i;
      office_fit = (f.0, more.office_fit);
      kept_fit = more.kept_fit;
      office_keys = λ i. (head i).key ∷ more.office_keys i;
      kept_keys = more.kept_keys;
    }
split (key ∷ keys) others n (OfBranch it ∷ its) f e =
    let head : caller_row (OfBranch it) ≡ office_caller key = cc in
    let owner : it.owner ≡ 0 = ap (λ (c : CallerRow). c.caller) head in
    absurd (no_branch it.owner f.0.0 owner)

map_split : (office : List OfficeKept) (kept : List (Owned Kept))
    → map any_columns (map OfOffice office ++ map OfBranch kept) ≡ map office_kept_columns office ++ map kept_columns kept
map_split [] [] = refl
map_split [] (row ∷ kept) = λ i. kept_columns row ∷ map_split [] kept i
map_split (it ∷ office) kept = λ i. office_kept_columns it ∷ map_split office kept i

pub record KeptOf (table : List sql.Row) (keys : List Key) (others : List CheckedKept) : Type 0 where
  pub office : List OfficeKept
  pub kept : List (Owned Kept)
  pub has : IsPermutation table (kept_rows kept office)
  pub office_fit : AllByRecursion IsOfficeKept office
  pub kept_fit : AllByRecursion IsKept kept
  pub office_keys : map (λ (it : OfficeKept). it.command.key) office ≡ keys
  pub kept_keys : map kept_row kept ≡ others

pub kept_of : (table : List sql.Row) (keys : List Key) (others : List CheckedKept) → AllByRecursion (λ (x : CheckedKept). IsNumber x.branch) others
    → RowsRead IsCallerRow table (map office_caller keys ++ map branch_caller others) → KeptOf table keys others
kept_of table keys others n r =
    let f = full_rows any_columns AnyFits caller_row r in
    let s = split keys others n f.its f.fit f.keeps in record {
      office = s.office;
      kept = s.kept;
      has =
          IsPermutation-trans _ _ _ (subst (IsPermutation table) (ap (map any_columns) s.is ∙ map_split s.office s.kept) f.has)
          (IsPermutation-append_comm (map office_kept_columns s.office) (map kept_columns s.kept));
      office_fit = s.office_fit;
      kept_fit = s.kept_fit;
      office_keys = s.office_keys;
      kept_keys = s.kept_keys;
    }
