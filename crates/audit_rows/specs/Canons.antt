-- When books in the order of their keys have the same rows as other books.
use Rattle.std.specs.Prelude.{◌≡◌, ◌==◌, ℕ, true, ◌∷◌, [], map, IsPermutation}
use Rattle.std.specs.List.{list_all}
use Rattle.std.specs.List.Sorted.{IsSorted}
use Rattle.std.specs.Ordering.{nat_cmp}
use Rattle.shop_model.specs.Calendar.{Moment}
use Rattle.shop_model.specs.Rows.{Row, Owned, owned_by}
use Rattle.shop_model.specs.Shop.{OfficeKept}
use Rattle.shop_model.specs.Books.{Books, Consignment, Table, rows_of, head}
use Rattle.shop_model.specs.Links.{has_row, are_different}
use Rattle.audit_rows.specs.Lists.{Key, climbs}

abbrev pub row_key : {A : Type 0} → Row A → Key
row_key row = row.branch ∷ row.number ∷ []

-- Books don't store whether an added member of staff has left. So only the keys of head office's commands are compared.
abbrev pub office_key : OfficeKept → Key
office_key it = it.command.key

-- Books c have the rows of books b. In c, each list of numbered rows is in the order of its keys, and consignments are in the order of their places.
-- A branch has at most one last moment in c.
pub record IsCanonOf (c b : Books) : Type 0 where
  pub shared : c.catalogue ≡ record b.catalogue { kept = c.catalogue.kept; casts = c.catalogue.casts }
  pub office_kept : IsPermutation (map office_key b.catalogue.kept) (map office_key c.catalogue.kept)
  pub casts : IsPermutation b.catalogue.casts c.catalogue.casts
  pub rows : (t : Table) → IsPermutation (rows_of b t) (rows_of c t)
  pub climb : (t : Table) → climbs (map row_key (rows_of c t)) ≡ true
  pub lots : IsPermutation b.lots c.lots
  pub kept : IsPermutation b.kept c.kept
  pub consignments : IsPermutation b.consignments c.consignments
  pub in_order : IsSorted (λ (x y : Consignment). nat_cmp x.place y.place) c.consignments
  pub lasts : (n : ℕ) → has_row b.catalogue.branches n ≡ true → head (owned_by n c.lasts) ≡ head (owned_by n b.lasts)
  pub lasts_apart : are_different (λ (earlier later : Owned Moment). earlier.owner == later.owner) c.lasts ≡ true
  pub owners : list_all (λ (row : Owned Moment). has_row b.catalogue.branches row.owner) c.lasts ≡ true
