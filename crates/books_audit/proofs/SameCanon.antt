-- Of two books for which the same tables stand, the one in the order of its keys is the other in that order.
use Rattle.shop_schema.proofs.Common.{◌≡◌, ℕ, map, true, Option, refl, sym, ap, subst₂, ◌∙◌, list_all, IsPermutation, IsPermutation-map, all_map, all_of}
use Rattle.shop_schema.proofs.Common.{Moment, Owned, owned_by, numbered, Branch, has_row, Books, head, IsName, IsCity, IsActor, IsFilm, IsStaff}
use Rattle.sqlite_trees.proofs.ListLemmas.{all_from_map}
use Rattle.shop_schema.proofs.Numbers.{of_row}
use Rattle.shop_schema.proofs.ShopTables as table
use Rattle.audit_rows.specs.Canons.{IsCanonOf}
use Rattle.audit_rows.proofs.Maps.{map-undone}
use Rattle.audit_rows.proofs.Standing.{all_moved, one_numbered}
use Rattle.books_audit.specs.AuditTables as audited
use Rattle.books_audit.specs.BranchTables.{table_of}
use Rattle.books_audit.specs.declared.tables.TableRows.{TableRows}
use Rattle.books_audit.specs.Audits.{HaveBooks, AreInOrder}
use Rattle.books_audit.proofs.SameBooks.{one_shared, one_bag, one_value, told, told_fit, told_rows}
use Rattle.books_audit.proofs.SameConsignments as sent
use Rattle.books_audit.proofs.SameKept as kept

module _ (tables : TableRows) (c b : Books) (s : HaveBooks tables c) (t : HaveBooks tables b) where
  -- branches with their last moments
  same_told : IsPermutation (map (told c.lasts) (numbered c.catalogue.branches)) (map (told b.lasts) (numbered b.catalogue.branches))
  same_told =
      one_bag audited.branches (told_fit c.lasts c.catalogue.branches s.values.lasts s.values.catalogue.branches)
      (told_fit b.lasts b.catalogue.branches t.values.lasts t.values.catalogue.branches)
      (told_rows c.lasts c.catalogue.branches s.rows.branches) (told_rows b.lasts b.catalogue.branches t.rows.branches)

  same_branches : b.catalogue.branches ≡ c.catalogue.branches
  same_branches =
      let branch : ℕ × (Branch × Option Moment) → ℕ × Branch = λ it. (it.0, it.1.0) in
      one_numbered b.catalogue.branches c.catalogue.branches
      (subst₂ IsPermutation (map-undone branch (told c.lasts) (λ it. refl) (numbered c.catalogue.branches))
      (map-undone branch (told b.lasts) (λ it. refl) (numbered b.catalogue.branches))
      (IsPermutation-map branch _ _ same_told))

  same_lasts : (n : ℕ) → has_row b.catalogue.branches n ≡ true → head (owned_by n c.lasts) ≡ head (owned_by n b.lasts)
  same_lasts =
      let Is : ℕ × (Branch × Option Moment) → Type 0 = λ it. head (owned_by it.0 c.lasts) ≡ it.1.1 in
      of_row (λ n. head (owned_by n c.lasts) ≡ head (owned_by n b.lasts)) b.catalogue.branches (all_from_map Is (told b.lasts) (numbered b.catalogue.branches)
      (all_moved Is _ _ same_told (all_map Is (told c.lasts) (numbered c.catalogue.branches) (all_of _ (λ it. refl) (numbered c.catalogue.branches)))))

pub one_canon : (tables : TableRows) (c b : Books) → HaveBooks tables c → HaveBooks tables b → AreInOrder c → IsCanonOf c b
one_canon tables c b s t o =
    let f = s.values.catalogue in
    let g = t.values.catalogue in
    record {
      shared = λ i. record {
        office_token = one_value table.chain f.office_token g.office_token s.rows.chain t.rows.chain i;
        kept = c.catalogue.kept;
        casts = c.catalogue.casts;
        countries = one_shared IsName table.named f.countries g.countries s.rows.countries t.rows.countries i;
        cities = one_shared IsCity table.cities f.cities g.cities s.rows.cities t.rows.cities i;
        languages = one_shared IsName table.named f.languages g.languages s.rows.languages t.rows.languages i;
        categories = one_shared IsName table.named f.categories g.categories s.rows.categories t.rows.categories i;
        actors = one_shared IsActor table.actors f.actors g.actors s.rows.actors t.rows.actors i;
        films = one_shared IsFilm table.films f.films g.films s.rows.films t.rows.films i;
        branches = sym (same_branches tables c b s t) i;
        staff = one_shared IsStaff table.staff f.staff g.staff s.rows.staff t.rows.staff i;
        rule = one_value table.chain_rule tt tt s.rows.rule t.rows.rule i;
      };
      office_kept = kept.office_keys tables c b s t;
      casts = one_bag table.casts g.casts f.casts t.rows.casts s.rows.casts;
      rows = λ n. one_bag (table_of n) (t.values.rows n) (s.values.rows n) (t.rows.rows n) (s.rows.rows n);
      climb = o.rows;
      lots = one_bag table.lots t.values.lots s.values.lots t.rows.lots s.rows.lots;
      kept = kept.kept tables c b s t;
      consignments = sent.consignments tables c b s t o.by_key o.joined o.headers o.lines;
      in_order = o.places;
      lasts = same_lasts tables c b s t;
      owners = ap (λ bs. list_all (λ (row : Owned Moment). has_row bs row.owner) c.lasts) (same_branches tables c b s t) ∙ o.lasts;
      lasts_apart = o.lasts_apart;
    }
