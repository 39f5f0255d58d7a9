-- What an audit of rows that are a shop's tables says of the books for which the tables stand.
use Rattle.shop_schema.proofs.Common.{◌≡◌, ◌+◌, ℕ, List, [], ◌∷◌, map, length, refl, arith, IsPermutation-sym, IsPermutation-trans, Table, Trees, Rules, Books}
use Rattle.shop_schema.proofs.Common.{IsSound, widest, columns_of, counts_of, shop_schema, this_version, later_rows, AreValues, StandsFor, Audit}
use Rattle.shop_schema.proofs.Stands.{with_own, for_own}
use Rattle.shop_schema.specs.Shop.{HaveRows}
use Rattle.books_audit.specs.declared.tables.TableRows.{TableRows}
use Rattle.books_audit.specs.Audits.{HaveKeys, StandsForBooks, IsAuditOf}
use Rattle.books_audit.specs.Shops.{HaveTables, IsAuditOfShop}
use Rattle.books_audit.specs.Tables.{HaveEach}
use Rattle.books_audit.proofs.SoundKeys.{keys_of_sound}
use Rattle.books_audit.proofs.Places.{listed, rows_named, counts_named}
use Rattle.sqlite_value.specs.Order as sql
use Rattle.shop_schema.proofs.Stands as stands

module _ (trees : Trees) (tables : TableRows) where
  -- the rows of the shop's tables, from a place on
  abbrev HaveThese : ℕ → List Table → Type 0
  HaveThese place ts = HaveEach tables place (map (λ t. map (columns_of (length t.columns)) (trees t.tree)) ts)

  in_shop : (place : ℕ) (ts : List Table) (lists : List (List sql.Row)) → length ts ≡ length lists
      → HaveThese place ts → HaveEach tables place lists → HaveRows ts trees lists
  in_shop place [] lists e h all = tt
  in_shop place (t ∷ ts) [] e h all = absurd (omega (arith, e))
  in_shop place (t ∷ ts) (rows ∷ lists) e h all =
      (IsPermutation-trans _ _ _ (IsPermutation-sym _ _ h.0) all.0, in_shop (place + 1) ts lists (omega (arith, e)) h.1 all.1)

  from_shop : (place : ℕ) (ts : List Table) (lists : List (List sql.Row)) → length ts ≡ length lists
      → HaveThese place ts → HaveRows ts trees lists → HaveEach tables place lists
  from_shop place ts [] e h all = tt
  from_shop place [] (rows ∷ lists) e h all = absurd (omega (arith, e))
  from_shop place (t ∷ ts) (rows ∷ lists) e h all = (IsPermutation-trans _ _ _ h.0 all.0, from_shop (place + 1) ts lists (omega (arith, e)) h.1 all.1)

  module _ (has : HaveTables trees tables) where
    shop_stands : (books : Books) → StandsForBooks tables books → StandsFor trees books
    shop_stands books t =
        for_own trees books t.counts.terms
        (stands.named this_version later_rows (counts_of books) trees books
        (in_shop 0 shop_schema.tables (stands.rows_of (counts_of books) books) refl has (listed tables books t.without_counts.rows t.counts)))

    tables_stand : (books : Books) → StandsFor trees books → AreValues books → HaveKeys books → StandsForBooks tables books
    tables_stand books s values keys =
        let all =
        from_shop 0 shop_schema.tables (stands.rows_of (counts_of books) books) refl has
        (stands.listed this_version later_rows (counts_of books) trees books (with_own trees books s)) in
        record {
          without_counts = record { rows = rows_named tables books all; values = values; keys = keys };
          counts = counts_named tables books all s.more.termed;
        }

    sound_stand : (rules : Rules) (books : Books) → StandsFor trees books → AreValues books → IsSound (widest rules) books → StandsForBooks tables books
    sound_stand rules books s values sound = tables_stand books s values (keys_of_sound rules books sound)

    pub audit_of_shop : (audit : Audit) → IsAuditOf tables audit → IsAuditOfShop trees audit
    audit_of_shop audit a = record {
      sound = λ rules. (
        λ h. let it = (a.sound rules).0 h in (it.0, shop_stands it.0 it.1, it.1.without_counts.values, it.2),
        λ it. (a.sound rules).1 (it.0, sound_stand rules it.0 it.1 it.2 it.3, it.3),
      );
      counts = λ books s values keys. a.counts books (tables_stand books s values keys);
      nothing = λ none. a.nothing (λ it. none (it.0, shop_stands it.0 it.1, it.1.without_counts.values, it.1.without_counts.keys));
    }

-- rows of the same tables, whatever their order, have one audit
module _ (trees : Trees) (tables others : TableRows) (has : HaveTables trees tables) (have : HaveTables trees others) where
  stand_moved : (books : Books) → StandsForBooks tables books → StandsForBooks others books
  stand_moved books t = tables_stand trees others have books (shop_stands trees tables has books t) t.without_counts.values t.without_counts.keys

pub audit_moved : (trees : Trees) (tables others : TableRows) → HaveTables trees tables
    → HaveTables trees others → (audit : Audit) → IsAuditOf tables audit → IsAuditOf others audit
audit_moved trees tables others has have audit a = record {
  sound = λ rules. (
    λ h. let it = (a.sound rules).0 h in (it.0, stand_moved trees tables others has have it.0 it.1, it.2),
    λ it. (a.sound rules).1 (it.0, stand_moved trees others tables have has it.0 it.1, it.2),
  );
  counts = λ books t. a.counts books (stand_moved trees others tables have has books t);
  nothing = λ none. a.nothing (λ it. none (it.0, stand_moved trees tables others has have it.0 it.1));
}
