-- If tables stand for books, all tables can be read.
use Rattle.shop_schema.proofs.Common.{◌∙◌, ◌==◌, ◌&&◌, ◌<◌, ◌^◌, [], ◌∷◌, map, IsCounted, numbered, refl, sym, subst, all_of, length_permutation, bytes_eq}
use Rattle.shop_schema.proofs.Common.{Owned, Text, Cast, Books, rows_of, chain_columns, rule_columns, IsToken, IsName, IsCity, IsActor, IsFilm, IsStaff}
use Rattle.shop_schema.proofs.Lasts.{numbered_counted}
use Rattle.shop_schema.proofs.ShopTables as table
use Rattle.audit_rows.specs.Ordered.{city_row, film_row, cast_row, staff_row, lot_row}
use Rattle.audit_rows.specs.Tables.{all_tables, checked_row, checked_key}
use Rattle.audit_rows.proofs.Maps.{length-map, map-twice}
use Rattle.audit_rows.proofs.Tests.{different_congr}
use Rattle.books_audit.specs.AuditTables as audited
use Rattle.books_audit.specs.BranchTables.{place_of, table_of, IsKeptRow}
use Rattle.books_audit.specs.Columns.{IsTold}
use Rattle.books_audit.specs.Rows.{AnyRule, chain_row, rule_row, told_row}
use Rattle.books_audit.specs.declared.tables.TableRows.{TableRows}
use Rattle.books_audit.specs.declared.tables.TheConstants.{CHAIN, COUNTRIES, LANGUAGES, CATEGORIES, CITIES, ACTORS, FILMS, CASTS, BRANCHES, STAFF, LOTS, RULE}
use Rattle.books_audit.specs.Tables.{rows_in}
use Rattle.books_audit.specs.Audits.{HaveBooks, same_row}
use Rattle.books_audit.specs.ReadInOrder.{CanBeRead}
use Rattle.books_audit.specs.ReadLists.{AreKeyed}
use Rattle.books_audit.proofs.Canonical.{row_test, two}
use Rattle.books_audit.proofs.FullLists.{ones}
use Rattle.books_audit.proofs.SameBooks.{told, told_fit, told_rows}
use Rattle.books_audit.proofs.StandKept.{kept_can_be_read}
use Rattle.books_audit.proofs.StandKeyed.{stands_keyed}
use Rattle.books_audit.proofs.StandPlaces.{stands_in_places, counted_stand, so_many}
use Rattle.books_audit.proofs.StandSent.{headers_can_be_read, lines_can_be_read, can_be_joined}

pub can_be_read : (tables : TableRows) (b : Books) → HaveBooks tables b → CanBeRead tables
can_be_read tables b t =
    let all = b.catalogue in
    let fit = t.values.catalogue in
    record {
      chain = record {
        ones = ones chain_columns IsToken chain_row (all.office_token ∷ []) (rows_in tables CHAIN) (fit.office_token, tt) t.rows.chain;
        one = sym (length_permutation _ _ t.rows.chain);
      };
      rule = record {
        ones = ones rule_columns AnyRule rule_row (all.rule ∷ []) (rows_in tables RULE) (tt, tt) t.rows.rule;
        one = sym (length_permutation _ _ t.rows.rule);
      };
      kept = kept_can_be_read tables b t;
      countries = stands_in_places IsName table.named (λ name. name) (rows_in tables COUNTRIES) all.countries fit.countries t.rows.countries;
      languages = stands_in_places IsName table.named (λ name. name) (rows_in tables LANGUAGES) all.languages fit.languages t.rows.languages;
      categories = stands_in_places IsName table.named (λ name. name) (rows_in tables CATEGORIES) all.categories fit.categories t.rows.categories;
      cities = stands_in_places IsCity table.cities city_row (rows_in tables CITIES) all.cities fit.cities t.rows.cities;
      actors = stands_in_places IsActor table.actors (λ it. tt) (rows_in tables ACTORS) all.actors fit.actors t.rows.actors;
      films = stands_in_places IsFilm table.films film_row (rows_in tables FILMS) all.films fit.films t.rows.films;
      casts =
          stands_keyed table.casts cast_row (rows_in tables CASTS) all.casts fit.casts t.rows.casts (λ x. x.film ∷ x.actor ∷ [])
          (sym (different_congr (λ (x y : Cast). x.film == y.film && x.actor == y.actor) _ (λ x y. two (x.film == y.film) (x.actor == y.actor)) all.casts)
          ∙ t.keys.casts);
      branches =
          counted_stand IsTold audited.branches told_row (rows_in tables BRANCHES) (map (told b.lasts) (numbered all.branches))
          (subst (λ n. n < 2 ^ 32) (sym (length-map (told b.lasts) (numbered all.branches) ∙ so_many 1 all.branches)) fit.branches.0)
          (subst (IsCounted 1) (sym (map-twice (λ it. it.0) (told b.lasts) (numbered all.branches))) (numbered_counted 1 all.branches))
          (told_fit b.lasts all.branches t.values.lasts fit.branches) (told_rows b.lasts all.branches t.rows.branches);
      staff = stands_in_places IsStaff table.staff staff_row (rows_in tables STAFF) all.staff fit.staff t.rows.staff;
      by_table = all_of (λ n. AreKeyed (IsKeptRow n) checked_key (rows_in tables (place_of n)))
          (λ n.
          stands_keyed (table_of n) (checked_row n) (rows_in tables (place_of n)) (rows_of b n) (t.values.rows n)
          (t.rows.rows n) checked_key (sym (different_congr same_row _ row_test (rows_of b n)) ∙ t.keys.rows n))
          all_tables;
      lots =
          stands_keyed table.lots lot_row (rows_in tables LOTS) b.lots t.values.lots t.rows.lots (λ x. x.branch ∷ x.name)
          (sym (different_congr (λ (x y : Owned Text). x.owner == y.owner && bytes_eq x.it y.it) _ (λ x y. refl) b.lots) ∙ t.keys.lots);
      headers = headers_can_be_read tables b t;
      lines = lines_can_be_read tables b t;
      joined = can_be_joined tables b t;
    }
