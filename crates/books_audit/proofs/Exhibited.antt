-- Tables that were read, and whose rows are in order, stand for books that have the rows.
use Rattle.shop_schema.proofs.Common.{◌≡◌, ◌==◌, ◌&&◌, ◌<◌, ◌^◌, ℕ, List, [], ◌∷◌, map, length, None, Option, refl, sym, ap, subst, ◌∙◌, IsPermutation}
use Rattle.shop_schema.proofs.Common.{AllByRecursion, all_of, flat_map, bytes_eq, IsPermutation-map, IsPermutation-trans, IsPermutation-sym, map-id, map-map}
use Rattle.shop_schema.proofs.Common.{IsPermutation-flat_map, Moment, Owned, owned_by, Text, Cast, Branch, Rule, Kept, OfficeKept, Books, Consignment, head}
use Rattle.shop_schema.proofs.Common.{Catalogue, chain_columns, named_columns, city_columns, actor_columns, film_columns, cast_columns, staff_columns}
use Rattle.shop_schema.proofs.Common.{rule_columns, lot_columns, consignment_columns, line_rows, IsName, IsToken, IsCity, IsActor, IsFilm, IsCast, IsStaff}
use Rattle.shop_schema.proofs.Common.{IsRow, IsRowOf, IsLot, IsConsignment, IsLast, RowsOf, rows_of, AreRowValues}
use Rattle.shop_model.specs.Books.{Table, opening}
use Rattle.audit_rows.specs.Lists.{climbs}
use Rattle.audit_rows.specs.Canons.{row_key, office_key}
use Rattle.audit_rows.specs.Joins.{header, placed}
use Rattle.audit_rows.specs.Seen.{seen_header, seen_placed}
use Rattle.audit_rows.specs.Tables.{all_tables, each, with_all, checked_row, checked_rows}
use Rattle.audit_rows.specs.Ordered.{AreOrdered, HaveOrderedRows, HaveSharedRows, city_row, film_row, cast_row, branch_row, without_last, staff_row, lot_row}
use Rattle.audit_rows.specs.Ordered.{kept_row, lasts_from}
use Rattle.audit_rows.specs.declared.books.OrderedBooks.{OrderedBooks}
use Rattle.audit_rows.specs.declared.rows.CheckedBranch.{CheckedBranch}
use Rattle.audit_rows.specs.declared.rows.CheckedCast.{CheckedCast}
use Rattle.audit_rows.specs.declared.rows.CheckedLot.{CheckedLot}
use Rattle.audit_rows.specs.declared.rows.CheckedKept.{CheckedKept}
use Rattle.audit_rows.proofs.JoinLemmas.{join_sound}
use Rattle.audit_rows.proofs.Maps.{length-map}
use Rattle.audit_rows.proofs.Standing.{all_moved}
use Rattle.books_audit.specs.Columns.{told_columns, IsTold, header_columns, IsHeader, placed_columns, IsPlaced}
use Rattle.books_audit.specs.Rows.{chain_row, rule_row, AnyRule, told_row, header_row, placed_row}
use Rattle.books_audit.specs.BranchTables.{place_of, row_columns}
use Rattle.books_audit.proofs.CustodyAudits.{placed_again}
use Rattle.books_audit.specs.declared.shared.RuleRow.{RuleRow}
use Rattle.books_audit.specs.declared.tables.TableRows.{TableRows}
use Rattle.books_audit.specs.declared.tables.TheConstants.{CHAIN, COUNTRIES, LANGUAGES, CATEGORIES, CITIES, ACTORS, FILMS, CASTS, BRANCHES, STAFF, LOTS}
use Rattle.books_audit.specs.declared.tables.TheConstants.{CONSIGNMENTS, LINES, KEPT, RULE}
use Rattle.books_audit.specs.Tables.{rows_in}
use Rattle.books_audit.specs.Audits.{HaveRowsOf, HaveKeys, HaveBooks, AreInOrder, same_row}
use Rattle.books_audit.specs.ReadInOrder.{AreReadInOrder}
use Rattle.books_audit.proofs.FullLists.{Fulls, full_rows, seen_all}
use Rattle.books_audit.proofs.SharedLists.{SharedOf, shared_of, tell, lasts_fit, branches_fit}
use Rattle.books_audit.proofs.KeptRows.{KeptOf, kept_of}
use Rattle.books_audit.proofs.Canonical.{apart, row_test, consignments_apart, consignments_fit, by_place, same_by_place, sorted_by_place}
use Rattle.books_audit.proofs.InOrder.{rows_read, are_ordered, in_order}
use Rattle.books_audit.proofs.SameConsignments.{as_placed}

one_token : (its : List Text) (t : List ℕ) → map chain_row its ≡ record { office_token = t } ∷ [] → its ≡ t ∷ []
one_token [] t h = cc
one_token (u ∷ []) t h = let first : chain_row u ≡ record { office_token = t } = cc in (λ i. (first i).office_token ∷ [])
one_token (u ∷ v ∷ its) t h = cc

one_rule : (its : List Rule) (x : RuleRow) → map rule_row its ≡ x ∷ [] → (it : Rule) × (its ≡ it ∷ [])
one_rule [] x h = cc
one_rule (it ∷ []) x h = (it, refl)
one_rule (it ∷ other ∷ its) x h = cc

module _ (tables : TableRows) (rows : OrderedBooks) (read : AreReadInOrder tables rows) where
  ordered : AreOrdered rows
  ordered = are_ordered tables rows read

  abbrev by_key : List Consignment
  by_key = read.joined.0

  -- of what the rows of each table are kept
  record Values : Type 0 where
    countries : SharedOf named_columns IsName (λ (t : Text). t) (rows_in tables COUNTRIES) rows.countries.items
    languages : SharedOf named_columns IsName (λ (t : Text). t) (rows_in tables LANGUAGES) rows.languages.items
    categories : SharedOf named_columns IsName (λ (t : Text). t) (rows_in tables CATEGORIES) rows.categories.items
    cities : SharedOf city_columns IsCity city_row (rows_in tables CITIES) rows.cities.items
    actors : SharedOf actor_columns IsActor (λ it. tt) (rows_in tables ACTORS) read.actor_marks
    films : SharedOf film_columns IsFilm film_row (rows_in tables FILMS) rows.films.items
    branches : SharedOf told_columns IsTold told_row (rows_in tables BRANCHES) rows.branches.items
    staff : SharedOf staff_columns IsStaff staff_row (rows_in tables STAFF) rows.staff.items
    chain : Fulls chain_columns IsToken chain_row (record { office_token = rows.office_token } ∷ []) (rows_in tables CHAIN)
    rules : Fulls rule_columns AnyRule rule_row (read.rule_row ∷ []) (rows_in tables RULE)
    casts : Fulls cast_columns IsCast cast_row rows.casts.items (rows_in tables CASTS)
    by_table : (t : Table) → Fulls (row_columns t) (IsRow (IsRowOf t)) (checked_row t) (checked_rows rows t) (rows_in tables (place_of t))
    lots : Fulls lot_columns IsLot lot_row rows.lots.items (rows_in tables LOTS)
    headers : Fulls header_columns IsHeader header_row rows.headers.items (rows_in tables CONSIGNMENTS)
    lines : Fulls placed_columns IsPlaced placed_row rows.lines.items (rows_in tables LINES)

  of : Values
  of = record {
    countries = shared_of named_columns IsName (λ t. t) read.countries;
    languages = shared_of named_columns IsName (λ t. t) read.languages;
    categories = shared_of named_columns IsName (λ t. t) read.categories;
    cities = shared_of city_columns IsCity city_row read.cities;
    actors = shared_of actor_columns IsActor (λ it. tt) read.actors;
    films = shared_of film_columns IsFilm film_row read.films;
    branches = shared_of told_columns IsTold told_row read.branches;
    staff = shared_of staff_columns IsStaff staff_row read.staff;
    chain = full_rows chain_columns IsToken chain_row read.chain;
    rules = full_rows rule_columns AnyRule rule_row read.rule;
    casts = full_rows cast_columns IsCast cast_row read.casts.rows;
    by_table = λ t. full_rows (row_columns t) (IsRow (IsRowOf t)) (checked_row t) (rows_read tables rows read t).rows;
    lots = full_rows lot_columns IsLot lot_row read.lots.rows;
    headers = full_rows header_columns IsHeader header_row read.headers.rows;
    lines = full_rows placed_columns IsPlaced placed_row read.lines.rows;
  }

  rule : (it : Rule) × (of.rules.its ≡ it ∷ [])
  rule = one_rule of.rules.its read.rule_row of.rules.keeps

  kept : KeptOf (rows_in tables KEPT) rows.office_keys.items rows.kept.items
  kept = kept_of (rows_in tables KEPT) rows.office_keys.items rows.kept.items read.kept.branches read.kept.rows

  -- the books
  pub canonical : Books
  canonical =
      let catalogue : Catalogue
      = record {
        office_token = rows.office_token;
        kept = kept.office;
        casts = of.casts.its;
        countries = of.countries.items;
        cities = of.cities.items;
        languages = of.languages.items;
        categories = of.categories.items;
        actors = of.actors.items;
        films = of.films.items;
        branches = map (λ (it : Branch × Option Moment). it.0) of.branches.items;
        staff = of.staff.items;
        rule = rule.0;
      } in
      with_all (λ t. (of.by_table t).its)
      (record (opening catalogue) { lots = of.lots.its; consignments = by_place by_key; kept = kept.kept; lasts = lasts_from 1 rows.branches.items })

  -- what holds of the rows of each table
  of_rows : (P : (t : Table) → RowsOf t → Type 0) → ((t : Table) → P t (of.by_table t).its) → (t : Table) → P t (rows_of canonical t)
  unfolding canonical
  of_rows P h = each (λ t. P t (rows_of canonical t)) (all_of (λ t. P t (of.by_table t).its) h all_tables)

  pub consignments_are : canonical.consignments ≡ by_place by_key
  unfolding canonical
  consignments_are = refl

  have_shared : HaveSharedRows rows canonical
  unfolding canonical
  have_shared = record {
    office_token = refl;
    office_keys = kept.office_keys;
    countries = sym (map-id of.countries.items) ∙ of.countries.keeps;
    languages = sym (map-id of.languages.items) ∙ of.languages.keeps;
    categories = sym (map-id of.categories.items) ∙ of.categories.keeps;
    cities = of.cities.keeps;
    actors = sym (length-map (λ it. tt {0}) of.actors.items) ∙ ap length of.actors.keeps ∙ read.actor_count;
    films = of.films.keeps;
    casts = of.casts.keeps;
    branches =
        map-map (branch_row None) (λ (it : Branch × Option Moment). it.0) of.branches.items
        ∙ sym (map-map without_last told_row of.branches.items) ∙ ap (map without_last) of.branches.keeps;
    staff = of.staff.keeps;
  }

  pub have_rows : HaveOrderedRows rows canonical
  unfolding canonical
  have_rows = record {
    shared = have_shared;
    rows = of_rows (λ t its. map (checked_row t) its ≡ checked_rows rows t) (λ t. (of.by_table t).keeps);
    lots = of.lots.keeps;
    kept = kept.kept_keys;
    consignments = record { by_key = by_key; joined = read.joined.1; all = same_by_place by_key; in_order = sorted_by_place by_key };
    lasts = refl;
  }

  pub order : AreInOrder canonical
  order = in_order rows canonical have_rows ordered

  -- ---- its consignments

  joins : (map header by_key ≡ map seen_header rows.headers.items) × (flat_map placed by_key ≡ map seen_placed rows.lines.items)
  joins = join_sound (map seen_header rows.headers.items) (map seen_placed rows.lines.items) by_key read.joined.1

  header_list : of.headers.its ≡ map header by_key
  header_list = seen_all seen_header header_row (λ it. refl) of.headers.its of.headers.keeps ∙ sym joins.0

  line_list : of.lines.its ≡ flat_map placed by_key
  line_list = seen_all seen_placed placed_row placed_again of.lines.its of.lines.keeps ∙ sym joins.1

  fitting : AllByRecursion IsConsignment by_key
  fitting = consignments_fit by_key (subst (AllByRecursion IsHeader) header_list of.headers.fit) (subst (AllByRecursion IsPlaced) line_list of.lines.fit)

  -- ---- the tables stand for the books

  have_all : HaveRowsOf tables canonical
  unfolding canonical
  have_all = record {
    chain = subst (λ l. IsPermutation (rows_in tables CHAIN) (map chain_columns l)) (one_token of.chain.its rows.office_token of.chain.keeps) of.chain.has;
    countries = of.countries.has;
    languages = of.languages.has;
    categories = of.categories.has;
    cities = of.cities.has;
    actors = of.actors.has;
    films = of.films.has;
    casts = of.casts.has;
    branches =
        subst (IsPermutation (rows_in tables BRANCHES))
        (sym (tell 1 of.branches.items (lasts_from 1 rows.branches.items)
        (λ m low. ap (λ (l : List CheckedBranch). head (owned_by m (lasts_from 1 l))) (sym of.branches.keeps))))
        of.branches.has;
    staff = of.staff.has;
    rows = of_rows (λ t its. IsPermutation (rows_in tables (place_of t)) (map (row_columns t) its)) (λ t. (of.by_table t).has);
    lots = of.lots.has;
    consignments =
        IsPermutation-trans _ _ _
        (subst (IsPermutation (rows_in tables CONSIGNMENTS)) (ap (map header_columns) header_list ∙ map-map header_columns header by_key) of.headers.has)
        (IsPermutation-map consignment_columns _ _ (same_by_place by_key));
    lines =
        IsPermutation-trans _ _ _ (subst (IsPermutation (rows_in tables LINES)) (ap (map placed_columns) line_list ∙ as_placed by_key) of.lines.has)
        (IsPermutation-flat_map line_rows _ _ (same_by_place by_key));
    kept = kept.has;
    rule = subst (λ l. IsPermutation (rows_in tables RULE) (map rule_columns l)) rule.1 of.rules.has;
  }

  have_keys : HaveKeys canonical
  unfolding canonical
  have_keys = record {
    casts = apart (λ (a b : Cast). a.film == b.film && a.actor == b.actor) (λ x. x.film ∷ x.actor ∷ []) (λ x y. cast_test x y) of.casts.its
        (ap climbs
        (sym (map-map (λ (x : CheckedCast). x.film ∷ x.actor ∷ []) cast_row of.casts.its)
        ∙ ap (map (λ (x : CheckedCast). x.film ∷ x.actor ∷ [])) of.casts.keeps)
        ∙ ordered.casts);
    rows = λ t. apart same_row row_key row_test (rows_of canonical t) (order.rows t);
    lots = apart (λ (a b : Owned Text). a.owner == b.owner && bytes_eq a.it b.it) (λ x. x.owner ∷ x.it) (λ x y. refl) of.lots.its
        (ap climbs (sym (map-map (λ (x : CheckedLot). x.branch ∷ x.name) lot_row of.lots.its) ∙ ap (map (λ (x : CheckedLot). x.branch ∷ x.name)) of.lots.keeps)
        ∙ ordered.lots);
    consignments = consignments_apart order.by_key (by_place by_key) (IsPermutation-sym _ _ order.joined) order.headers;
    kept =
        apart (λ (a b : Owned Kept). a.owner == b.owner && bytes_eq a.it.command.key b.it.command.key) (λ x. x.owner ∷ x.it.command.key) (λ x y. refl) kept.kept
        (ap climbs (sym (map-map (λ (x : CheckedKept). x.branch ∷ x.key) kept_row kept.kept) ∙ ap (map (λ (x : CheckedKept). x.branch ∷ x.key)) kept.kept_keys)
        ∙ ordered.kept);
    office_kept =
        apart (λ (a b : OfficeKept). bytes_eq a.command.key b.command.key) office_key
        (λ x y. refl) kept.office (ap climbs kept.office_keys ∙ ordered.office_keys);
  }
    where
      cast_test : (x y : Cast) → (x.film == y.film && x.actor == y.actor) ≡ bytes_eq (x.film ∷ x.actor ∷ []) (y.film ∷ y.actor ∷ [])
      cast_test x y = row_test {A = Cast} (record { branch = x.film; number = x.actor; it = x }) (record { branch = y.film; number = y.actor; it = y })

  pub stands : HaveBooks tables canonical
  unfolding canonical
  stands = record {
    rows = have_all;
    values = record {
      catalogue = record {
        office_token = (subst (AllByRecursion IsToken) (one_token of.chain.its rows.office_token of.chain.keeps) of.chain.fit).0;
        kept = kept.office_fit;
        casts = of.casts.fit;
        countries = of.countries.fit;
        cities = of.cities.fit;
        languages = of.languages.fit;
        categories = of.categories.fit;
        actors = of.actors.fit;
        films = of.films.fit;
        branches = (
          subst (λ n. n < 2 ^ 32) (sym (length-map (λ (it : Branch × Option Moment). it.0) of.branches.items)) of.branches.fit.0,
          branches_fit of.branches.items of.branches.fit.1,
        );
        staff = of.staff.fit;
      };
      rows = of_rows AreRowValues (λ t. (of.by_table t).fit);
      lots = of.lots.fit;
      consignments = all_moved IsConsignment _ _ (same_by_place by_key) fitting;
      kept = kept.kept_fit;
      lasts = subst (λ (l : List CheckedBranch). AllByRecursion IsLast (lasts_from 1 l)) of.branches.keeps (lasts_fit 1 of.branches.items of.branches.fit.1);
    };
    keys = have_keys;
  }
