-- The tables at their places: each table's text selects all its columns, and each table's rows can be found by name and one after another.
use Rattle.shop_schema.proofs.Common.{ℕ, ◌+◌, zero, suc, List, [], ◌∷◌, map, drop, refl, IsPermutation, Books, Customers, CopyRows, Rentals, TermRows, Payments}
use Rattle.shop_schema.proofs.Common.{rows_of, counts_of, AreTermed, shop_schema, chain_table, copy_table, consignment_line_table}
use Rattle.sqlite_value.specs.Order as sql
use Rattle.sqlite_tied.specs.Compute.{everything}
use Rattle.sqlite.specs.Listing.{understood}
use Rattle.shop_schema.proofs.Lists.{◌also◌}
use Rattle.shop_schema.proofs.Stands as stands
use Rattle.audit_rows.specs.Tables.{each}
use Rattle.books_audit.specs.BranchTables.{place_of, row_columns}
use Rattle.books_audit.specs.declared.tables.TheConstants.{CHAIN, COUNTRIES, LANGUAGES, CATEGORIES, CITIES, ACTORS, FILMS, CASTS, BRANCHES, STAFF, CUSTOMERS}
use Rattle.books_audit.specs.declared.tables.TheConstants.{COPIES, RENTALS, PAYMENTS, LOTS, CONSIGNMENTS, LINES, KEPT, COUNTERS, OUTS, PAIRS, TERMS, RULE}
use Rattle.books_audit.specs.declared.tables.TheConstants.{CHAIN_TEXT, COPIES_TEXT, LINES_TEXT, OTHER_TEXTS}
use Rattle.books_audit.specs.declared.tables.TableRows.{TableRows}
use Rattle.books_audit.specs.Audits.{HaveRowsOf, HaveCountsOf}
use Rattle.books_audit.specs.Tables.{rows_in, HaveEach, ReadsWhole, ReadEach}

-- ---- their texts

pub chain : ReadsWhole chain_table CHAIN_TEXT.now
unfolding understood everything
chain = record { means = record { names = _; is = refl; plain = (refl, refl); unlisted = refl }; one = (refl, refl, refl); typed = refl }

pub copies : ReadsWhole copy_table COPIES_TEXT.now
unfolding understood everything
copies = record { means = record { names = _; is = refl; plain = (refl, refl); unlisted = refl }; one = (refl, refl, refl); typed = refl }

pub lines : ReadsWhole consignment_line_table LINES_TEXT.now
unfolding understood everything
lines = record { means = record { names = _; is = refl; plain = (refl, refl); unlisted = refl }; one = (refl, refl, refl); typed = refl }

pub others : ReadEach (drop 1 shop_schema.tables) (map (λ t. t.now) OTHER_TEXTS)
unfolding understood everything
others =
    record { means = record { names = _; is = refl; plain = (refl, refl); unlisted = refl }; one = (refl, refl, refl); typed = refl }
    also record { means = record { names = _; is = refl; plain = (refl, refl); unlisted = refl }; one = (refl, refl, refl); typed = refl }
    also record { means = record { names = _; is = refl; plain = (refl, refl); unlisted = refl }; one = (refl, refl, refl); typed = refl }
    also record { means = record { names = _; is = refl; plain = (refl, refl); unlisted = refl }; one = (refl, refl, refl); typed = refl }
    also record { means = record { names = _; is = refl; plain = (refl, refl); unlisted = refl }; one = (refl, refl, refl); typed = refl }
    also record { means = record { names = _; is = refl; plain = (refl, refl); unlisted = refl }; one = (refl, refl, refl); typed = refl }
    also record { means = record { names = _; is = refl; plain = (refl, refl); unlisted = refl }; one = (refl, refl, refl); typed = refl }
    also record { means = record { names = _; is = refl; plain = (refl, refl); unlisted = refl }; one = (refl, refl, refl); typed = refl }
    also record { means = record { names = _; is = refl; plain = (refl, refl); unlisted = refl }; one = (refl, refl, refl); typed = refl }
    also record { means = record { names = _; is = refl; plain = (refl, refl); unlisted = refl }; one = (refl, refl, refl); typed = refl }
    also copies
    also record { means = record { names = _; is = refl; plain = (refl, refl); unlisted = refl }; one = (refl, refl, refl); typed = refl }
    also record { means = record { names = _; is = refl; plain = (refl, refl); unlisted = refl }; one = (refl, refl, refl); typed = refl }
    also record { means = record { names = _; is = refl; plain = (refl, refl); unlisted = refl }; one = (refl, refl, refl); typed = refl }
    also record { means = record { names = _; is = refl; plain = (refl, refl); unlisted = refl }; one = (refl, refl, refl); typed = refl }
    also lines
    also record { means = record { names = _; is = refl; plain = (refl, refl); unlisted = refl }; one = (refl, refl, refl); typed = refl }
    also record { means = record { names = _; is = refl; plain = (refl, refl); unlisted = refl }; one = (refl, refl, refl); typed = refl }
    also record { means = record { names = _; is = refl; plain = (refl, refl); unlisted = refl }; one = (refl, refl, refl); typed = refl }
    also record { means = record { names = _; is = refl; plain = (refl, refl); unlisted = refl }; one = (refl, refl, refl); typed = refl }
    also record { means = record { names = _; is = refl; plain = (refl, refl); unlisted = refl }; one = (refl, refl, refl); typed = refl }
    also record { means = record { names = _; is = refl; plain = (refl, refl); unlisted = refl }; one = (refl, refl, refl); typed = refl }
    also tt

-- ---- their rows

-- the rows of the table with number n in a list of tables that begins at a place
abbrev IsAt : TableRows → ℕ → ℕ → List (List sql.Row) → Type 0
IsAt tables n place [] = Unit {0}
IsAt tables zero place (rows ∷ lists) = IsPermutation (rows_in tables place) rows
IsAt tables (suc n) place (rows ∷ lists) = IsAt tables n (place + 1) lists

is_at : (tables : TableRows) (n place : ℕ) (lists : List (List sql.Row)) → HaveEach tables place lists → IsAt tables n place lists
is_at tables n place [] all = tt
is_at tables zero place (rows ∷ lists) all = all.0
is_at tables (suc n) place (rows ∷ lists) all = is_at tables n (place + 1) lists all.1

module _ (tables : TableRows) (books : Books) where
  abbrev AreListed : Type 0
  AreListed = HaveEach tables 0 (stands.rows_of (counts_of books) books)

  pub listed : HaveRowsOf tables books → HaveCountsOf tables books → AreListed
  listed r c =
      r.chain
      also r.countries
      also r.languages
      also r.categories
      also r.cities
      also r.actors
      also r.films
      also r.casts
      also r.branches
      also r.staff
      also r.rows Customers
      also r.rows CopyRows
      also r.rows Rentals
      also r.rows Payments
      also r.lots
      also r.consignments
      also r.lines
      also r.kept
      also c.counters
      also c.outs
      also c.pairs
      also r.rows TermRows
      also r.rule
      also tt

  module _ (all : AreListed) where
    abbrev at : (n : ℕ) → IsAt tables n 0 (stands.rows_of (counts_of books) books)
    at n = is_at tables n 0 (stands.rows_of (counts_of books) books) all

    pub rows_named : HaveRowsOf tables books
    rows_named = record {
      chain = at CHAIN;
      countries = at COUNTRIES;
      languages = at LANGUAGES;
      categories = at CATEGORIES;
      cities = at CITIES;
      actors = at ACTORS;
      films = at FILMS;
      casts = at CASTS;
      branches = at BRANCHES;
      staff = at STAFF;
      rows =
          each (λ t. IsPermutation (rows_in tables (place_of t)) (map (row_columns t) (rows_of books t)))
          (at CUSTOMERS also at COPIES also at RENTALS also at TERMS also at PAYMENTS also tt);
      lots = at LOTS;
      consignments = at CONSIGNMENTS;
      lines = at LINES;
      kept = at KEPT;
      rule = at RULE;
    }

    pub counts_named : AreTermed books → HaveCountsOf tables books
    counts_named termed = record { counters = at COUNTERS; outs = at OUTS; pairs = at PAIRS; terms = termed }
