-- The rows of every file that is read are within the limits.
use Rattle.std.proofs.Common.{IfOk, All}
use Rattle.shop_types.proofs.Common.{nat_tests, ◌≡◌, ◌==◌, ◌<◌, ◌≤◌, ◌+◌, ◌^◌, refl, arith, ℕ, List, [], ◌∷◌, length, Option, Some, None, Ok, Err, nat_lt}
use Rattle.shop_types.proofs.Common.{IfSome, replicate, cond_both, eqb-false, ltb-false, or_parts, length-replicate, All-nil, All-cons, IfOk-at_ok}
use Rattle.shop_types.proofs.Common.{row_number_of}
use Rattle.std.proofs.lemmas.List.{length-append}
use Rattle.csv.specs.Reading.{default_config, records_from, strip_bom}
use Rattle.csv.specs.declared.parser.State.TheVariants as st
use Rattle.stock_csv.specs.declared.StockRow.{StockRow}
use Rattle.stock_csv.specs.Rows.{StockRows, Text, copies_of, is_header, row_from, row_of, row_then, rows_from, rows_under_header, stock_rows_of, with_row}
use Rattle.stock_csv.specs.Stock.{IsStock, IsStockRow, films_of}
use Rattle.stock_csv.proofs.CopiesLemmas.{plain_is_some}

-- ---- each row

film_good : (field : Text) → IfSome (row_number_of field) (λ n. (1 ≤ n) × (n < 2 ^ 32))
film_good field = grind (arith, nat_tests)

copies_good : (field : Text) → IfSome (copies_of field) (λ n. (1 ≤ n) × (n ≤ 99))
copies_good field = grind (arith, nat_tests, plain_is_some)

from_good : (film copies : Option ℕ) → IfSome film (λ n. (1 ≤ n) × (n < 2 ^ 32))
    → IfSome copies (λ n. (1 ≤ n) × (n ≤ 99)) → IfSome (row_from film copies) IsStockRow
from_good None copies f c = tt
from_good (Some film) None f c = tt
from_good (Some film) (Some copies) f c = record { film_low = f.0; film_high = f.1; copies_low = c.0; copies_high = c.1 }

row_good : (fields : List Text) → IfSome (row_of fields) IsStockRow
row_good (a ∷ b ∷ []) = from_good (row_number_of a) (copies_of b) (film_good a) (copies_good b)
row_good fields = tt

-- ---- the rows from a line on

record AreWithin (line total : ℕ) (rows : List StockRow) : Type 0 where
  pub some : line ≡ 2 → 1 ≤ length rows
  pub few : line + length rows ≤ 502
  pub copies : total + length (films_of rows) ≤ 1000
  pub each : All IsStockRow rows

films_of_more : (row : StockRow) (rows : List StockRow) → length (films_of (row ∷ rows)) ≡ row.copies + length (films_of rows)
films_of_more row rows = rw (length-append (replicate row.copies row.film) (films_of rows), length-replicate row.copies row.film) refl

with_row_good : (P Q : List StockRow → Type 0) (row : StockRow) (said : StockRows) → IfOk said P
    → ((rows : List StockRow) → P rows → Q (row ∷ rows)) → IfOk (with_row row said) Q
with_row_good P Q row (Ok rows) p more = more rows p
with_row_good P Q row (Err line) p more = tt

more_within : (line total : ℕ) (row : StockRow) (rows : List StockRow) → IsStockRow row
    → AreWithin (line + 1) (total + row.copies) rows → AreWithin line total (row ∷ rows)
more_within line total row rows good below =
    let counted = films_of_more row rows in
    record {
      some = λ first. omega arith;
      few = omega (arith, below.few);
      copies = omega (arith, below.copies, counted);
      each = All-cons IsStockRow row rows good below.each;
    }

row_then_within : (line total : ℕ) (read : Option StockRow) (below : ℕ → StockRows) → IfSome read IsStockRow
    → ((more : ℕ) → line ≤ 501 → more ≤ 1000 → IfOk (below more) (AreWithin (line + 1) more)) → IfOk (row_then line total read below) (AreWithin line total)
row_then_within line total None below good within = tt
row_then_within line total (Some row) below good within = cond_both _ _ _ (λ said. IfOk said (AreWithin line total))
    (λ over. tt)
    (λ under.
    let parts = or_parts (nat_lt 501 line) (nat_lt 1000 (total + row.copies)) under in
    with_row_good _ _ row (below (total + row.copies))
    (within (total + row.copies) (ltb-false 501 line parts.0) (ltb-false 1000 (total + row.copies) parts.1))
    (λ rows. more_within line total row rows good))

rows_within : (line total : ℕ) (records : List (List Text)) → line ≤ 502 → total ≤ 1000 → IfOk (rows_from line total records) (AreWithin line total)
rows_within line total [] low few = cond_both (line == 2) (Err 2) (Ok []) (λ said. IfOk said (AreWithin line total))
    (λ first. tt)
    (λ later. record {
      some = λ first. absurd (eqb-false line 2 later first);
      few = omega arith;
      copies = omega arith;
      each = All-nil IsStockRow;
    })
rows_within line total (fields ∷ more) low few =
    row_then_within line total (row_of fields) (λ copies. rows_from (line + 1) copies more) (row_good fields)
    (λ copies l f. rows_within (line + 1) copies more (omega (arith, l)) f)

under_header_good : (records : List (List Text)) → IfOk (rows_under_header records) IsStock
under_header_good [] = tt
under_header_good (header ∷ more) = cond_both (is_header header) (rows_from 2 0 more) (Err 1) (λ said. IfOk said IsStock)
    (λ named. all_good (rows_from 2 0 more) (rows_within 2 0 more (omega arith) (omega arith)))
    (λ other. tt)
  where
    all_good : (said : StockRows) → IfOk said (AreWithin 2 0) → IfOk said IsStock
    all_good (Ok rows) within = record { some = within.some refl; few = omega (arith, within.few); copies = omega (arith, within.copies); each = within.each }
    all_good (Err line) within = tt

-- whatever the text, the rows that it says are within the limits
pub rows_are_stock : (text : Text) (rows : List StockRow) → stock_rows_of text ≡ Ok rows → IsStock rows
unfolding stock_rows_of
rows_are_stock text rows said = IfOk-at_ok IsStock said (under_header_good (records_from default_config 502 st.StartRecord (strip_bom text)))
