-- What the proofs on stock files cite.
use Rattle.shop_types.proofs.Common.{◌≡◌, ◌≢◌, ◌||◌, ◌∙◌, ◌<◌, ◌≤◌, ◌+◌, ◌-◌, ◌++◌, refl, sym, ap, arith, ℕ, zero, suc, true, false, List, [], ◌∷◌, length}
use Rattle.shop_types.proofs.Common.{Option, Some, None, Ok, Err, nat_lt, append_assoc, append-nil, ne_eqb, le-ltb, lt-ltb, or_left, nat_tests, Bor}
use Rattle.csv.specs.Machine.{Read, next_record}
use Rattle.csv.specs.Reading.{default_config, records_from, strip_bom}
use Rattle.csv.specs.declared.parser.State.TheVariants as st
use Rattle.csv.specs.declared.parser.State.{State}
use Rattle.csv.specs.declared.reader.Reader.{Reader}
use Rattle.csv.specs.Records.{field_at}
use Rattle.csv.proofs.RecordFacts.{field-there}
use Rattle.stock_csv.specs.declared.StockRow.{StockRow}
use Rattle.stock_csv.specs.declared.StockFault.{StockFault}
use Rattle.stock_csv.specs.declared.StockFault.TheVariants.{Bad, Memory}
use Rattle.stock_csv.specs.Fault.{IsFaultOf}
use Rattle.stock_csv.specs.Progress.{IsAt, Found}
use Rattle.stock_csv.specs.Rows.{StockRows, Text, is_header, row_of, row_then, rows_from, rows_under_header, stock_rows_of, two_of, with_row}

-- ---- the two fields of a record

pub two_some : (r : List Text) (a b : Text) → length r ≡ 2 → Some a ≡ field_at r 0 → Some b ≡ field_at r 1 → Some (a, b) ≡ two_of r
unfolding field_at
two_some [] a b n x y = absurd (omega arith)
two_some (p ∷ []) a b n x y = absurd (omega arith)
two_some (p ∷ q ∷ []) a b n x y = cc
two_some (p ∷ q ∷ z ∷ zs) a b n x y = absurd (omega arith)

pub two_missing : (r : List Text) (i : ℕ) → length r ≡ 2 → i < 2 → None ≡ field_at r i → None ≡ two_of r
two_missing r i n lt e = absurd (field-there r i (omega arith) (sym e))

-- ---- records, one at a time

-- the records that a reader in that state reads in a text, at most n
abbrev pub rest_of : ℕ → State → Text → List (List Text)
rest_of n s rest = records_from default_config n s rest

pub records_more : (n k : ℕ) (s : State) (rest : Text) (p : Read) → k ≡ suc n → next_record default_config s [] [] rest ≡ Some p
    → rest_of k s rest ≡ p.0 ∷ rest_of n p.1 p.2
unfolding records_from
records_more n k s rest p is e = rw (is, e) refl

pub records_none : (n : ℕ) (s : State) (rest : Text) → next_record default_config s [] [] rest ≡ None → rest_of n s rest ≡ []
unfolding records_from
records_none zero s rest e = refl
records_none (suc n) s rest e = rw e refl

-- the rows that were read already, and then the others
abbrev pub after : List StockRow → StockRows → StockRows
after rows (Ok more) = Ok (rows ++ more)
after rows (Err line) = Err line

pub after-row : (rows : List StockRow) (row : StockRow) (said : StockRows) → after rows (with_row row said) ≡ after (rows ++ row ∷ []) said
after-row rows row (Ok more) = ap Ok (sym (append_assoc rows (row ∷ []) more))
after-row rows row (Err line) = refl

-- how far the reading of the whole text has come
pub record Going (whole : StockRows) (rows : List StockRow) (line total : ℕ) (r : Reader (Bor (List ℕ))) : Type 0 where
  pub state : State
  pub rest : Text
  pub at : IsAt r state rest
  pub is : whole ≡ after rows (rows_from line total (rest_of (503 - line) state rest))

module _ (whole : StockRows) (rows : List StockRow) (line total : ℕ)
    (old new : Reader (Bor (List ℕ))) (fields : List Text) (g : Going whole rows line total old) where
  pub ends_first : line ≡ 2
      → ((s : State) (rest : Text) → IsAt old s rest → Found (next_record default_config s [] [] rest) new false fields) → whole ≡ Err line
  ends_first two found =
      let none = found g.state g.rest g.at in
      g.is ∙ rw (records_none (503 - line) g.state g.rest none, two) refl

  pub ends_later : line ≢ 2 → ((s : State) (rest : Text) → IsAt old s rest → Found (next_record default_config s [] [] rest) new false fields) → whole ≡ Ok rows
  ends_later more found =
      let none = found g.state g.rest g.at in
      g.is ∙ rw (records_none (503 - line) g.state g.rest none, ne_eqb line 2 more) (ap Ok (append-nil rows))

  module _ (lt : line < 503) (found : (s : State) (rest : Text) → IsAt old s rest → Found (next_record default_config s [] [] rest) new true fields) where
    stands : whole
        ≡ after rows
        (row_then line total (row_of fields)
        (λ more. rows_from (line + 1) more (rest_of (503 - (line + 1)) (found g.state g.rest g.at).0.1 (found g.state g.rest g.at).0.2)))
    stands =
        let f = found g.state g.rest g.at in
        let k : 503 - line ≡ suc (503 - (line + 1)) = omega arith in
        g.is ∙ ap (λ rs. after rows (rows_from line total rs)) (records_more (503 - (line + 1)) (503 - line) g.state g.rest f.0 k f.1)
        ∙ ap (λ (r : List Text). after rows (row_then line total (row_of r) (λ more. rows_from (line + 1) more (rest_of (503 - (line + 1)) f.0.1 f.0.2))))
        (sym f.2)

    pub is_bad : None ≡ row_of fields → whole ≡ Err line
    is_bad e = stands ∙ rw (← e) refl

    pub is_over : (row : StockRow) (copies : ℕ) → copies ≡ row.copies → Some row ≡ row_of fields → 1000 < total + copies → whole ≡ Err line
    is_over row copies is e over = stands ∙ rw (← e, passes) refl
      where
        passes : (nat_lt 501 line || nat_lt 1000 (total + row.copies)) ≡ true
        passes = grind (arith, nat_tests)

    -- below the last line that a row may have, any record is at fault
    pub is_past : 501 < line → whole ≡ Err line
    is_past past = stands ∙ any (row_of fields) _
      where
        any : (read : Option StockRow) (below : ℕ → StockRows) → after rows (row_then line total read below) ≡ Err line
        any None below = refl
        any (Some row) below = rw (or_left (nat_lt 501 line) (nat_lt 1000 (total + row.copies)) (lt-ltb 501 line past)) refl

    pub goes_on : (row : StockRow) (copies : ℕ) → copies ≡ row.copies → Some row ≡ row_of fields → line ≤ 501 → total + copies ≤ 1000
        → Going whole (rows ++ row ∷ []) (line + 1) (total + copies) new
    goes_on row copies is e low few =
        let f = found g.state g.rest g.at in
        let fits : total + row.copies ≤ 1000 = omega (arith, is, few) in
        record {
          state = f.0.1;
          rest = f.0.2;
          at = f.3;
          is = rw is (stands ∙ rw (← e, le-ltb 501 line low, le-ltb 1000 (total + row.copies) fits) (after-row rows row _));
        }

-- ---- the header row

pub no_record : (text : Text) → next_record default_config st.StartRecord [] [] (strip_bom text) ≡ None → stock_rows_of text ≡ Err 1
unfolding stock_rows_of
no_record text e = ap rows_under_header (records_none 502 st.StartRecord (strip_bom text) e)

pub other_header : (text : Text) (p : Read) (fields : List Text) → next_record default_config st.StartRecord [] [] (strip_bom text) ≡ Some p
    → fields ≡ p.0 → false ≡ is_header fields → stock_rows_of text ≡ Err 1
unfolding stock_rows_of
other_header text p fields e f h =
    ap rows_under_header (records_more 501 502 st.StartRecord (strip_bom text) p refl e) ∙ rw (← f, ← h) refl

-- the whole text says what the records below the header row say
pub under_header : (text : Text) (p : Read) (fields : List Text) → next_record default_config st.StartRecord [] [] (strip_bom text) ≡ Some p
    → fields ≡ p.0 → true ≡ is_header fields → (said : StockRows) → rows_from 2 0 (rest_of 501 p.1 p.2) ≡ said → stock_rows_of text ≡ said
unfolding stock_rows_of
under_header text p fields e f h said below =
    ap rows_under_header (records_more 501 502 st.StartRecord (strip_bom text) p refl e) ∙ rw (← f, ← h) below

-- a fault below the header row is the fault of the whole text
pub fault_under_header : (text : Text) (p : Read) (fields : List Text) → next_record default_config st.StartRecord [] [] (strip_bom text) ≡ Some p
    → fields ≡ p.0 → true ≡ is_header fields → (fault : StockFault)
    → IsFaultOf fault (rows_from 2 0 (rest_of 501 p.1 p.2)) → IsFaultOf fault (stock_rows_of text)
fault_under_header text p fields e f h (Bad bad) below = under_header text p fields e f h (Err bad.line) below
fault_under_header text p fields e f h Memory below = tt
