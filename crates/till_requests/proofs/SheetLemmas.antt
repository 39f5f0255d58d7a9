-- The records of a sheet, one at a time.
use Rattle.shop_types.proofs.Common.{◌≡◌, ◌∙◌, ◌<◌, ◌+◌, ◌-◌, refl, sym, ap, arith, ℕ, zero, suc, true, false, List, [], ◌∷◌, Option, Some, None, Bor}
use Rattle.csv.specs.Machine.{Read, next_record}
use Rattle.csv.specs.Reading.{default_config, records_from, strip_bom}
use Rattle.csv.specs.declared.parser.State.TheVariants as st
use Rattle.csv.specs.declared.parser.State.{State}
use Rattle.csv.specs.declared.reader.Reader.{Reader}
use Rattle.till_requests.specs.SheetProgress.{IsAt, Found}
use Rattle.till_requests.specs.SheetRows.{Row, Text, first_number, first_row, has_header, number_in_sheet, row_in_sheet}

-- the records that a reader in that state reads in a text, at most n
abbrev pub rest_of : ℕ → State → Text → List (List Text)
rest_of n s rest = records_from default_config n s rest

records_more : (n k : ℕ) (s : State) (rest : Text) (p : Read) → k ≡ suc n → next_record default_config s [] [] rest ≡ Some p
    → rest_of k s rest ≡ p.0 ∷ rest_of n p.1 p.2
unfolding records_from
records_more n k s rest p is e = rw (is, e) refl

records_none : (n : ℕ) (s : State) (rest : Text) → next_record default_config s [] [] rest ≡ None → rest_of n s rest ≡ []
unfolding records_from
records_none zero s rest e = refl
records_none (suc n) s rest e = rw e refl

records_zero : (s : State) (rest : Text) → rest_of 0 s rest ≡ []
unfolding records_from
records_zero s rest = refl

module _ {X : Type 0} (first : List (List Text) → Option X) where
  -- what is looked for in all records is what the records that are left say
  pub record Going (whole : Option X) (at : ℕ) (r : Reader (Bor (List ℕ))) : Type 0 where
    pub state : State
    pub rest : Text
    pub is_at : IsAt r state rest
    pub is : whole ≡ first (rest_of (1000000 - at) state rest)

  module _ (whole : Option X) (at : ℕ) where
    pub ends_at_most : first [] ≡ None → (r : Reader (Bor (List ℕ))) → Going whole at r → 1000000 - at ≡ 0 → whole ≡ None
    ends_at_most empty r g last = g.is ∙ rw (last, records_zero g.state g.rest) empty

    module _ (old new : Reader (Bor (List ℕ))) (fields : List Text) (g : Going whole at old) where
      pub ends : first [] ≡ None
          → ((s : State) (rest : Text) → IsAt old s rest → Found (next_record default_config s [] [] rest) new false fields) → whole ≡ None
      ends empty found =
          let none = found g.state g.rest g.is_at in
          g.is ∙ rw (records_none (1000000 - at) g.state g.rest none) empty

      module _ (lt : at < 1000000) (found : (s : State) (rest : Text) → IsAt old s rest → Found (next_record default_config s [] [] rest) new true fields) where
        stands : whole ≡ first (fields ∷ rest_of (1000000 - (at + 1)) (found g.state g.rest g.is_at).0.1 (found g.state g.rest g.is_at).0.2)
        stands =
            let f = found g.state g.rest g.is_at in
            let k : 1000000 - at ≡ suc (1000000 - (at + 1)) = omega arith in
            g.is ∙ ap first (records_more (1000000 - (at + 1)) (1000000 - at) g.state g.rest f.0 k f.1)
            ∙ ap (λ (r : List Text). first (r ∷ rest_of (1000000 - (at + 1)) f.0.1 f.0.2)) (sym f.2)

        pub is_found : (it : Option X) → ((more : List (List Text)) → first (fields ∷ more) ≡ it) → whole ≡ it
        is_found it says = stands ∙ says _

        pub goes_on : ((more : List (List Text)) → first (fields ∷ more) ≡ first more) → Going whole (at + 1) new
        goes_on says =
            let f = found g.state g.rest g.is_at in
            record { state = f.0.1; rest = f.0.2; is_at = f.3; is = stands ∙ says _ }

-- a sheet's row is the first one of the copy among its records
pub under_header : (copy : ℕ) (text : Text) (row : Option Row) → true ≡ has_header text
    → first_row copy (rest_of 1000000 st.StartRecord (strip_bom text)) ≡ row → row_in_sheet copy text ≡ Some row
unfolding row_in_sheet
under_header copy text row has is = rw (← has) (ap Some is)

-- so is the number that it has for a name
pub number_under_header : (kind name text : Text) (number : Option ℕ) → true ≡ has_header text
    → first_number kind name (rest_of 1000000 st.StartRecord (strip_bom text)) ≡ number → number_in_sheet kind name text ≡ Some number
unfolding number_in_sheet
number_under_header kind name text number has is = rw (← has) (ap Some is)
