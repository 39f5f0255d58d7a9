-- Why the lists of consignments fail with `Failed`: no row of sound books is refused.
use Rattle.shop_schema.proofs.Common.{◌≢◌, ⊤, suc, Option, None, IfSome, or_null, flag_value}
use Rattle.shop_schema.proofs.Common.{◌≡◌, ◌==◌, ◌<◌, ◌≤◌, ◌^◌, ◌-◌, ◌+◌, ℕ, List, [], ◌∷◌, map, filter, length, Bool, Some, refl, ap}
use Rattle.shop_schema.proofs.Common.{arith, AllByRecursion, all-filter, all-flat_map, all_map, all_weaker, all-permutation, Books, Line}
use Rattle.shop_schema.proofs.Common.{Ghosts, Held, state, StoreFault, Failed, Consignment, numbered, IsHeld, number_value, sorted_by, goes_before}
use Rattle.shop_schema.proofs.Common.{length_permutation, IsCounted}
use Rattle.sqlite_value.specs.Order as sql
use Rattle.sqlite_tied.specs.Compute.{everything}
use Rattle.sqlite.specs.Listing.{understood}
use Rattle.sql_rows.proofs.QueryFaults.{fine_joined}
use Rattle.sql_rows.proofs.EachFaults.{few_of_each}
use Rattle.shop_schema.specs.RowValues.{IsNumber, IsConsignment}
use Rattle.sql_rows.specs.Causes.{IsReady, MetFaults, FailsToTake}
use Rattle.shop_schema.specs.Asked.{HoldsBooks}
use Rattle.shop_store.specs.Asked.{IsNoneOf}
use Rattle.shop_store.proofs.EachFits.{Shows, each_met, numbered_fit, length_numbered, length_filtered}
use Rattle.consign_store.specs.declared.lists.ConsignmentPage.{ConsignmentPage}
use Rattle.consign_store.specs.Listed.{ListLine, IsListLine, shown_line, lines_of, list_lines, HasConsignments}
use Rattle.consign_store.specs.declared.lists.TheConstants.{SELECT_ARRIVALS, SELECT_SENT, SELECT_TRANSIT}
use Rattle.consign_store.proofs.ListTexts.{arrivals_mean, sent_mean, shows_arrivals, shows_sent}
use Rattle.consign_store.proofs.TransitTexts.{transit_means, shows_transit, is_open}
use Rattle.consign_store.proofs.TransitOrder.{sorted_bag}

-- ---- the rows of consignments that the program can hold

lines_held : (it : Consignment) → IsConsignment it → (ls : List (ℕ × Line)) → AllByRecursion (λ (l : ℕ × Line). IsNumber l.0 × IsNumber l.1.film) ls
    → AllByRecursion IsListLine (lines_of it ls)
lines_held it held [] all = (record { source = held.source; addressee = held.addressee; number = held.number; line = tt }, tt)
lines_held it held (l ∷ ls) all =
    all_map IsListLine (λ (line : ℕ × Line). (it, Some line)) (l ∷ ls)
    (all_weaker (λ (l : ℕ × Line). IsNumber l.0 × IsNumber l.1.film) _
    (λ l is. record { source = held.source; addressee = held.addressee; number = held.number; line = is }) (l ∷ ls) all)

all_held : (cs : List Consignment) → AllByRecursion IsConsignment cs → AllByRecursion IsListLine (list_lines cs)
all_held cs all =
    all-flat_map IsListLine (λ (it : Consignment). lines_of it (numbered it.lines)) cs
    (all_weaker IsConsignment _
    (λ it held. lines_held it held (numbered it.lines)
    (numbered_fit (λ (l : Line). IsNumber l.film) it.lines held.few (all_weaker _ _ (λ l is. is.0) it.lines held.lines))) cs all)

-- a row that has no such columns shows no line
pub no_line : (row : sql.Row)
    → ((v : ℕ × (ℕ × (ℕ × (Bool × (Option ℕ × (Option ℕ × Unit {0}))))))
    → IsNumber v.0 × (IsNumber v.1.0 × (IsNumber v.1.1.0 × (⊤ × (IfSome v.1.1.1.1.0 IsNumber × (IfSome v.1.1.1.1.1.0 IsNumber × Unit {0})))))
    → number_value v.0 ∷ number_value v.1.0 ∷ number_value v.1.1.0 ∷ flag_value v.1.1.1.0 ∷ or_null number_value v.1.1.1.1.0
    ∷ or_null number_value v.1.1.1.1.1.0 ∷ [] ≢ row)
    → IsNoneOf IsListLine shown_line row
no_line row none (it, None) fits is =
    none (it.source, (it.addressee, (it.number, (it.received, (None, (None, tt))))))
    (fits.source, (fits.addressee, (fits.number, (tt, (tt, (tt, tt)))))) is
no_line row none (it, Some l) fits is =
    none (it.source, (it.addressee, (it.number, (it.received, (Some l.0, (Some l.1.film, tt))))))
    (fits.source, (fits.addressee, (fits.number, (tt, (fits.line.0, (fits.line.1, tt)))))) is

-- ---- there are few

length_lines : (it : Consignment) (ls : List (ℕ × Line)) → length (lines_of it ls) ≤ length ls + 1
length_lines it [] = omega arith
length_lines it (l ∷ ls) = omega (arith, length_mapped (l ∷ ls))
  where
    one : ℕ × Line → ListLine
    one line = (it, Some line)

    length_mapped : (rest : List (ℕ × Line)) → length (map one rest) ≡ length rest
    length_mapped [] = refl
    length_mapped (l ∷ rest) = ap suc (length_mapped rest)

few_lines : (it : Consignment) → IsConsignment it → length (lines_of it (numbered it.lines)) ≤ 2 ^ 32
few_lines it held = omega (arith, length_lines it (numbered it.lines), length_numbered 1 it.lines, held.few)

-- the last place of so many is their number
few_places : (k : ℕ) (cs : List Consignment) → AllByRecursion IsConsignment cs → IsCounted k (map (λ (it : Consignment). it.place) cs) → k ≤ 2 ^ 63
    → k + length cs ≤ 2 ^ 63
few_places k [] all counted low = omega (arith, low)
few_places k (c ∷ cs) all counted low =
    let next = few_places (k + 1) cs all.1 counted.1 (omega (arith, counted.0, all.0.place.1)) in
    omega (arith, next)

few_listed : (cs : List Consignment) → AllByRecursion IsConsignment cs → length cs ≤ 2 ^ 63 → length (list_lines cs) < 2 ^ 128 - 1
few_listed cs all few =
    let many = few_of_each (λ (it : Consignment). lines_of it (numbered it.lines)) (2 ^ 32) cs (all_weaker IsConsignment _ few_lines cs all) in
    omega (arith, many, few)

module _ (p : Consignment → Bool) (books : Books) (held : IsHeld books) where
  some_held : AllByRecursion IsConsignment (filter p books.consignments)
  some_held = all-filter IsConsignment p books.consignments held.values.consignments

  some_few : length (filter p books.consignments) ≤ 2 ^ 63
  some_few =
      omega (arith, length_filtered p books.consignments, few_places 1 books.consignments held.values.consignments held.places (omega arith))

-- ---- the lists

abbrev pub ShowsLines : List ℕ → sql.Row → (Books → List ListLine) → Type 1
ShowsLines = Shows (λ books. IsListLine) (λ books. shown_line)

module _ (b : ℕ) where
  pub arrivals_list :
      ShowsLines SELECT_ARRIVALS.now (number_value b ∷ [])
      (λ books. list_lines (filter (λ (it : Consignment). it.addressee == b) books.consignments))
  unfolding understood everything
  arrivals_list = record {
    query = _;
    fine = fine_joined _ _ _ _ arrivals_mean tt (refl, refl, refl) refl;
    shows = λ old new books holds held rows h. shows_arrivals old new b rows books holds.schema_is h holds.stands held;
    few = λ books held. few_listed _ (some_held _ books held) (some_few _ books held);
    fit = λ books held. all_held _ (some_held _ books held);
  }

  pub sent_list :
      ShowsLines SELECT_SENT.now (number_value b ∷ [])
      (λ books. list_lines (filter (λ (it : Consignment). it.source == b) books.consignments))
  unfolding understood everything
  sent_list = record {
    query = _;
    fine = fine_joined _ _ _ _ sent_mean tt (refl, refl, refl) refl;
    shows = λ old new books holds held rows h. shows_sent old new b rows books holds.schema_is h holds.stands held;
    few = λ books held. few_listed _ (some_held _ books held) (some_few _ books held);
    fit = λ books held. all_held _ (some_held _ books held);
  }

pub transit_list : ShowsLines SELECT_TRANSIT.now [] (λ books. list_lines (sorted_by goes_before (filter is_open books.consignments)))
unfolding understood everything
transit_list = record {
  query = _;
  fine = fine_joined _ _ _ _ transit_means tt (refl, refl, refl) refl;
  shows = λ old new books holds held rows h. shows_transit old new rows books holds.schema_is h holds.stands held;
  few = λ books held.
      let same = sorted_bag goes_before (filter is_open books.consignments) in
      few_listed _ (all-permutation IsConsignment _ _ same (some_held is_open books held))
      (omega (arith, length_permutation _ _ same, some_few is_open books held));
  fit = λ books held.
      all_held _ (all-permutation IsConsignment _ _ (sorted_bag goes_before (filter is_open books.consignments)) (some_held is_open books held));
}

-- A page is begun, and its query fails.
pub list_met :
    {S : Type 0} (g : Ghosts S) (text : List ℕ) (params : sql.Row) (xs : Books → List ListLine) → ShowsLines text params xs
    → (page : ConsignmentPage) → HasConsignments page page [] → (old new : Held S) → IsReady (state g old) → HoldsBooks (state g old) → (fault : StoreFault)
    → FailsToTake g (HasConsignments page) (λ _. IsNoneOf IsListLine shown_line) page text params old new fault
    → fault ≡ Failed → MetFaults (state g old) (state g new)
list_met g text params xs it page start old new =
    each_met it g (HasConsignments page) (λ _. IsNoneOf IsListLine shown_line) page old new
    (λ books held before after line now is fits took refuses. refuses line fits refl) start
