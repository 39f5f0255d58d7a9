-- Lines of consignments, in which the lines of one consignment are neighbours, and the texts of the lists.
use Rattle.shop_schema.proofs.Common.{append_assoc, ◌≡◌, ◌==◌, ◌&&◌, ◌+◌, ◌≤◌, ℕ, suc, Bool, true, false, cond, List, [], ◌∷◌, ◌++◌, map, filter, length, codes}
use Rattle.shop_schema.proofs.Common.{decimal, Option, Some, None, refl, sym, ap, subst, ◌∙◌, arith, append-nil, nat_tests, numbered, numbered_from, IsCounted}
use Rattle.shop_schema.proofs.Common.{AreNumbered, object, numbers_text, flag_text, Arrival, Parcel, Line, Consignment, as_arrival, as_parcel, arrivals_text}
use Rattle.shop_schema.proofs.Common.{sent_text, same_test, filter_filter}
use Rattle.shop_views.specs.Consignments.{Listed, arrival_text}
use Rattle.shop_schema.proofs.Lists.{filter_twice}
use Rattle.consign_store.specs.Listed.{ListLine, lines_of, list_lines, listed, is_first, films_of, begun, Grouped, closed, with_film, take_line, run_from}
use Rattle.shop_views.specs.Consignments as bodies

pub run_push : (so_far : Grouped) (lines : List ListLine) (line : ListLine) → run_from so_far (lines ++ line ∷ []) ≡ take_line (run_from so_far lines) line
run_push so_far [] line = refl
run_push so_far (first ∷ lines) line = run_push (take_line so_far first) lines line

run_append : (so_far : Grouped) (a b : List ListLine) → run_from so_far (a ++ b) ≡ run_from (run_from so_far a) b
run_append so_far [] b = refl
run_append so_far (line ∷ a) b = run_append (take_line so_far line) a b

-- ---- the lines of one consignment

module _ (it : Consignment) where
  abbrev with_films : List ℕ → Listed
  with_films films = record { source = it.source; addressee = it.addressee; number = it.number; received = it.received; films = films }

  further : (done : List Listed) (films : List ℕ) (k : ℕ) → 2 ≤ k → (ls : List Line)
      → run_from (done, Some (with_films films)) (map (λ (l : ℕ × Line). (it, Some l)) (numbered_from k ls))
      ≡ (done, Some (with_films (films ++ map (λ (l : Line). l.film) ls)))
  further done films k later [] = ap (λ fs. (done, Some (with_films fs))) (sym (append-nil films))
  further done films k later (l ∷ ls) =
      let other : (k == 1) ≡ false = grind (arith, nat_tests) in
      let one : take_line (done, Some (with_films films)) (it, Some (k, l)) ≡ (done, Some (with_films (films ++ l.film ∷ []))) =
      ap (λ b. cond {A = Grouped} b (done ++ with_films films ∷ [], Some (begun (it, Some (k, l)))) (done, Some (with_films (films ++ l.film ∷ [])))) other in
      ap (λ (s : Grouped). run_from s (map (λ (l : ℕ × Line). (it, Some l)) (numbered_from (k + 1) ls))) one
      ∙ further done (films ++ l.film ∷ []) (k + 1) (omega (arith, later)) ls
      ∙ ap (λ fs. (done, Some (with_films fs))) (append_assoc films (l.film ∷ []) (map (λ (l : Line). l.film) ls))

  starts : (so_far : Grouped) (line : Option (ℕ × Line)) → is_first line ≡ true
      → take_line so_far (it, line) ≡ (closed so_far, Some (with_films (films_of line)))
  starts (done, None) line first = refl
  starts (done, Some open_one) line first =
      ap (λ b. cond {A = Grouped} b (done ++ open_one ∷ [], Some (begun (it, line))) (done, Some (with_film open_one line))) first

  one_consignment : (so_far : Grouped) (ls : List Line)
      → run_from so_far (lines_of it (numbered ls)) ≡ (closed so_far, Some (with_films (map (λ (l : Line). l.film) ls)))
  one_consignment so_far [] = starts so_far None refl
  one_consignment so_far (l ∷ ls) =
      ap (λ (s : Grouped). run_from s (map (λ (l : ℕ × Line). (it, Some l)) (numbered_from 2 ls))) (starts so_far (Some (1, l)) refl)
      ∙ further (closed so_far) (l.film ∷ []) 2 (omega arith) ls

-- ---- all consignments

pub all_listed : (cs : List Consignment) (so_far : Grouped) → closed (run_from so_far (list_lines cs)) ≡ closed so_far ++ map listed cs
all_listed [] so_far = sym (append-nil (closed so_far))
all_listed (it ∷ cs) so_far =
    ap closed
    (run_append so_far (lines_of it (numbered it.lines)) (list_lines cs)
    ∙ ap (λ (s : Grouped). run_from s (list_lines cs)) (one_consignment it so_far it.lines))
    ∙ all_listed cs (closed so_far, Some (listed it)) ∙ append_assoc (closed so_far) (listed it ∷ []) (map listed cs)

-- ---- arrivals are numbered for each source

pub arrivals_are : (earlier : List Arrival) (later : List Consignment)
    → ((s : ℕ)
    → IsCounted (length (filter (λ (other : Arrival). other.source == s) earlier) + 1)
    (map (λ (it : Consignment). it.number) (filter (λ (it : Consignment). it.source == s) later)))
    → map arrival_text (map listed later) ≡ arrivals_text earlier (map as_arrival later)
arrivals_are earlier [] counted = refl
arrivals_are earlier (it ∷ later) counted =
    let first :
    IsCounted (length (filter (λ (other : Arrival). other.source == it.source) earlier) + 1)
    (it.number ∷ map (λ (it : Consignment). it.number) (filter (λ (other : Consignment). other.source == it.source) later)) =
    rw (same_test it.source) at (counted it.source) in
    λ i. object (
    (codes "films", numbers_text (map (λ (l : Line). l.film) it.lines)) ∷ (codes "from", decimal it.source)
    ∷ (codes "number", decimal (first.0 i)) ∷ (codes "received", flag_text it.received) ∷ [])
    ∷ arrivals_are (as_arrival it ∷ earlier) later (λ s. next s (it.source == s) refl) i
  where
    next : (s : ℕ) (b : Bool) → (it.source == s) ≡ b
        → IsCounted (length (filter (λ (other : Arrival). other.source == s) (as_arrival it ∷ earlier)) + 1)
        (map (λ (it : Consignment). it.number) (filter (λ (it : Consignment). it.source == s) later))
    next s true is =
        let all :
        IsCounted (length (filter (λ (other : Arrival). other.source == s) earlier) + 1)
        (it.number ∷ map (λ (it : Consignment). it.number) (filter (λ (other : Consignment). other.source == s) later)) =
        rw is at (counted s) in
        let same : length (filter (λ (other : Arrival). other.source == s) earlier) + 1 + 1
        ≡ suc (length (filter (λ (other : Arrival). other.source == s) earlier)) + 1 =
        omega arith in
        rw is (subst (λ (k : ℕ). IsCounted k (map (λ (it : Consignment). it.number) (filter (λ (it : Consignment). it.source == s) later))) same all.1)
    next s false is = rw is (rw is at (counted s))

-- the consignments that were sent are numbered for each addressee
pub parcels_are : (earlier : List Parcel) (later : List Consignment)
    → ((a : ℕ)
    → IsCounted (length (filter (λ (other : Parcel). other.addressee == a) earlier) + 1)
    (map (λ (it : Consignment). it.number) (filter (λ (it : Consignment). it.addressee == a) later)))
    → map bodies.sent_text (map listed later) ≡ sent_text earlier (map as_parcel later)
parcels_are earlier [] counted = refl
parcels_are earlier (it ∷ later) counted =
    let first :
    IsCounted (length (filter (λ (other : Parcel). other.addressee == it.addressee) earlier) + 1)
    (it.number ∷ map (λ (it : Consignment). it.number) (filter (λ (other : Consignment). other.addressee == it.addressee) later)) =
    rw (same_test it.addressee) at (counted it.addressee) in
    λ i.
    object
    ((codes "films", numbers_text (map (λ (l : Line). l.film) it.lines)) ∷ (codes "number", decimal (first.0 i)) ∷ (codes "to", decimal it.addressee) ∷ [])
    ∷ parcels_are (as_parcel it ∷ earlier) later (λ a. next a (it.addressee == a) refl) i
  where
    next : (a : ℕ) (b : Bool) → (it.addressee == a) ≡ b
        → IsCounted (length (filter (λ (other : Parcel). other.addressee == a) (as_parcel it ∷ earlier)) + 1)
        (map (λ (it : Consignment). it.number) (filter (λ (it : Consignment). it.addressee == a) later))
    next a true is =
        let all :
        IsCounted (length (filter (λ (other : Parcel). other.addressee == a) earlier) + 1)
        (it.number ∷ map (λ (it : Consignment). it.number) (filter (λ (other : Consignment). other.addressee == a) later)) =
        rw is at (counted a) in
        let same : length (filter (λ (other : Parcel). other.addressee == a) earlier) + 1 + 1
        ≡ suc (length (filter (λ (other : Parcel). other.addressee == a) earlier)) + 1 =
        omega arith in
        rw is (subst (λ (k : ℕ). IsCounted k (map (λ (it : Consignment). it.number) (filter (λ (it : Consignment). it.addressee == a) later))) same all.1)
    next a false is = rw is (rw is at (counted a))

-- the books number consignments so, and the texts of the arrivals are the same
pub arrivals_text_is : (b : ℕ) (cs : List Consignment)
    → ((s a : ℕ) → AreNumbered (λ (it : Consignment). it.source == s && it.addressee == a) (λ it. it.number) cs)
    → map arrival_text (map listed (filter (λ (it : Consignment). it.addressee == b) cs))
    ≡ arrivals_text [] (map as_arrival (filter (λ (it : Consignment). it.addressee == b) cs))
arrivals_text_is b cs counted =
    arrivals_are [] (filter (λ (it : Consignment). it.addressee == b) cs)
    (λ s.
    subst (λ (l : List Consignment). IsCounted 1 (map (λ (it : Consignment). it.number) l))
    (sym (filter_filter (λ (it : Consignment). it.source == s) (λ (it : Consignment). it.addressee == b) cs)) (counted s b))

pub parcels_text_is : (b : ℕ) (cs : List Consignment)
    → ((s a : ℕ) → AreNumbered (λ (it : Consignment). it.source == s && it.addressee == a) (λ it. it.number) cs)
    → map bodies.sent_text (map listed (filter (λ (it : Consignment). it.source == b) cs))
    ≡ sent_text [] (map as_parcel (filter (λ (it : Consignment). it.source == b) cs))
parcels_text_is b cs counted =
    parcels_are [] (filter (λ (it : Consignment). it.source == b) cs)
    (λ a.
    subst (λ (l : List Consignment). IsCounted 1 (map (λ (it : Consignment). it.number) l))
    (filter_twice (λ (it : Consignment). it.source == b) (λ (it : Consignment). it.addressee == a) cs) (counted b a))
