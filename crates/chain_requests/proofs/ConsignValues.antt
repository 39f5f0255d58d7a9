-- If a consignment is sent or received, the rows of consignments stay such that the program can hold them.
use Rattle.shop_schema.proofs.Common.{◌≡◌, ◌≤◌, ◌<◌, ◌+◌, ◌*◌, ◌^◌, ◌==◌, ◌&&◌, ℕ, zero, suc, List, [], ◌∷◌, ◌++◌, map, filter, not, cond, length, Bool, true}
use Rattle.shop_schema.proofs.Common.{false, inl, inr, refl, ap, subst, ◌∙◌, arith, length-append, nat_le, nat_lt, if◌then◌else◌, AllByRecursion, flat_map}
use Rattle.shop_schema.proofs.Common.{list_all, and_parts, cases_Bool, leb-true, nat_tests, All-append, All-map, All-push, All-weaker, all-filter, Row, arrived}
use Rattle.shop_schema.proofs.Common.{mem, numbered_from, of, is_row, next, put_all, set_row, set_rows, total, Act, Command, Rules, here, Books, BookCopy, Line}
use Rattle.shop_schema.proofs.Common.{Consignment, as_parcel, between, book_acted, book_done, checked, checked_line, come, is_consignment, new_consignment}
use Rattle.shop_schema.proofs.Common.{put_state, rows_at, shop_of, under_way, unmarked, unpacked, is_parcel, IsSound, one, length_map, put_all_own, put_own}
use Rattle.shop_schema.proofs.Common.{same_test, IsHeld, IsNumber, IsRow, IsCopy, IsLine, IsConsignment, IsAct, IsCommand, AreValues, FitsTables, by_table}
use Rattle.shop_schema.proofs.Common.{AreRowValues, CopyRows}
use Rattle.std.proofs.lemmas.List.Filters.{length-filter_both}
use Rattle.sqlite_keyed.proofs.ListLemmas.{all-flat_map, filter-filter}
use Rattle.shop_model.specs.Rows.{put, update_where}
use Rattle.shop_schema.proofs.Acts.{IfConsigns, values_done}
use Rattle.shop_schema.proofs.Values.{number_fits}
use Rattle.chain_requests.specs.Chains.{widest_rules}
use Rattle.shop_model.specs.Values as model

-- ---- rows that are changed

updated : {A : Type 0} (P : A → Type 0) (p : A → Bool) (f : A → A) → ((it : A) → P it → P (f it))
    → (xs : List A) → AllByRecursion P xs → AllByRecursion P (update_where p f xs)
updated P p f stays [] all = tt
updated P p f stays (x ∷ xs) all = (by (p x), updated P p f stays xs all.1)
  where
    by : (hit : Bool) → P (if hit then f x else x)
    by true = stays x all.0
    by false = all.0

sent_rows : (b : ℕ) (xs : List ℕ) (rows : List (Row BookCopy)) → AllByRecursion (IsRow IsCopy) rows
    → AllByRecursion (IsRow IsCopy) (set_rows b xs (put_state model.Sent) rows)
sent_rows b [] rows all = all
sent_rows b (x ∷ xs) rows all =
    sent_rows b xs (set_row b x (put_state model.Sent) rows)
    (updated (IsRow IsCopy) (is_row b x) (λ row. record row { it = put_state model.Sent row.it }) (λ row such. such) rows all)

found_rows : (b : ℕ) (xs : List ℕ) (rows : List (Row BookCopy)) → AllByRecursion (IsRow IsCopy) rows → AllByRecursion (IsRow IsCopy) (rows_at b xs rows)
found_rows b [] rows all = tt
found_rows b (x ∷ xs) rows all =
    All-append (IsRow IsCopy) (filter (is_row b x) rows) (rows_at b xs rows) (all-filter (IsRow IsCopy) (is_row b x) rows all) (found_rows b xs rows all)

sent_lines : (b : ℕ) (xs : List ℕ) (rows : List (Row BookCopy)) → AllByRecursion (IsRow IsCopy) rows
    → AllByRecursion IsLine (map (λ (row : Row BookCopy). under_way row.it) (rows_at b xs rows))
sent_lines b xs rows all =
    All-map IsLine (λ (row : Row BookCopy). under_way row.it) (rows_at b xs rows)
    (All-weaker (IsRow IsCopy) (λ (row : Row BookCopy). IsLine (under_way row.it)) (λ row such. such.2) (rows_at b xs rows) (found_rows b xs rows all))

-- ---- lines that came

each_numbered : {A : Type 0} (P : A → Type 0) (k : ℕ) (xs : List A) → AllByRecursion P xs → AllByRecursion (λ (it : ℕ × A). P it.1) (numbered_from k xs)
each_numbered P k [] all = tt
each_numbered P k (x ∷ xs) all = (all.0, each_numbered P (k + 1) xs all.1)

arrived_lines : (missing : List ℕ) (ls : List Line) → AllByRecursion IsLine ls → AllByRecursion IsLine (arrived missing ls)
arrived_lines missing ls all =
    let came : ℕ × Line → Bool = λ it. not (mem it.0 missing) in
    All-map IsLine (λ (it : ℕ × Line). it.1) (filter came (numbered_from 1 ls))
    (all-filter (λ (it : ℕ × Line). IsLine it.1) came (numbered_from 1 ls) (each_numbered IsLine 1 ls all))

come_lines : (missing : List ℕ) (p : Consignment → Bool) (cs : List Consignment) → AllByRecursion IsConsignment cs
    → AllByRecursion IsLine (flat_map (λ (it : Consignment). arrived missing it.lines) (filter p cs))
come_lines missing p cs all =
    all-flat_map IsLine (λ (it : Consignment). arrived missing it.lines) (filter p cs)
    (All-weaker IsConsignment (λ (it : Consignment). AllByRecursion IsLine (arrived missing it.lines))
    (λ it such. arrived_lines missing it.lines such.lines) (filter p cs) (all-filter IsConsignment p cs all))

checked_lines : (missing : List ℕ) (k : ℕ) (ls : List Line) → AllByRecursion IsLine ls → AllByRecursion IsLine (map (checked_line missing) (numbered_from k ls))
checked_lines missing k [] all = tt
checked_lines missing k (l ∷ ls) all = (all.0, checked_lines missing (k + 1) ls all.1)

so_many : {A : Type 0} (k : ℕ) (xs : List A) → length (numbered_from k xs) ≡ length xs
so_many k [] = refl
so_many k (x ∷ xs) = ap suc (so_many (k + 1) xs)

few_checked : (missing : List ℕ) (k : ℕ) (ls : List Line) → length ls < 2 ^ 32 → length (map (checked_line missing) (numbered_from k ls)) < 2 ^ 32
few_checked missing k ls few =
    let same = length_map (checked_line missing) (numbered_from k ls) in let numbered = so_many k ls in omega (arith, few, same, numbered)

unpacked_rows : (b : ℕ) (ls : List Line) (rows : List (Row BookCopy)) → IsNumber b → AllByRecursion IsLine ls → length (of b rows) + length ls ≤ 1_001_000
    → AllByRecursion (IsRow IsCopy) rows → AllByRecursion (IsRow IsCopy) (put_all b (map unpacked ls) rows)
unpacked_rows b [] rows branch lines few all = all
unpacked_rows b (l ∷ ls) rows branch lines few all =
    let own : length (of b (put b (unpacked l) rows)) ≡ length (of b rows) + 1 =
    ap length (put_own b (unpacked l) rows) ∙ length-append (of b rows) (unpacked l (next b rows) ∷ []) in
    let row : IsNumber (next b rows) = number_fits (next b rows) (omega arith) (omega (arith, few)) in
    unpacked_rows b ls (put b (unpacked l) rows) branch lines.1 (omega (arith, own, few))
    (All-push (IsRow IsCopy) rows (record { branch = b; number = next b rows; it = unpacked l (next b rows) }) all (branch, row, lines.0))

-- ---- how many consignments there are

number_low : (n : ℕ) → IsNumber n → n < 4_294_967_296
number_low n is = grind (arith, nat_tests)

below : (s n : ℕ) → one (nat_lt s (suc n)) ≡ one (nat_lt s n) + one (s == n)
below s n = grind (arith, nat_tests)

below_none : (cs : List Consignment) → total (λ (it : Consignment). one (nat_lt it.source 0)) cs ≡ 0
below_none [] = refl
below_none (c ∷ cs) = let more = below_none cs in grind (arith, nat_tests)

below_more : (n : ℕ) (cs : List Consignment)
    → total (λ (it : Consignment). one (nat_lt it.source (suc n))) cs
    ≡ total (λ (it : Consignment). one (nat_lt it.source n)) cs + total (λ (it : Consignment). one (it.source == n)) cs
below_more n [] = refl
below_more n (c ∷ cs) = let first = below c.source n in let more = below_more n cs in omega (arith, first, more)

below_all : (cs : List Consignment) → AllByRecursion IsConsignment cs → total (λ (it : Consignment). one (nat_lt it.source 4_294_967_296)) cs ≡ length cs
below_all [] all = refl
below_all (c ∷ cs) all = let more = below_all cs all.1 in let low = number_low c.source all.0.source in grind (arith, nat_tests)

below_few : (cs : List Consignment) → ((b : ℕ) → total (λ (it : Consignment). one (it.source == b)) cs ≤ 1_000_000)
    → (n : ℕ) → total (λ (it : Consignment). one (nat_lt it.source n)) cs ≤ n * 1_000_000
below_few cs few zero = let none = below_none cs in omega (arith, none)
below_few cs few (suc n) =
    let first = below_few cs few n in
    let own = few n in
    let more = below_more n cs in
    omega (arith, first, own, more)

counted : {A : Type 0} (p : A → Bool) (xs : List A) → total (λ x. one (p x)) xs ≡ length (filter p xs)
counted p [] = refl
counted p (x ∷ xs) = let more = counted p xs in elim (cases_Bool (p x)) [ inl hit ↦ rw hit (omega (arith, more)) | inr miss ↦ rw miss (omega (arith, more)) ]

filter_few : {A : Type 0} (p : A → Bool) (xs : List A) → length (filter p xs) ≤ length xs
filter_few p xs = let parts = length-filter_both p (λ x. not (p x)) (λ x. refl) xs in omega (arith, parts)

both_few : {A : Type 0} (p q : A → Bool) (xs : List A) → length (filter (λ x. p x && q x) xs) ≤ length (filter p xs)
both_few p q xs =
    let same = ap length (filter-filter (λ x. p x && q x) p (λ x both. (and_parts (p x) (q x) both).0) xs) in
    let few = filter_few (λ x. p x && q x) (filter p xs) in
    omega (arith, same, few)

-- if each consignment of a branch is a parcel, the last consignment has at most 100 lines
last_few : (b : ℕ) (cs : List Consignment) (c : Consignment) → (c.source == b) ≡ true
    → list_all is_parcel (map as_parcel (filter (λ (it : Consignment). it.source == b) (cs ++ c ∷ []))) ≡ true → length c.lines ≤ 100
last_few b [] c own all =
    let sent : list_all is_parcel (map as_parcel (cond (c.source == b) (c ∷ []) [])) ≡ true = all in
    let parcel = and_parts _ true (subst (λ (hit : Bool). list_all is_parcel (map as_parcel (cond hit (c ∷ []) [])) ≡ true) own sent) in
    let films = and_parts (nat_lt 0 (length (as_parcel c).films)) (nat_le (length (as_parcel c).films) 100) parcel.0 in
    let same = length_map (λ (line : Line). line.film) c.lines in
    let few = leb-true (length (as_parcel c).films) 100 films.1 in
    omega (arith, few, same)
last_few b (d ∷ cs) c own all = by (d.source == b) (last_few b cs c own) all
  where
    rest : List Consignment
    rest = filter (λ (it : Consignment). it.source == b) (cs ++ c ∷ [])

    by : (hit : Bool) → (list_all is_parcel (map as_parcel rest) ≡ true → length c.lines ≤ 100)
        → list_all is_parcel (map as_parcel (cond hit (d ∷ rest) rest)) ≡ true
        → length c.lines ≤ 100
    by true more parcels = more (and_parts (is_parcel (as_parcel d)) (list_all is_parcel (map as_parcel rest)) parcels).1
    by false more parcels = more parcels

module _ (books : Books) (sound : IsSound widest_rules books) where
  sent_few : (b : ℕ) → length (filter (λ (it : Consignment). it.source == b) books.consignments) ≤ 1_000_000
  sent_few b =
      let fit = (sound.shops b).sent_fit in
      let keys = (sound.shops b).keys in
      let same = length_map as_parcel (filter (λ (it : Consignment). it.source == b) books.consignments) in
      omega (arith, fit, keys, same)

  all_few : AllByRecursion IsConsignment books.consignments → length books.consignments ≤ 4_294_967_296 * 1_000_000
  all_few all =
      let each : (b : ℕ) → total (λ (it : Consignment). one (it.source == b)) books.consignments ≤ 1_000_000 =
      λ b. let same = counted (λ (it : Consignment). it.source == b) books.consignments in let few = sent_few b in omega (arith, same, few) in
      subst (λ n. n ≤ 4_294_967_296 * 1_000_000) (below_all books.consignments all) (below_few books.consignments each 4_294_967_296)

-- ---- a dispatch and a receipt

module _ (rules : Rules) (b : ℕ) (command : Command) (books : Books) (branch : IsNumber b) (held : IsHeld books) (sound : IsSound widest_rules books) where
  dispatch_values : (to : ℕ) (xs : List ℕ) → IsNumber to → length (new_consignment b to xs books).lines ≤ 100
      → AreValues (book_acted rules b command (model.Dispatch to xs) books)
  dispatch_values to xs addressee lines =
      let v = held.values in
      let own = both_few (λ (it : Consignment). it.source == b) (λ (it : Consignment). it.addressee == to) books.consignments in
      let few = sent_few books sound b in
      let all = all_few books sound v.consignments in
      let sent : IsConsignment (new_consignment b to xs books) = record {
        source = branch;
        addressee = addressee;
        number = number_fits (length (between b to books.consignments) + 1) (omega arith) (omega (arith, own, few));
        place = (omega arith, omega (arith, all));
        few = omega (arith, lines);
        lines = sent_lines b xs books.copies (v.rows CopyRows);
      } in
      record {
        catalogue = v.catalogue;
        rows = by_table AreRowValues CopyRows _ books (sent_rows b xs books.copies (v.rows CopyRows)) v.rows;
        lots = v.lots;
        consignments = All-push IsConsignment books.consignments (new_consignment b to xs books) v.consignments sent;
        kept = v.kept;
        lasts = v.lasts;
      }

  module _ (source number : ℕ) (missing : List ℕ)
      (few : length (shop_of b (book_acted rules b command (model.Receive source number missing) books)).copies ≤ 1_000_000) where
    abbrev lines : List Line
    lines = come source b number missing books.consignments

    receipt_values : AreValues (book_acted rules b command (model.Receive source number missing) books)
    receipt_values =
        let v = held.values in
        let whole = ap length (put_all_own unmarked unpacked (λ (line : Line). here line.film) b lines books.copies (λ c n. refl)) in
        let parts = length-append (map unmarked (of b books.copies)) (map (λ (line : Line). here line.film) lines) in
        let were = length_map unmarked (of b books.copies) in
        let come = length_map (λ (line : Line). here line.film) lines in
        let fit : length (of b books.copies) + length lines ≤ 1_001_000 = omega (arith, few, whole, parts, were, come) in
        record {
          catalogue = v.catalogue;
          rows = by_table AreRowValues CopyRows _ books
              (unpacked_rows b lines books.copies branch
              (come_lines missing (is_consignment source b number) books.consignments v.consignments) fit (v.rows CopyRows))
              v.rows;
          lots = v.lots;
          consignments = updated IsConsignment (is_consignment source b number) (checked missing)
              (λ it such.
              record {
                source = such.source;
                addressee = such.addressee;
                number = such.number;
                place = such.place;
                few = few_checked missing 1 it.lines such.few;
                lines = checked_lines missing 1 it.lines such.lines;
              })
              books.consignments v.consignments;
          kept = v.kept;
          lasts = v.lasts;
        }

-- what an accepted command makes of sound books
module _ (rules : Rules) (b : ℕ) (command : Command) (books : Books) (branch : IsNumber b)
    (is : IsCommand command) (held : IsHeld books) (sound : IsSound widest_rules books)
    (after : IsSound widest_rules (book_done rules b command books)) (fits : FitsTables rules command.act) where
  few_come : (source number : ℕ) (missing : List ℕ) → command.act ≡ model.Receive source number missing
      → length (shop_of b (book_acted rules b command (model.Receive source number missing) books)).copies ≤ 1_000_000
  few_come source number missing same =
      subst (λ (a : Act). length (shop_of b (book_acted rules b command a books)).copies ≤ 1_000_000) same (after.shops b).copies

  rows : (act : Act) → command.act ≡ act → IfConsigns act (AreValues (book_acted rules b command act books))
  rows (model.Dispatch to xs) same =
      let act : IsAct (model.Dispatch to xs) = subst IsAct same is.act in
      let parcels = subst (λ (a : Act). list_all is_parcel (shop_of b (book_acted rules b command a books)).sent ≡ true) same (after.links b).parcels in
      dispatch_values rules b command books branch held sound to xs act.0 (last_few b books.consignments (new_consignment b to xs books) (same_test b) parcels)
  rows (model.Receive source number missing) same =
      receipt_values rules b command books branch held sound source number missing (few_come source number missing same)
  rows act same = tt

  pub accepted_values : AreValues (book_done rules b command books)
  accepted_values = values_done rules b command books branch is held fits (rows command.act refl)
