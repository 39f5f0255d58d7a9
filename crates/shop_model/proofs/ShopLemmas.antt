-- What an accepted command of one branch does to the shop of each.
use Rattle.shop_model.proofs.Common.{◌≡◌, inl, inr, ℕ, ◌+◌, ◌-◌, List, [], ◌∷◌, ◌++◌, filter, map, true, false, not, refl, sym, ap, ◌∙◌, arith, if◌then◌else◌}
use Rattle.shop_model.proofs.Common.{◌==◌, ◌&&◌, flat_map, cases_Bool, map-append, arrived, at, Row, Owned, owned_by, is_of, is_row, of, IsCounted}
use Rattle.shop_model.proofs.Common.{numbered_from, mem, Moment, Text, Copy, Arrival, Sent, Act, AddCustomer, Dispatch, Receive, Command, Rules, Kept, Shop}
use Rattle.shop_model.proofs.Common.{arrival, reply_text, films_at, incoming, Books, BookCopy, Line, Consignment, CopyRows, rows_of, Edit, Put, Set, PutLot}
use Rattle.shop_model.proofs.Common.{Append, Update, edited, edits_of, shop_of, unmarked, as_arrival, as_parcel, head, book_acted, book_done, is_consignment}
use Rattle.shop_model.proofs.Common.{unpacked, put_state, rows_at, under_way, checked, checked_line, come, set_last, new_consignment, HasNumbers}
use Rattle.std.specs.Prelude.{Some}
use Rattle.shop_model.proofs.RowLemmas.{same_if, differ_if, same_test, differ_test, more_yes, more_no, at_numbered, set_same, set_other, map_map, map_at}
use Rattle.shop_model.proofs.RowLemmas.{put_all_other, set_rows_other, row_at, filter_map, filter_filter, filter_away}
use Rattle.shop_model.proofs.EditLemmas.{tables_stay, AskedOfSend, sends_keep}

-- ---- lines

pub kept_numbers : {A B : Type 0} (g : A → B) (missing : List ℕ) (k : ℕ) (xs : List A)
    → map (λ it. it.1) (filter (λ it. not (mem it.0 missing)) (numbered_from k (map g xs)))
    ≡ map g (map (λ it. it.1) (filter (λ it. not (mem it.0 missing)) (numbered_from k xs)))
kept_numbers g missing k [] = refl
kept_numbers g missing k (x ∷ xs) = elim (cases_Bool (mem k missing)) [
  | inl gone ↦ rw gone (kept_numbers g missing (k + 1) xs)
  | inr stays ↦ rw stays (ap (λ r. g x ∷ r) (kept_numbers g missing (k + 1) xs))
]

pub arrived_map : {A B : Type 0} (g : A → B) (missing : List ℕ) (xs : List A) → arrived missing (map g xs) ≡ map g (arrived missing xs)
arrived_map g missing xs = kept_numbers g missing 1 xs

pub checked_films : (missing : List ℕ) (k : ℕ) (lines : List Line)
    → map (λ line. line.film) (map (checked_line missing) (numbered_from k lines)) ≡ map (λ line. line.film) lines
checked_films missing k [] = refl
checked_films missing k (line ∷ lines) = ap (λ r. line.film ∷ r) (checked_films missing (k + 1) lines)

pub checked_arrival : (missing : List ℕ) (it : Consignment) → ◌≡◌ {A = Arrival} (as_arrival (checked missing it)) (record (as_arrival it) { received = true })
checked_arrival missing it = λ i. record { source = it.source; films = checked_films missing 1 it.lines i; received = true }

pub checked_parcel : (missing : List ℕ) (it : Consignment) → as_parcel (checked missing it) ≡ as_parcel it
checked_parcel missing it = λ i. record { addressee = it.addressee; films = checked_films missing 1 it.lines i }

-- ---- what is sent

pub films_sent : (b : ℕ) (xs : List ℕ) (rows : List (Row BookCopy)) → IsCounted 1 (map (λ row. row.number) (filter (is_of b) rows))
    → map (λ line. line.film) (map (λ row. under_way row.it) (rows_at b xs rows)) ≡ films_at xs (map unmarked (of b rows))
films_sent b [] rows counted = refl
films_sent b (x ∷ xs) rows counted =
    let film = λ (copy : Copy). copy.film in
    let one : map (λ line. line.film) (map (λ row. under_way row.it) (filter (is_row b x) rows)) ≡ map film (at x (map unmarked (of b rows))) =
    map_map (λ line. line.film) (λ (row : Row BookCopy). under_way row.it) (filter (is_row b x) rows)
    ∙ (row_at (λ (copy : BookCopy). copy.film) b x rows counted
    ∙ sym (map_at film x (map unmarked (of b rows)) ∙ rw (map_map film unmarked (of b rows)))) in
    rw (map-append (λ (row : Row BookCopy). under_way row.it) (filter (is_row b x) rows) (rows_at b xs rows))
    (rw (map-append (λ (line : Line). line.film) (map (λ row. under_way row.it) (filter (is_row b x) rows)) (map (λ row. under_way row.it) (rows_at b xs rows)))
    (rw (one, films_sent b xs rows counted)))

-- ---- what comes in

pub arrival_of : (s b n : ℕ) (cs : List Consignment)
    → IsCounted 1 (map (λ it. it.number) (filter (λ (it : Consignment). it.source == s && it.addressee == b) cs))
    → at n (filter (λ arrival. arrival.source == s) (map as_arrival (filter (λ it. it.addressee == b) cs))) ≡ map as_arrival (filter (is_consignment s b n) cs)
arrival_of s b n cs counted =
    let found =
    at_numbered (λ (it : Consignment). it.source == s && it.addressee == b)
    (is_consignment s b n) (λ it. it.number) as_arrival n 1 cs (λ x. refl) counted in
    let back : n + 1 - 1 ≡ n = omega arith in
    rw (
      filter_map (λ (it : Arrival). it.source == s) as_arrival (filter (λ it. it.addressee == b) cs),
      filter_filter (λ (it : Consignment). it.source == s) (λ it. it.addressee == b) cs,
    )
    (sym (found ∙ rw back))

incoming_films : (missing : List ℕ) (cs : List Consignment)
    → incoming missing (map as_arrival cs) ≡ map (λ line. line.film) (flat_map (λ (it : Consignment). arrived missing it.lines) cs)
incoming_films missing [] = refl
incoming_films missing (c ∷ cs) =
    rw (
      map-append (λ (line : Line). line.film) (arrived missing c.lines) (flat_map (λ (it : Consignment). arrived missing it.lines) cs),
      arrived_map (λ (line : Line). line.film) missing c.lines,
      incoming_films missing cs,
    )

-- the films of lines that come are those that the branch sees come
pub incoming_come : (b source number : ℕ) (missing : List ℕ) (books : Books)
    → IsCounted 1 (map (λ it. it.number) (filter (λ (it : Consignment). it.source == source && it.addressee == b) books.consignments))
    → map (λ line. line.film) (come source b number missing books.consignments) ≡ incoming missing (arrival source number (shop_of b books))
incoming_come b source number missing books counted =
    sym (rw (arrival_of source b number books.consignments counted) (incoming_films missing (filter (is_consignment source b number) books.consignments)))

-- ---- moments

pub last_own : (b : ℕ) (moment : Moment) (lasts : List (Owned Moment)) → head (owned_by b (set_last b moment lasts)) ≡ Some moment
last_own b moment lasts = rw (same_test b)

not_same : (b c m : ℕ) → (c == b) ≡ false → (m == b) ≡ true → not (m == c) ≡ true
not_same b c m differ is = rw (differ_test m c (λ e. differ_if c b differ (sym e ∙ same_if m b is)))

pub last_other : (b c : ℕ) (moment : Moment) (lasts : List (Owned Moment)) → (c == b) ≡ false → owned_by b (set_last c moment lasts) ≡ owned_by b lasts
last_other b c moment lasts differ =
    rw (differ, filter_away (λ (row : Owned Moment). row.owner == b) (λ row. not (row.owner == c)) lasts (λ x is. not_same b c x.owner differ is))

-- ---- shops

-- ---- another branch's shop

abbrev pub with_arrivals : ℕ → ℕ → Act → Books → Shop
with_arrivals b c (Dispatch to xs) books =
    if to == b
    then record (shop_of b books) {
      arrivals = (shop_of b books).arrivals ++ record { source = c; films = films_at xs (shop_of c books).copies; received = false } ∷ [];
    }
    else shop_of b books
with_arrivals b c act books = shop_of b books

-- it has the arrivals of a dispatch more, or is as it was
pub arrived_or_same : (P : Shop → Type 0) (b c : ℕ) (act : Act) (books : Books)
    → ((xs : List ℕ)
    → P (record (shop_of b books) {
      arrivals = (shop_of b books).arrivals ++ record { source = c; films = films_at xs (shop_of c books).copies; received = false } ∷ [];
    }))
    → P (shop_of b books) → P (with_arrivals b c act books)
arrived_or_same P b c (Dispatch to xs) books more same = elim (cases_Bool (to == b)) [ inl is ↦ rw is (more xs) | inr isnt ↦ rw isnt same ]
arrived_or_same P b c act books more same = same

abbrev NoSend : Books → Consignment → Type 0
NoSend books it = ⊥

abbrev NoChange : (Consignment → Consignment) → Type 0
NoChange f = ⊥

-- the edits of one branch leave the shops of all others as they were, except edits of consignments
shop_stays : (b c : ℕ) → (c == b) ≡ false → (books : Books) (edit : Edit)
    → AskedOfSend NoSend NoChange books edit → shop_of b (edited c edit books) ≡ shop_of b books
shop_stays b c differ books (Put t makes) asked = tables_stay b t _ books (put_all_other b c makes (rows_of books t) differ)
shop_stays b c differ books (Set t ns f) asked = tables_stay b t _ books (set_rows_other b c ns f (rows_of books t) differ)
shop_stays b c differ books (PutLot lot) asked =
    λ i. record (shop_of b books) { lots = more_no (λ (row : Owned Text). row.it) (λ row. row.owner == b) books.lots (record { owner = c; it = lot }) differ i }
shop_stays b c differ books (Append it) asked = absurd asked
shop_stays b c differ books (Update test f) asked = absurd asked

pub acted_other : (rules : Rules) (b c : ℕ) (command : Command) (act : Act) (books : Books) → HasNumbers books → (c == b) ≡ false
    → shop_of b (book_acted rules c command act books) ≡ with_arrivals b c act books
acted_other rules b c command (Dispatch to xs) books has differ =
    let copies = ap (map unmarked) (set_rows_other b c xs (put_state Sent) books.copies differ) in
    let sent = more_no as_parcel (λ (it : Consignment). it.source == b) books.consignments (new_consignment c to xs books) differ in
    elim (cases_Bool (to == b)) [
      | inl is ↦
          let arrivals = more_yes as_arrival (λ (it : Consignment). it.addressee == b) books.consignments (new_consignment c to xs books) is
          ∙ ap (λ fs. map as_arrival (filter (λ it. it.addressee == b) books.consignments) ++ record { source = c; films = fs; received = false } ∷ [])
          (films_sent c xs books.copies (has.rows CopyRows c)) in
          rw is (λ i. record (shop_of b books) { copies = copies i; arrivals = arrivals i; sent = sent i })
      | inr isnt ↦
          let arrivals = more_no as_arrival (λ (it : Consignment). it.addressee == b) books.consignments (new_consignment c to xs books) isnt in
          rw isnt (λ i. record (shop_of b books) { copies = copies i; arrivals = arrivals i; sent = sent i })
    ]
acted_other rules b c command (Receive source number missing) books has differ =
    let copies = ap (map unmarked) (put_all_other b c (map unpacked (come source c number missing books.consignments)) books.copies differ) in
    let arrivals =
    set_other (λ (it : Consignment). it.addressee == b) (is_consignment source c number)
    (checked missing) as_arrival books.consignments (λ x. refl) (λ x is. no_arrival x is) in
    let sent =
    set_same (λ (it : Consignment). it.source == b) (is_consignment source c number)
    (checked missing) as_parcel books.consignments (λ x. refl) (checked_parcel missing) in
    λ i. record (shop_of b books) { copies = copies i; arrivals = arrivals i; sent = sent i } where
      no_arrival : (x : Consignment) → (x.addressee == b) ≡ true → is_consignment source c number x ≡ false
      no_arrival x is = elim (cases_Bool (x.source == source)) [
        | inl from ↦ rw (from, differ_test x.addressee c (λ e. differ_if c b differ (sym e ∙ same_if x.addressee b is)))
        | inr other ↦ rw other
      ]
acted_other rules b c command act books has differ =
    sends_keep (λ now. shop_of b now ≡ shop_of b books) NoSend NoChange c
    (λ now edit asked same. shop_stays b c differ now edit asked ∙ same) (edits_of rules c command act books) books tt refl

pub done_other : (rules : Rules) (b c : ℕ) (command : Command) (books : Books) → HasNumbers books → (c == b) ≡ false
    → shop_of b (book_done rules c command books) ≡ with_arrivals b c command.act books
done_other rules b c command books has differ =
    let e = acted_other rules b c command command.act books has differ in
    let kept =
    more_no (λ (row : Owned Kept). row.it) (λ row. row.owner == b) books.kept
    (record { owner = c; it = record { command = command; reply = reply_text rules command (shop_of c books) } }) differ in
    let last = ap head (last_other b c command.moment books.lasts differ) in
    let acted = shop_of b (book_acted rules c command command.act books) in
    let same : shop_of b (book_done rules c command books) ≡ acted =
    λ i. record acted { kept = (kept ∙ sym (still command.act).0) i; last = (last ∙ sym (still command.act).1) i } in
    same ∙ e where
      still : (act : Act)
          → ((shop_of b (book_acted rules c command act books)).kept ≡ (shop_of b books).kept)
          × ((shop_of b (book_acted rules c command act books)).last ≡ (shop_of b books).last)
      still (AddCustomer person) = (refl, refl)
      still act = (refl, refl)
