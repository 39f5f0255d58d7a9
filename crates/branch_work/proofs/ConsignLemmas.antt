-- Lemmas about what a dispatch and a receipt write, step by step, and with which counts the tables then hold the books.
use Rattle.shop_schema.proofs.Common.{[], inl, inr, suc, cases_Bool, ◌≡◌, ◌∙◌, refl, sym, ap, subst, ℕ, ◌+◌, ◌<◌, ◌≤◌, Bool, not, List, ◌∷◌, ◌++◌, length, take}
use Rattle.shop_schema.proofs.Common.{map, filter, get_or, Option, Some, None, option_map, arith, append-nil, IfSome, map-append, take_more, take_all}
use Rattle.shop_schema.proofs.Common.{length-take-le, State, PicksOne, Row, AreNumbered, arrived, is_of, is_row, mem, next, numbered_from, put_all, set_row}
use Rattle.shop_schema.proofs.Common.{set_rows, Books, BookCopy, Mark, Consignment, between, checked, come, is_consignment, put_state, unpacked, length_map}
use Rattle.shop_schema.proofs.Common.{set_rows_counted, ParcelLine, seen_parcel_line, Pair, add_pair, count_pair, counts_of, raise, AreTermed, Holds, HoldsWith}
use Rattle.shop_schema.proofs.Common.{Writes}
use Rattle.std.specs.Prelude.{fold, flat_map, option_to_list}
use Rattle.std.proofs.lemmas.List.Filters.{length-filter_both}
use Rattle.shop_model.specs.Rows.{update_where}
use Rattle.shop_model.specs.Values as model
use Rattle.shop_schema.proofs.Lists.{picks_row}
use Rattle.shop_ledger.proofs.CountsOf.{agreed}
use Rattle.shop_ledger.proofs.Agreeing.{state_counted}
use Rattle.shop_store.specs.declared.copies.CopyRow.{CopyRow}
use Rattle.shop_store.specs.Seen.{seen_copy_row}
use Rattle.consign_store.specs.Parcels.{sent_off}
use Rattle.consign_store.proofs.PairCounts.{pair_counted}
use Rattle.branch_core.specs.declared.found.ArrivalFound.{ArrivalFound}
use Rattle.branch_core.specs.Marked.{line_parts, arrival_parts, consignment_parts, IsArrival}
use Rattle.branch_core.specs.Consigned.{come_copy, made_from, sent_line, with_dispatch, with_receipt}
use Rattle.branch_work.proofs.Writings.{with_copies, copies_then}
use Rattle.branch_work.proofs.CopyLemmas.{made_more, made_counted, made_stand}
use Rattle.shop_schema.specs.Counts.{copies_kind}

-- ---- copies that are set one after another

sets_more : {A : Type 0} (b : ℕ) (xs : List ℕ) (x : ℕ) (f : A → A) (rows : List (Row A))
    → set_rows b (xs ++ x ∷ []) f rows ≡ set_row b x f (set_rows b xs f rows)
sets_more b [] x f rows = refl
sets_more b (y ∷ xs) x f rows = sets_more b xs x f (set_row b y f rows)

abbrev pub AreCounted : ℕ → Books → Type 0
AreCounted b books = AreNumbered (is_of b) (λ (row : Row BookCopy). row.number) books.copies

-- the books with these copies set
abbrev pub with_set : ℕ → (BookCopy → BookCopy) → List ℕ → Books → Books
with_set b f xs books = record books { copies = set_rows b xs f books.copies }

module _ (b : ℕ) (f : BookCopy → BookCopy) where
  pub none_set : (s : State) → Writes s s (AreCounted b) (with_set b f [])
  none_set s = λ counts books holds given. holds

  pub one_set : (s0 s1 s2 : State) (xs : List ℕ) (i x : ℕ) → i < length xs → x ≡ get_or xs i x → Writes s0 s1 (AreCounted b) (with_set b f (take i xs))
      → Writes s1 s2 (λ books. PicksOne (is_row b x) books.copies) (λ books. record books { copies = set_row b x f books.copies })
      → Writes s0 s2 (AreCounted b) (with_set b f (take (i + 1) xs))
  one_set s0 s1 s2 xs i x lt is so_far one = λ counts books holds given.
      let done : List (Row BookCopy) = set_rows b (take i xs) f books.copies in
      let taken : take (i + 1) xs ≡ take i xs ++ x ∷ [] = take_more xs i x lt ∙ ap (λ (y : ℕ). take i xs ++ y ∷ []) (sym is) in
      let still : AreNumbered (is_of b) (λ (row : Row BookCopy). row.number) done = set_rows_counted b b (take i xs) f books.copies given in
      let put = one counts (with_set b f (take i xs) books) (so_far counts books holds given) (picks_row b done still x) in
      let same : set_row b x f done ≡ set_rows b (take (i + 1) xs) f books.copies =
      sym (ap (λ (ns : List ℕ). set_rows b ns f books.copies) taken ∙ sets_more b (take i xs) x f books.copies) in
      subst (λ (rs : List (Row BookCopy)). HoldsWith counts s2 (record books { copies = rs })) same put

  pub all_set : (s0 s1 : State) (xs : List ℕ) (i : ℕ) → length xs ≤ i
      → Writes s0 s1 (AreCounted b) (with_set b f (take i xs)) → Writes s0 s1 (AreCounted b) (with_set b f xs)
  all_set s0 s1 xs i le done =
      λ counts books holds given. subst (λ (ns : List ℕ). HoldsWith counts s1 (with_set b f ns books)) (take_all i xs le) (done counts books holds given)

-- ---- a dispatch

pub sets_counted : (b : ℕ) (xs : List ℕ) (f : BookCopy → BookCopy) (books : Books)
    → counts_of (record books { copies = set_rows b xs f books.copies }) ≡ counts_of books
sets_counted b [] f books = refl
sets_counted b (x ∷ xs) f books = sets_counted b xs f (record books { copies = set_row b x f books.copies }) ∙ state_counted b x f books

-- the books with the copies sent, and a consignment of that number and place
abbrev sending : ℕ → ℕ → List ℕ → List ParcelLine → ℕ → ℕ → Books → Books
sending b to xs lines n place books = record books {
  copies = set_rows b xs (put_state model.Sent) books.copies;
  consignments = books.consignments ++ sent_off b to n place (map sent_line lines) ∷ [];
}

pub dispatch_counted : (b to : ℕ) (xs : List ℕ) (lines : List ParcelLine) (n place : ℕ) (books : Books)
    → counts_of (sending b to xs lines n place books) ≡ add_pair b to (counts_of books)
dispatch_counted b to xs lines n place books =
    let it : Consignment = sent_off b to n place (map sent_line lines) in
    sets_counted b xs (put_state model.Sent) (record books { consignments = books.consignments ++ it ∷ [] }) ∙ pair_counted books it

pub dispatch_added : (s : State) (b to : ℕ) (xs : List ℕ) (lines : List ParcelLine) (n place : ℕ) (books : Books)
    → n ≡ length (between b to books.consignments) + 1 → place ≡ length books.consignments + 1 → AreTermed books
    → HoldsWith (add_pair b to (counts_of books)) s (sending b to xs lines n place books) → Holds s (with_dispatch b to xs lines books)
dispatch_added s b to xs lines n place books next last termed holds =
    subst (λ (k : ℕ). Holds s (sending b to xs lines k (length books.consignments + 1) books)) next
    (subst (λ (k : ℕ). Holds s (sending b to xs lines n k books)) last
    (agreed s (sending b to xs lines n place books) (add_pair b to (counts_of books)) (dispatch_counted b to xs lines n place books) termed holds))

-- ---- copies that come one after another

-- the rows of lines that came
abbrev pub come_rows : ℕ → ℕ → List ParcelLine → List (Row BookCopy)
come_rows b first lines = made_from b first (map come_copy lines)

pub one_come : (b first i : ℕ) (lines : List ParcelLine) (line : ParcelLine) (row : CopyRow) (books : Books) → i < length lines → line ≡ get_or lines i line
    → seen_copy_row row ≡ record { branch = b; number = first + i; it = come_copy line (first + i) }
    → with_copies (seen_copy_row row ∷ []) (with_copies (come_rows b first (take i lines)) books) ≡ with_copies (come_rows b first (take (i + 1) lines)) books
one_come b first i lines line row books lt is row_is =
    let done : List ParcelLine = take i lines in
    let front : List (Row BookCopy) = come_rows b first done in
    let short : i ≤ length lines = omega (arith, lt) in
    let many : length (map come_copy done) ≡ i = length_map come_copy done ∙ length-take-le i lines short in
    let taken : take (i + 1) lines ≡ done ++ line ∷ [] = take_more lines i line lt ∙ ap (λ (it : ParcelLine). done ++ it ∷ []) (sym is) in
    let whole : come_rows b first (take (i + 1) lines) ≡ front ++ record { branch = b; number = first + i; it = come_copy line (first + i) } ∷ [] =
    ap (come_rows b first) taken ∙ ap (made_from b first) (map-append come_copy done (line ∷ [])) ∙ made_more b first (map come_copy done) (come_copy line ∷ [])
    ∙ ap (λ (k : ℕ). front ++ record { branch = b; number = first + k; it = come_copy line (first + k) } ∷ []) many in
    copies_then front (seen_copy_row row ∷ []) books
    ∙ ap (λ (rs : List (Row BookCopy)). with_copies rs books) (ap (λ (it : Row BookCopy). front ++ it ∷ []) row_is ∙ sym whole)

pub all_come : (b first i : ℕ) (lines : List ParcelLine) (books : Books) → length lines ≤ i
    → with_copies (come_rows b first (take i lines)) books ≡ with_copies (come_rows b first lines) books
all_come b first i lines books le = ap (λ (ls : List ParcelLine). with_copies (come_rows b first ls) books) (take_all i lines le)

pub none_come : (b first : ℕ) (lines : List ParcelLine) (books : Books) → with_copies (come_rows b first (take 0 lines)) books ≡ books
none_come b first lines books = λ i. record books { copies = append-nil books.copies i }

-- ---- how many lines come

pub length_numbered : {A : Type 0} (k : ℕ) (xs : List A) → length (numbered_from k xs) ≡ length xs
length_numbered k [] = refl
length_numbered k (x ∷ xs) = ap suc (length_numbered (k + 1) xs)

pub few_arrive : {A : Type 0} (missing : List ℕ) (xs : List A) → length (arrived missing xs) ≤ length xs
few_arrive {A} missing xs =
    let came : ℕ × A → Bool = λ it. not (mem it.0 missing) in
    let same = length_map (λ (it : ℕ × A). it.1) (filter came (numbered_from 1 xs)) in
    let parts = length-filter_both came (λ it. not (came it)) (λ it. refl) (numbered_from 1 xs) in
    let all = length_numbered 1 xs in
    omega (arith, same, parts, all)

-- the one consignment has as many lines as were found
same_many : (c : Consignment) (it : ArrivalFound) → arrival_parts it ≡ consignment_parts c → length c.lines ≡ length it.lines
same_many c it is =
    sym (length_map line_parts c.lines) ∙ sym (ap (λ (p : Bool × List (ℕ × Mark)). length p.1) is) ∙ length_map seen_parcel_line it.lines

many_lines : (cs : List Consignment) (it : ArrivalFound) → arrival_parts it ∷ [] ≡ map consignment_parts cs
    → map (λ (c : Consignment). length c.lines) cs ≡ length it.lines ∷ []
many_lines [] it is = absurd (let none = is in cc)
many_lines (c ∷ []) it is = let same : arrival_parts it ≡ consignment_parts c = cc in ap (λ (n : ℕ). n ∷ []) (same_many c it same)
many_lines (c ∷ d ∷ cs) it is = absurd (let two = is in cc)

pub so_many : (b source n : ℕ) (it : ArrivalFound) (books : Books) → IsArrival b source n (Some it) books
    → map (λ (c : Consignment). length c.lines) (filter (is_consignment source b n) books.consignments) ≡ length it.lines ∷ []
so_many b source n it books is = many_lines (filter (is_consignment source b n) books.consignments) it is

come_of : (missing : List ℕ) (cs : List Consignment) (found : Option ArrivalFound)
    → option_to_list (option_map arrival_parts found) ≡ map consignment_parts cs → IfSome found (λ (it : ArrivalFound). length it.lines ≤ 100)
    → length (map unpacked (flat_map (λ (c : Consignment). arrived missing c.lines) cs)) ≤ 100
come_of missing [] None is few = omega arith
come_of missing (c ∷ cs) None is few = absurd (let some = is in cc)
come_of missing [] (Some it) is few = absurd (let none = is in cc)
come_of missing (c ∷ []) (Some it) is few =
    let same : arrival_parts it ≡ consignment_parts c = cc in
    let lines = same_many c it same in
    let all = length_map unpacked (arrived missing c.lines ++ []) ∙ ap length (append-nil (arrived missing c.lines)) in
    let less = few_arrive missing c.lines in
    omega (arith, lines, all, less, few)
come_of missing (c ∷ d ∷ cs) (Some it) is few = absurd (let two = is in cc)

pub few_come : (b source n : ℕ) (missing : List ℕ) (found : Option ArrivalFound) (books : Books)
    → IsArrival b source n found books → IfSome found (λ (it : ArrivalFound). length it.lines ≤ 100)
    → length (map unpacked (come source b n missing books.consignments)) ≤ 100
few_come b source n missing found books is few = come_of missing (filter (is_consignment source b n) books.consignments) found is few

-- ---- a receipt

-- consignments that are checked keep their pairs
pairs_stay : (p : Consignment → Bool) (missing : List ℕ) (pairs : List Pair) (cs : List Consignment)
    → fold (λ pairs it. count_pair it.source it.addressee pairs) pairs (update_where p (checked missing) cs)
    ≡ fold (λ pairs it. count_pair it.source it.addressee pairs) pairs cs
pairs_stay p missing pairs [] = refl
pairs_stay p missing pairs (c ∷ cs) =
    let more = pairs_stay p missing (count_pair c.source c.addressee pairs) cs in
    elim (cases_Bool (p c)) [ inl hit ↦ rw hit more | inr miss ↦ rw miss more ]

-- the books with these copies, and the consignments checked
abbrev receiving : ℕ → List (ℕ → BookCopy) → (Consignment → Bool) → List ℕ → Books → Books
receiving b makes p missing books = record books {
  copies = put_all b makes books.copies;
  consignments = update_where p (checked missing) books.consignments;
}

module _ (b : ℕ) (books : Books) (low : 1 ≤ b) where
  pub receiving_counted : (makes : List (ℕ → BookCopy)) (p : Consignment → Bool) (missing : List ℕ)
      → counts_of (receiving b makes p missing books) ≡ raise b copies_kind (length makes) (counts_of books)
  receiving_counted makes p missing =
      let same = pairs_stay p missing [] books.consignments in
      (λ i. record { counters = (counts_of (record books { copies = put_all b makes books.copies })).counters; outs = (counts_of books).outs; pairs = same i })
      ∙ made_counted b books low makes books.lots

  pub receipt_added : (s : State) (source n first m : ℕ) (lines : List ParcelLine) (missing : List ℕ)
      → first ≡ next b books.copies → m ≡ length (arrived missing lines) → AreTermed books
      → HoldsWith (raise b copies_kind m (counts_of books)) s
      (record books {
        copies = books.copies ++ come_rows b first (arrived missing lines);
        consignments = update_where (is_consignment source b n) (checked missing) books.consignments;
      })
      → Holds s (with_receipt b source n lines missing books)
  receipt_added s source n first m lines missing is all termed holds =
      let makes : List (ℕ → BookCopy) = map come_copy (arrived missing lines) in
      let received : List Consignment = update_where (is_consignment source b n) (checked missing) books.consignments in
      let count : m ≡ length makes = all ∙ sym (length_map come_copy (arrived missing lines)) in
      agreed s (receiving b makes (is_consignment source b n) missing books)
      (raise b copies_kind (length makes) (counts_of books)) (receiving_counted makes (is_consignment source b n) missing) termed
      (made_stand b books low s first m makes (λ rs. record books { copies = rs; consignments = received }) is count holds)
