-- Lines that are put one after another at the end of their consignment.
use Rattle.shop_schema.proofs.Common.{length-map, append_assoc, ◌≡◌, ◌+◌, ◌-◌, ◌<◌, ◌≤◌, ◌&&◌, ◌==◌, ℕ, List, [], ◌∷◌, ◌++◌, map, filter, length, Bool, true}
use Rattle.shop_schema.proofs.Common.{false, cond, refl, sym, ap, subst, ◌∙◌, arith, append-nil, nat_le, AllByRecursion, nat_tests, filter-append, State}
use Rattle.shop_schema.proofs.Common.{set_at, numbered_from, Books, Line, Consignment, is_consignment, checked, checked_line, same_test, Writes, HoldsWith}
use Rattle.std.proofs.lemmas.List.{length-append}
use Rattle.shop_model.specs.Rows.{update_where}
use Rattle.consign_store.specs.Parts.{Placed, push_line, with_line, IsNextLine, IsOnce, put_state, set_state, receive, with_state, with_received}
use Rattle.consign_store.specs.Parcels.{IsNewKey, HasSoMany, HasNoLine, put_behind, with_lines, sent_off, state_at, checked_from, checked_to, with_checked_to}
use Rattle.consign_store.proofs.ListLemmas.{unpicked, update_append, update_nothing, update_twice, filter_updated}

module _ (s a n : ℕ) where
  abbrev its : Consignment → Bool
  its = is_consignment s a n

  counts_put : (lines : List Line) (found : List Consignment) → map (λ (it : Consignment). length it.lines) found ≡ 0 ∷ []
      → map (λ (it : Consignment). length it.lines + 1) (map (put_behind lines) found) ≡ (length lines + 1) ∷ []
  counts_put lines [] none = absurd cc
  counts_put lines (it ∷ []) none =
      let first : length it.lines ≡ 0 = cc in
      let all = length-append it.lines lines in
      let is : length (it.lines ++ lines) + 1 ≡ length lines + 1 = omega (arith, first, all) in
      ap (λ (k : ℕ). k ∷ []) is
  counts_put lines (it ∷ other ∷ more) none = absurd (two none)
    where
      two : {x y : ℕ} {l : List ℕ} → ◌≡◌ {A = List ℕ} (x ∷ y ∷ l) (0 ∷ []) → ⊥
      two e = cc

  -- the next line's number, after the lines that were put
  pub next_line : (books : Books) (lines : List Line) (row : Placed) → row.source ≡ s → row.addressee ≡ a → row.number ≡ n
      → row.line ≡ length lines + 1 → HasNoLine s a n books → IsNextLine row (with_lines s a n lines books)
  next_line books lines row source addressee number line none =
      let here : map (λ (it : Consignment). length it.lines + 1) (filter its (with_lines s a n lines books).consignments) ≡ row.line ∷ [] =
      ap (map (λ (it : Consignment). length it.lines + 1)) (filter_updated its (put_behind lines) (λ it. refl) books.consignments)
      ∙ counts_put lines (filter its books.consignments) none ∙ ap (λ (k : ℕ). k ∷ []) (sym line) in
      subst (λ (k : ℕ).
      map (λ (it : Consignment). length it.lines + 1) (filter (is_consignment row.source row.addressee k) (with_lines s a n lines books).consignments)
      ≡ row.line ∷ [])
      (sym number)
      (subst (λ (k : ℕ).
      map (λ (it : Consignment). length it.lines + 1) (filter (is_consignment row.source k n) (with_lines s a n lines books).consignments)
      ≡ row.line ∷ [])
      (sym addressee)
      (subst (λ (k : ℕ).
      map (λ (it : Consignment). length it.lines + 1) (filter (is_consignment k a n) (with_lines s a n lines books).consignments) ≡ row.line ∷ [])
      (sym source) here))

  -- one more line is put at the end of the lines
  pub line_more : (books : Books) (lines : List Line) (row : Placed) → row.source ≡ s → row.addressee ≡ a
      → row.number ≡ n → with_line row (with_lines s a n lines books) ≡ with_lines s a n (lines ++ row.it ∷ []) books
  line_more books lines row source addressee number =
      (λ i.
      record books {
        consignments =
            update_where (is_consignment (source i) (addressee i) (number i)) (push_line row.it) (update_where its (put_behind lines) books.consignments);
      })
      ∙ ap (λ (cs : List Consignment). record books { consignments = cs })
      (update_twice its (put_behind lines) (λ it. refl) (push_line row.it) (put_behind (lines ++ row.it ∷ []))
      (λ it. ap (λ ls. record it { lines = ls }) (append_assoc it.lines lines (row.it ∷ []))) books.consignments)

  pub no_line_put : (books : Books) → with_lines s a n [] books ≡ books
  no_line_put books =
      ap (λ (cs : List Consignment). record books { consignments = cs })
      (update_nothing its (put_behind []) (λ it. ap (λ ls. record it { lines = ls }) (append-nil it.lines)) books.consignments)

  -- ---- a new consignment

  own_key : (s == s && a == a && n == n) ≡ true
  own_key = rw (same_test s, same_test a, same_test n) refl

  module _ (place : ℕ) where
    abbrev bare : Consignment
    bare = sent_off s a n place []

    pub new_has_none : (books : Books) → IsNewKey s a n books → HasNoLine s a n (record books { consignments = books.consignments ++ bare ∷ [] })
    new_has_none books new =
        let its_own : filter its (bare ∷ []) ≡ bare ∷ [] = rw own_key refl in
        ap (map (λ (it : Consignment). length it.lines)) (filter-append its books.consignments (bare ∷ []) ∙ (λ i. new i ++ its_own i))

    pub new_with_lines : (books : Books) (lines : List Line) → IsNewKey s a n books
        → with_lines s a n lines (record books { consignments = books.consignments ++ bare ∷ [] })
        ≡ record books { consignments = books.consignments ++ sent_off s a n place lines ∷ [] }
    new_with_lines books lines new =
        let last : update_where its (put_behind lines) (bare ∷ []) ≡ sent_off s a n place lines ∷ [] = rw own_key refl in
        ap (λ (cs : List Consignment). record books { consignments = cs })
        (update_append its (put_behind lines) books.consignments (bare ∷ []) ∙ (λ i. unpicked its (put_behind lines) books.consignments new i ++ last i))

-- ---- a receipt

module _ (missing : List ℕ) where
  none_checked : (last at : ℕ) → last < at → (ls : List Line) → checked_from missing last at ls ≡ ls
  none_checked last at above [] = refl
  none_checked last at above (l ∷ ls) =
      let later : nat_le at last ≡ false = grind (arith, nat_tests) in rw later (ap (λ rest. l ∷ rest) (none_checked last (at + 1) (omega (arith, above)) ls))

  -- setting one more line at its place gives the lines that are set up to `last + 1`
  one_checked : (last at m : ℕ) → 1 ≤ m → last + 2 ≡ at + m → (ls : List Line)
      → set_at m (put_state (state_at missing (last + 1))) (checked_from missing last at ls) ≡ checked_from missing (last + 1) at ls
  one_checked last at m low is [] = refl
  one_checked last at m low is (l ∷ ls) = go (m == 1) refl (λ lower next. one_checked last (at + 1) (m - 1) lower next ls)
    where
      go : (b : Bool) → (m == 1) ≡ b
          → (1 ≤ m - 1 → last + 2 ≡ at + 1 + (m - 1)
          → set_at (m - 1) (put_state (state_at missing (last + 1))) (checked_from missing last (at + 1) ls)
          ≡ checked_from missing (last + 1) (at + 1) ls)
          → set_at m (put_state (state_at missing (last + 1))) (checked_from missing last at (l ∷ ls)) ≡ checked_from missing (last + 1) at (l ∷ ls)
      go true first more =
          let one : m ≡ 1 = grind (arith, nat_tests) in
          let here : at ≡ last + 1 = omega (arith, one, is) in
          let not_yet : nat_le at last ≡ false = grind (arith, nat_tests, here) in
          let now : nat_le at (last + 1) ≡ true = grind (arith, nat_tests, here) in
          let rest : checked_from missing last (at + 1) ls ≡ checked_from missing (last + 1) (at + 1) ls =
          none_checked last (at + 1) (omega (arith, here)) ls ∙ sym (none_checked (last + 1) (at + 1) (omega (arith, here)) ls) in
          rw (first, not_yet, now) (λ i. record l { state = state_at missing (sym here i) } ∷ rest i)
      go false further more =
          let two : 2 ≤ m = grind (arith, nat_tests, low) in
          let before : nat_le at last ≡ true = grind (arith, nat_tests, is, two) in
          let also : nat_le at (last + 1) ≡ true = grind (arith, nat_tests, is, two) in
          rw (further, before, also) (ap (λ rest. record l { state = state_at missing at } ∷ rest) (more (omega (arith, two)) (omega (arith, is, two))))

  all_checked : (last at : ℕ) (ls : List Line) → at + length ls ≤ last + 1 → checked_from missing last at ls ≡ map (checked_line missing) (numbered_from at ls)
  all_checked last at [] few = refl
  all_checked last at (l ∷ ls) few =
      let here : nat_le at last ≡ true = grind (arith, nat_tests, few) in
      rw here (ap (λ rest. record l { state = state_at missing at } ∷ rest) (all_checked last (at + 1) ls (omega (arith, few))))

  module _ (s a n : ℕ) where
    abbrev keyed : Consignment → Bool
    keyed = is_consignment s a n

    pub once_still : (last : ℕ) (books : Books) → IsOnce s a n books → IsOnce s a n (with_checked_to s a n missing last books)
    once_still last books few =
        subst (λ (k : ℕ). k ≤ 1)
        (sym (ap length (filter_updated keyed (checked_to missing last) (λ it. refl) books.consignments)
        ∙ length-map (checked_to missing last) (filter keyed books.consignments)))
        few

    pub line_checked : (last : ℕ) (books : Books)
        → with_state s a n (last + 1) (state_at missing (last + 1)) (with_checked_to s a n missing last books) ≡ with_checked_to s a n missing (last + 1) books
    line_checked last books =
        ap (λ (cs : List Consignment). record books { consignments = cs })
        (update_twice keyed (checked_to missing last) (λ it. refl) (set_state (last + 1) (state_at missing (last + 1))) (checked_to missing (last + 1))
        (λ it. ap (λ ls. record it { lines = ls }) (one_checked last 1 (last + 1) (omega arith) (omega arith) it.lines)) books.consignments)

    pub none_checked_yet : (books : Books) → with_checked_to s a n missing 0 books ≡ books
    none_checked_yet books =
        ap (λ (cs : List Consignment). record books { consignments = cs })
        (update_nothing keyed (checked_to missing 0) (λ it. ap (λ ls. record it { lines = ls }) (none_checked 0 1 (omega arith) it.lines)) books.consignments)

    -- all lines are set, and then the consignment is received
    received_all : (count : ℕ) (cs : List Consignment) → AllByRecursion (λ (it : Consignment). length it.lines ≤ count) (filter keyed cs)
        → update_where keyed receive (update_where keyed (checked_to missing count) cs) ≡ update_where keyed (checked missing) cs
    received_all count [] few = refl
    received_all count (it ∷ cs) few = go (keyed it) refl few (received_all count cs)
      where
        go : (b : Bool) → keyed it ≡ b → AllByRecursion (λ (it : Consignment). length it.lines ≤ count) (cond b (it ∷ filter keyed cs) (filter keyed cs))
            → (AllByRecursion (λ (it : Consignment). length it.lines ≤ count) (filter keyed cs)
            → update_where keyed receive (update_where keyed (checked_to missing count) cs) ≡ update_where keyed (checked missing) cs)
            → update_where keyed receive (cond b (checked_to missing count it) it ∷ update_where keyed (checked_to missing count) cs)
            ≡ cond b (checked missing it) it ∷ update_where keyed (checked missing) cs
        go true hit all more =
            rw hit (λ i. record it { received = true; lines = all_checked count 1 it.lines (omega (arith, all.0)) i } ∷ more all.1 i)
        go false miss all more = rw miss (ap (λ rest. it ∷ rest) (more all))

    so_many : (count : ℕ) (found : List Consignment) → map (λ (it : Consignment). length it.lines) found ≡ count ∷ []
        → AllByRecursion (λ (it : Consignment). length it.lines ≤ count) found × (length found ≤ 1)
    so_many count [] is = absurd cc
    so_many count (it ∷ []) is = let same : length it.lines ≡ count = cc in ((omega (arith, same), tt), omega arith)
    so_many count (it ∷ other ∷ more) is = absurd (two is)
      where
        two : {x y : ℕ} {l : List ℕ} → ◌≡◌ {A = List ℕ} (x ∷ y ∷ l) (count ∷ []) → ⊥
        two e = cc

    pub once_of_many : (count : ℕ) (books : Books) → HasSoMany s a n count books → IsOnce s a n books
    once_of_many count books is = (so_many count (filter keyed books.consignments) is).1

    pub all_received : (count : ℕ) (books : Books) → HasSoMany s a n count books
        → with_received s a n (with_checked_to s a n missing count books)
        ≡ record books { consignments = update_where keyed (checked missing) books.consignments }
    all_received count books is =
        ap (λ (cs : List Consignment). record books { consignments = cs })
        (received_all count books.consignments (so_many count (filter keyed books.consignments) is).0)

-- ---- writes to books that fulfil a condition

pub writes_given : (a b c : State) (Given Then : Books → Type 0) (f h : Books → Books)
    → ((books : Books) → Given books → Then (f books)) → Writes a b Given f → Writes b c Then h → Writes a c Given (λ books. h (f books))
writes_given a b c Given Then f h goes one two = λ counts books holds given. two counts (f books) (one counts books holds given) (goes books given)

pub writes_told : (a b : State) (Given : Books → Type 0) (f h : Books → Books)
    → ((books : Books) → Given books → f books ≡ h books) → Writes a b Given f → Writes a b Given h
writes_told a b Given f h same one = λ counts books holds given. subst (HoldsWith counts b) (same books given) (one counts books holds given)

pub writes_nothing : (a : State) (Given : Books → Type 0) (f : Books → Books) → ((books : Books) → f books ≡ books) → Writes a a Given f
writes_nothing a Given f same = λ counts books holds given. subst (HoldsWith counts a) (sym (same books)) holds
