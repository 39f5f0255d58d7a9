-- The rows of the two tables as lists of the books, and what each change of the books makes of them.
use Rattle.shop_schema.proofs.Common.{append-nil, append_assoc, ◌≡◌, ◌≤◌, ◌<◌, ◌+◌, ◌-◌, ◌==◌, ◌&&◌, ℕ, List, [], ◌∷◌, ◌++◌, map, filter, length, Bool, true}
use Rattle.shop_schema.proofs.Common.{false, cond, refl, sym, ap, subst, ◌∙◌, arith, IsPermutation, flat_map, and_parts, nat_tests, map-append, filter-append}
use Rattle.shop_schema.proofs.Common.{IsPermutation-sym, IsPermutation-trans, IsPermutation-middle, IsPermutation-to_front, IsPermutation-append_right}
use Rattle.shop_schema.proofs.Common.{update_where, PicksOne, same_flag, set_at, numbered, numbered_from, IsCounted, Line, LineState, UnderWay, Arrived}
use Rattle.shop_schema.proofs.Common.{Missing, Consignment, is_consignment, same_if, length_map, filter_map, numbered_push, consignment_columns, line_value}
use Rattle.shop_schema.proofs.Common.{line_columns, line_rows}
use Rattle.shop_schema.proofs.Lists.{counted_once, filter_twice}
use Rattle.consign_store.specs.Parts.{Header, header_of, header_columns, Placed, placed_at, placed_in, all_placed, placed_columns, is_header, is_within}
use Rattle.consign_store.specs.Parts.{is_placed, push_line, put_state, set_state, receive}
use Rattle.shop_ledger.proofs.Rising.{Rises, counted_rise}
use Rattle.consign_store.proofs.ListLemmas.{update_append, unpicked}

-- ---- the rows of the tables

pub headers_are : (cs : List Consignment) → map consignment_columns cs ≡ map header_columns (map header_of cs)
headers_are [] = refl
headers_are (it ∷ cs) = ap (λ l. consignment_columns it ∷ l) (headers_are cs)

lines_here : (it : Consignment) (ls : List (ℕ × Line)) → map (line_columns it) ls ≡ map placed_columns (map (placed_at it) ls)
lines_here it [] = refl
lines_here it (l ∷ ls) = ap (λ rows. line_columns it l ∷ rows) (lines_here it ls)

pub lines_are : (cs : List Consignment) → flat_map line_rows cs ≡ map placed_columns (all_placed cs)
lines_are [] = refl
lines_are (it ∷ cs) = (λ i. lines_here it (numbered it.lines) i ++ lines_are cs i) ∙ sym (map-append placed_columns (placed_in it) (all_placed cs))

-- ---- columns are one to one

pub same_header : (a b : Header) → header_columns a ≡ header_columns b → a ≡ b
same_header a b h =
    let source : a.source ≡ b.source = cc in
    let addressee : a.addressee ≡ b.addressee = cc in
    let number : a.number ≡ b.number = cc in
    let place : a.place ≡ b.place = cc in
    let received : a.received ≡ b.received = same_flag a.received b.received cc in
    (λ i. record { source = source i; addressee = addressee i; number = number i; place = place i; received = received i })

same_state : (a b : LineState) → line_value a ≡ line_value b → a ≡ b
same_state UnderWay UnderWay h = refl
same_state Arrived Arrived h = refl
same_state Missing Missing h = refl
same_state a b h = cc

pub same_placed : (a b : Placed) → placed_columns a ≡ placed_columns b → a ≡ b
same_placed a b h =
    let source : a.source ≡ b.source = cc in
    let addressee : a.addressee ≡ b.addressee = cc in
    let number : a.number ≡ b.number = cc in
    let line : a.line ≡ b.line = cc in
    let film : a.it.film ≡ b.it.film = cc in
    let branch : a.it.mark.branch ≡ b.it.mark.branch = cc in
    let copy : a.it.mark.copy ≡ b.it.mark.copy = cc in
    let state : a.it.state ≡ b.it.state = same_state a.it.state b.it.state cc in
    (λ i.
    record {
      source = source i;
      addressee = addressee i;
      number = number i;
      line = line i;
      it = record { film = film i; mark = record { branch = branch i; copy = copy i }; state = state i };
    })

-- ---- what passes tests

module _ (s a n : ℕ) where
  abbrev is : Consignment → Bool
  is = is_consignment s a n

  pub headers_pass : (cs : List Consignment) → filter (is_header s a n) (map header_of cs) ≡ map header_of (filter is cs)
  headers_pass cs = filter_map (is_header s a n) header_of cs

  pub picks_header : (cs : List Consignment) → PicksOne is cs → PicksOne (is_header s a n) (map header_of cs)
  picks_header cs few = subst (λ (k : ℕ). k ≤ 1) (sym (ap length (headers_pass cs) ∙ length_map header_of (filter is cs))) few

  all_within : (it : Consignment) → is it ≡ true → (ls : List (ℕ × Line)) → filter (is_within s a n) (map (placed_at it) ls) ≡ map (placed_at it) ls
  all_within it hit [] = refl
  all_within it hit (l ∷ ls) = rw hit (ap (λ rows. placed_at it l ∷ rows) (all_within it hit ls))

  none_within : (it : Consignment) → is it ≡ false → (ls : List (ℕ × Line)) → filter (is_within s a n) (map (placed_at it) ls) ≡ []
  none_within it miss [] = refl
  none_within it miss (l ∷ ls) = rw miss (none_within it miss ls)

  pub lines_pass : (cs : List Consignment) → filter (is_within s a n) (all_placed cs) ≡ all_placed (filter is cs)
  lines_pass [] = refl
  lines_pass (it ∷ cs) = filter-append (is_within s a n) (placed_in it) (all_placed cs) ∙ go (is it) refl (lines_pass cs)
    where
      go : (b : Bool) → is it ≡ b → filter (is_within s a n) (all_placed cs) ≡ all_placed (filter is cs)
          → filter (is_within s a n) (placed_in it) ++ filter (is_within s a n) (all_placed cs) ≡ all_placed (cond b (it ∷ filter is cs) (filter is cs))
      go true hit more = λ i. all_within it hit (numbered it.lines) i ++ more i
      go false miss more = λ i. none_within it miss (numbered it.lines) i ++ more i

  placed_counted : (it : Consignment) (k : ℕ) (ls : List Line) → IsCounted k (map (λ (row : Placed). row.line) (map (placed_at it) (numbered_from k ls)))
  placed_counted it k [] = tt
  placed_counted it k (l ∷ ls) = (refl, placed_counted it (k + 1) ls)

  -- the lines of at most one consignment
  pub lines_rise : (found : List Consignment) → length found ≤ 1 → Rises (λ (row : Placed). row.line) (all_placed found)
  lines_rise [] few = tt
  lines_rise (it ∷ []) few =
      subst (Rises (λ (row : Placed). row.line)) (sym (append-nil (placed_in it)))
      (counted_rise (λ (row : Placed). row.line) 1 (placed_in it) (placed_counted it 1 it.lines))
  lines_rise (it ∷ other ∷ more) few = absurd (omega (arith, few))

  pub picks_placed : (k : ℕ) (cs : List Consignment) → PicksOne is cs → PicksOne (is_placed s a n k) (all_placed cs)
  picks_placed k cs few =
      let its : filter (is_placed s a n k) (all_placed cs) ≡ filter (λ (row : Placed). row.line == k) (all_placed (filter is cs)) =
      filter_twice (is_within s a n) (λ (row : Placed). row.line == k) (all_placed cs) ∙ ap (filter (λ (row : Placed). row.line == k)) (lines_pass cs) in
      subst (λ (l : List Placed). length l ≤ 1) (sym its) (go (filter is cs) few)
    where
      go : (found : List Consignment) → length found ≤ 1 → length (filter (λ (row : Placed). row.line == k) (all_placed found)) ≤ 1
      go [] few = omega arith
      go (it ∷ []) few =
          subst (λ (l : List Placed). length (filter (λ (row : Placed). row.line == k) l) ≤ 1) (sym (append-nil (placed_in it)))
          (counted_once (λ (row : Placed). row.line) 1 (placed_in it) k (placed_counted it 1 it.lines))
      go (it ∷ other ∷ more) few = absurd (omega (arith, few))

  -- ---- changes

  abbrev pub receive_header : Header → Header
  receive_header it = record it { received = true }

  pub headers_set : (cs : List Consignment) → map header_of (update_where is receive cs) ≡ update_where (is_header s a n) receive_header (map header_of cs)
  headers_set [] = refl
  headers_set (it ∷ cs) = λ i. go (is it) i ∷ headers_set cs i
    where
      go : (b : Bool) → header_of (cond b (receive it) it) ≡ cond b (receive_header (header_of it)) (header_of it)
      go true = refl
      go false = refl

  module _ (k : ℕ) (state : LineState) where
    abbrev pub set_placed : Placed → Placed
    set_placed row = record row { it = put_state state row.it }

    abbrev set_here : List Placed → List Placed
    set_here = update_where (is_placed s a n k) set_placed

    none_set : (it : Consignment) → is it ≡ false → (ls : List (ℕ × Line)) → set_here (map (placed_at it) ls) ≡ map (placed_at it) ls
    none_set it miss [] = refl
    none_set it miss (l ∷ ls) = rw miss (ap (λ rows. placed_at it l ∷ rows) (none_set it miss ls))

    later_set : (it : Consignment) → is it ≡ true → (j : ℕ) → k < j → (ls : List Line)
        → set_here (map (placed_at it) (numbered_from j ls)) ≡ map (placed_at it) (numbered_from j ls)
    later_set it hit j above [] = refl
    later_set it hit j above (l ∷ ls) =
        let other : (j == k) ≡ false = grind (arith, nat_tests) in
        rw (hit, other) (ap (λ rows. placed_at it (j, l) ∷ rows) (later_set it hit (j + 1) (omega arith) ls))

    one_set : (it : Consignment) → is it ≡ true → (j m : ℕ) → 1 ≤ m → k + 1 ≡ j + m → (ls : List Line)
        → map (placed_at it) (numbered_from j (set_at m (put_state state) ls)) ≡ set_here (map (placed_at it) (numbered_from j ls))
    one_set it hit j m low is_at [] = refl
    one_set it hit j m low is_at (l ∷ ls) = go (m == 1) refl (λ lower next. one_set it hit (j + 1) (m - 1) lower next ls)
      where
        go : (b : Bool) → (m == 1) ≡ b
            → (1 ≤ m - 1 → k + 1 ≡ j + 1 + (m - 1)
            → map (placed_at it) (numbered_from (j + 1) (set_at (m - 1) (put_state state) ls))
            ≡ set_here (map (placed_at it) (numbered_from (j + 1) ls)))
            → map (placed_at it) (numbered_from j (cond b (put_state state l ∷ ls) (l ∷ set_at (m - 1) (put_state state) ls)))
            ≡ set_here (map (placed_at it) (numbered_from j (l ∷ ls)))
        go true first further_on =
            let one : m ≡ 1 = grind (arith, nat_tests) in
            let here : (j == k) ≡ true = grind (arith, nat_tests, one, is_at) in
            rw (hit, here) (ap (λ rows. placed_at it (j, put_state state l) ∷ rows) (sym (later_set it hit (j + 1) (omega (arith, one, is_at)) ls)))
        go false further further_on =
            let more : 2 ≤ m = grind (arith, nat_tests) in
            let other : (j == k) ≡ false = grind (arith, nat_tests, more, is_at) in
            rw (hit, other) (ap (λ rows. placed_at it (j, l) ∷ rows) (further_on (omega (arith, more)) (omega (arith, more, is_at))))

    pub lines_set : 1 ≤ k → (cs : List Consignment) → all_placed (update_where is (set_state k state) cs) ≡ set_here (all_placed cs)
    lines_set low [] = refl
    lines_set low (it ∷ cs) = (λ i. go (is it) refl i ++ lines_set low cs i) ∙ sym (update_append (is_placed s a n k) set_placed (placed_in it) (all_placed cs))
      where
        go : (b : Bool) → is it ≡ b → placed_in (cond b (set_state k state it) it) ≡ set_here (placed_in it)
        go true hit = one_set it hit 1 k low (omega arith) it.lines
        go false miss = sym (none_set it miss (numbered it.lines))

-- a line that is put after the other lines of its consignment
module _ (row : Placed) where
  abbrev its : Consignment → Bool
  its = is_consignment row.source row.addressee row.number

  its_key : (it : Consignment) → its it ≡ true → (it.source ≡ row.source) × (it.addressee ≡ row.addressee) × (it.number ≡ row.number)
  its_key it hit =
      let last = and_parts (it.source == row.source && it.addressee == row.addressee) (it.number == row.number) hit in
      let first = and_parts (it.source == row.source) (it.addressee == row.addressee) last.0 in
      (same_if it.source row.source first.0, same_if it.addressee row.addressee first.1, same_if it.number row.number last.1)

  behind : (it : Consignment) → its it ≡ true → length it.lines + 1 ≡ row.line → placed_in (push_line row.it it) ≡ placed_in it ++ row ∷ []
  behind it hit next =
      let key = its_key it hit in
      let line : 1 + length it.lines ≡ row.line = omega (arith, next) in
      let last : placed_at it (1 + length it.lines, row.it) ≡ row =
      (λ i. record { source = key.0 i; addressee = key.1 i; number = key.2 i; line = line i; it = row.it }) in
      ap (map (placed_at it)) (numbered_push 1 it.lines row.it) ∙ map-append (placed_at it) (numbered it.lines) ((1 + length it.lines, row.it) ∷ [])
      ∙ ap (λ (it_is : Placed). placed_in it ++ it_is ∷ []) last

  pub lines_put : (cs : List Consignment) → map (λ (it : Consignment). length it.lines + 1) (filter its cs) ≡ row.line ∷ []
      → IsPermutation (all_placed cs ++ row ∷ []) (all_placed (update_where its (push_line row.it) cs))
  lines_put [] next = absurd cc
  lines_put (it ∷ cs) next = go (its it) refl next (lines_put cs)
    where
      go : (b : Bool) → its it ≡ b → map (λ (it : Consignment). length it.lines + 1) (cond b (it ∷ filter its cs) (filter its cs)) ≡ row.line ∷ []
          → (map (λ (it : Consignment). length it.lines + 1) (filter its cs) ≡ row.line ∷ []
          → IsPermutation (all_placed cs ++ row ∷ []) (all_placed (update_where its (push_line row.it) cs)))
          → IsPermutation ((placed_in it ++ all_placed cs) ++ row ∷ [])
          (placed_in (cond b (push_line row.it it) it) ++ all_placed (update_where its (push_line row.it) cs))
      go true hit now more =
          let number : length it.lines + 1 ≡ row.line = cc in
          let none : filter its cs ≡ [] = unmapped_none (filter its cs) cc in
          let rest : update_where its (push_line row.it) cs ≡ cs = unpicked its (push_line row.it) cs none in
          let goal : placed_in (push_line row.it it) ++ all_placed (update_where its (push_line row.it) cs) ≡ placed_in it ++ row ∷ all_placed cs =
          (λ i. behind it hit number i ++ all_placed (rest i)) ∙ append_assoc (placed_in it) (row ∷ []) (all_placed cs) in
          subst (IsPermutation ((placed_in it ++ all_placed cs) ++ row ∷ [])) (sym goal)
          (IsPermutation-trans _ _ _ (IsPermutation-to_front (placed_in it ++ all_placed cs) row)
          (IsPermutation-sym _ _ (IsPermutation-middle (placed_in it) row (all_placed cs))))
        where
          unmapped_none : (found : List Consignment) → map (λ (it : Consignment). length it.lines + 1) found ≡ [] → found ≡ []
          unmapped_none [] e = refl
          unmapped_none (x ∷ found) e = absurd cc
      go false miss now more =
          subst (λ (l : List Placed). IsPermutation l (placed_in it ++ all_placed (update_where its (push_line row.it) cs)))
          (sym (append_assoc (placed_in it) (all_placed cs) (row ∷ [])))
          (IsPermutation-append_right (placed_in it) _ _ (more now))
