-- One step of a dispatch or of a receipt, and what the steps result in.
use Rattle.shop_schema.proofs.Common.{list_any, ◌≡◌, ◌+◌, ◌<◌, ◌≤◌, ◌==◌, ◌||◌, ℕ, Bool, false, List, [], ◌∷◌, ◌++◌, map, take, length, get_or, Option, Some}
use Rattle.shop_schema.proofs.Common.{None, refl, sym, ap, subst, ◌∙◌, arith, ⊤, if◌then◌else◌, nat_tests, take_all, map_more, length-take-le, State, mem}
use Rattle.shop_schema.proofs.Common.{Books, Line, LineState, is_consignment, checked, Writes, ParcelLine}
use Rattle.std.proofs.lemmas.List.{length-map}
use Rattle.shop_model.specs.Rows.{update_where}
use Rattle.consign_store.specs.Parts.{Placed, with_line, IsNextLine, IsOnce, with_state, with_received}
use Rattle.consign_store.specs.Parcels.{sent_line, IsNewKey, HasSoMany, HasNoLine, with_lines, sent_off, state_at, with_checked_to}
use Rattle.consign_store.proofs.ParcelLemmas.{next_line, line_more, new_has_none, new_with_lines, once_still, line_checked, once_of_many, all_received}
use Rattle.consign_store.proofs.ParcelLemmas.{writes_given, writes_told}

-- ---- numbers

pub number_is : (n k : ℕ) (found : Option ℕ) → 1 ≤ n → found ≡ (if n == 0 then None else Some n) → found ≡ Some k → k ≡ n
number_is n k found low made is =
    let some : (n == 0) ≡ false = grind (arith, nat_tests) in
    let told : Some k ≡ Some n = sym is ∙ made ∙ rw some refl in
    cc

pub any_mem : (n : ℕ) (ns : List ℕ) → list_any (λ (m : ℕ). m == n) ns ≡ mem n ns
any_mem n [] = refl
any_mem n (m ∷ ms) = ap (λ (b : Bool). m == n || b) (any_mem n ms)

-- ---- calls

module _ (s a n : ℕ) where
  abbrev pub placed : ℕ → ParcelLine → Placed
  placed k line = record { source = s; addressee = a; number = n; line = k; it = sent_line line }

  pub one_line : (s0 s1 s2 : State) (lines : List ParcelLine) (i k : ℕ) (line : ParcelLine) → i < length lines → line ≡ get_or lines i line → k ≡ i + 1
      → Writes s0 s1 (HasNoLine s a n) (with_lines s a n (map sent_line (take i lines))) → Writes s1 s2 (IsNextLine (placed k line)) (with_line (placed k line))
      → Writes s0 s2 (HasNoLine s a n) (with_lines s a n (map sent_line (take (i + 1) lines)))
  one_line s0 s1 s2 lines i k line lt is next one two =
      let done = map sent_line (take i lines) in
      let row = placed k line in
      let count : length done ≡ i = length-map (take i lines) sent_line ∙ length-take-le i lines (omega (arith, lt)) in
      let behind : k ≡ length done + 1 = omega (arith, next, count) in
      let more : done ++ sent_line line ∷ [] ≡ map sent_line (take (i + 1) lines) =
      ap (λ (l : ParcelLine). done ++ sent_line l ∷ []) is ∙ sym (map_more sent_line lines i line lt) in
      writes_told s0 s2 (HasNoLine s a n) (λ books. with_line row (with_lines s a n done books)) (with_lines s a n (map sent_line (take (i + 1) lines)))
      (λ books none. line_more s a n books done row refl refl refl ∙ ap (λ (ls : List Line). with_lines s a n ls books) more)
      (writes_given s0 s1 s2 (HasNoLine s a n) (IsNextLine row) (with_lines s a n done) (with_line row)
      (λ books none. next_line s a n books done row refl refl refl behind none) one two)

  pub all_lines : (s0 s1 : State) (lines : List ParcelLine) (i : ℕ) → length lines ≤ i
      → Writes s0 s1 (HasNoLine s a n) (with_lines s a n (map sent_line (take i lines)))
      → Writes s0 s1 (HasNoLine s a n) (with_lines s a n (map sent_line lines))
  all_lines s0 s1 lines i le one =
      subst (λ (ls : List ParcelLine). Writes s0 s1 (HasNoLine s a n) (with_lines s a n (map sent_line ls))) (take_all i lines le) one

  pub whole : (s0 s1 s2 : State) (place : ℕ) (lines : List Line)
      → Writes s0 s1 (λ _. ⊤) (λ books. record books { consignments = books.consignments ++ sent_off s a n place [] ∷ [] })
      → Writes s1 s2 (HasNoLine s a n) (with_lines s a n lines)
      → Writes s0 s2 (IsNewKey s a n) (λ books. record books { consignments = books.consignments ++ sent_off s a n place lines ∷ [] })
  whole s0 s1 s2 place lines one two =
      let put = λ (books : Books). record books { consignments = books.consignments ++ sent_off s a n place [] ∷ [] } in
      writes_told s0 s2 (IsNewKey s a n) (λ books. with_lines s a n lines (put books))
      (λ books. record books { consignments = books.consignments ++ sent_off s a n place lines ∷ [] })
      (λ books new. new_with_lines s a n place books lines new)
      (λ counts books holds new. two counts (put books) (one counts books holds tt) (new_has_none s a n place books new))

  pub one_state : (s0 s1 s2 : State) (missing : List ℕ) (done k : ℕ) (state : LineState) → k ≡ done + 1
      → state ≡ state_at missing k → Writes s0 s1 (IsOnce s a n) (with_checked_to s a n missing done)
      → Writes s1 s2 (IsOnce s a n) (with_state s a n k state) → Writes s0 s2 (IsOnce s a n) (with_checked_to s a n missing (done + 1))
  one_state s0 s1 s2 missing done k state next is one two =
      let same : (books : Books) → with_state s a n k state books ≡ with_state s a n (done + 1) (state_at missing (done + 1)) books =
      λ books. ap (λ (new : LineState). with_state s a n k new books) is ∙ ap (λ (m : ℕ). with_state s a n m (state_at missing m) books) next in
      writes_told s0 s2 (IsOnce s a n) (λ books. with_state s a n k state (with_checked_to s a n missing done books)) (with_checked_to s a n missing (done + 1))
      (λ books few. same (with_checked_to s a n missing done books) ∙ line_checked missing s a n done books)
      (writes_given s0 s1 s2 (IsOnce s a n) (IsOnce s a n) (with_checked_to s a n missing done)
      (with_state s a n k state) (λ books few. once_still missing s a n done books few) one two)

  pub all_states : (s0 s1 s2 : State) (missing : List ℕ) (count : ℕ)
      → Writes s0 s1 (IsOnce s a n) (with_checked_to s a n missing count) → Writes s1 s2 (IsOnce s a n) (with_received s a n)
      → Writes s0 s2 (HasSoMany s a n count) (λ books. record books { consignments = update_where (is_consignment s a n) (checked missing) books.consignments })
  all_states s0 s1 s2 missing count one two =
      let set = with_checked_to s a n missing count in
      writes_told s0 s2 (HasSoMany s a n count) (λ books. with_received s a n (set books))
      (λ books. record books { consignments = update_where (is_consignment s a n) (checked missing) books.consignments })
      (λ books many. all_received missing s a n count books many)
      (λ counts books holds many.
      let few = once_of_many missing s a n count books many in
      two counts (set books) (one counts books holds few) (once_still missing s a n count books few))
