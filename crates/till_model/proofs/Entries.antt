-- Entries by place and by key, and the entries that acted.
use Rattle.shop_model.proofs.Common.{◌≡◌, inl, inr, ◌∙◌, ℕ, zero, suc, ◌<◌, List, [], ◌∷◌, ◌++◌, filter, Bool, true, false, not, Some, refl, sym, subst, ap}
use Rattle.shop_model.proofs.Common.{arith, slice_get, list_any, bytes_eq, cases_Bool, and_parts, or_parts, not-true, false≢true, bytes_eq-Decides, Text}
use Rattle.shop_model.proofs.Common.{Command, Kept}
use Rattle.shop_model.proofs.ActLaws.{bytes_same}
use Rattle.shop_model.proofs.Resends.{same_some, same_none}
use Rattle.till_model.specs.Tills.{Entry, are_marked, have_own_keys}
use Rattle.till_model.proofs.KeptRows.{has, has_more, other_mark, or_false}

-- ---- entries by place

own_here : (y : Entry) (ys : List Entry) → have_own_keys (y ∷ ys) ≡ true
    → (list_any (λ (z : Entry). bytes_eq y.command.key z.command.key) ys ≡ false) × (have_own_keys ys ≡ true)
own_here y ys own = let h = and_parts (not (list_any (λ (z : Entry). bytes_eq y.command.key z.command.key) ys)) (have_own_keys ys) own in (not-true _ h.0, h.1)

other_key : (key : Text) (ys : List Entry) (n : ℕ) (x : Entry) → list_any (λ (z : Entry). bytes_eq key z.command.key) ys ≡ false
    → slice_get ys n ≡ Some x → bytes_eq key x.command.key ≡ false
other_key key [] n x none there = absurd (same_none x there)
other_key key (z ∷ ys) zero x none there = let h = or_parts (bytes_eq key z.command.key) (list_any (λ (z : Entry). bytes_eq key z.command.key) ys) none in
    subst (λ (it : Entry). bytes_eq key it.command.key ≡ false) (same_some z x there) h.0
other_key key (z ∷ ys) (suc n) x none there = let h = or_parts (bytes_eq key z.command.key) (list_any (λ (z : Entry). bytes_eq key z.command.key) ys) none in
    other_key key ys n x h.1 there

turned : (a b : Text) → bytes_eq a b ≡ false → bytes_eq b a ≡ false
turned a b isnt = elim (cases_Bool (bytes_eq b a)) [
  | inr other ↦ other
  | inl is ↦ let same : bytes_eq a b ≡ true = (bytes_eq-Decides a b).1 (sym ((bytes_eq-Decides b a).0 is)) in absurd (false≢true (sym isnt ∙ same))
]

-- two entries with the same key are the same entry
pub same_entry : (es : List Entry) (i j : ℕ) (x y : Entry) → have_own_keys es ≡ true
    → slice_get es i ≡ Some x → slice_get es j ≡ Some y → bytes_eq x.command.key y.command.key ≡ true → x ≡ y
same_entry [] i j x y own at_i at_j same = absurd (same_none x at_i)
same_entry (e ∷ es) zero zero x y own at_i at_j same = sym (same_some e x at_i) ∙ same_some e y at_j
same_entry (e ∷ es) zero (suc j) x y own at_i at_j same =
    let no = other_key e.command.key es j y (own_here e es own).0 at_j in
    let no' : bytes_eq x.command.key y.command.key ≡ false = subst (λ (it : Entry). bytes_eq it.command.key y.command.key ≡ false) (same_some e x at_i) no in
    absurd (false≢true (sym no' ∙ same))
same_entry (e ∷ es) (suc i) zero x y own at_i at_j same =
    let no = other_key e.command.key es i x (own_here e es own).0 at_i in
    let no' : bytes_eq y.command.key x.command.key ≡ false = subst (λ (it : Entry). bytes_eq it.command.key x.command.key ≡ false) (same_some e y at_j) no in
    absurd (false≢true (sym (turned y.command.key x.command.key no') ∙ same))
same_entry (e ∷ es) (suc i) (suc j) x y own at_i at_j same = same_entry es i j x y (own_here e es own).1 at_i at_j same

pub marked_at : (has_mark : Text → Bool) (es : List Entry) (i : ℕ) (x : Entry)
    → are_marked has_mark es ≡ true → slice_get es i ≡ Some x → has_mark x.command.key ≡ true
marked_at has_mark [] i x all there = absurd (same_none x there)
marked_at has_mark (e ∷ es) zero x all there =
    subst (λ (it : Entry). has_mark it.command.key ≡ true) (same_some e x there) (and_parts (has_mark e.command.key) (are_marked has_mark es) all).0
marked_at has_mark (e ∷ es) (suc i) x all there = marked_at has_mark es i x (and_parts (has_mark e.command.key) (are_marked has_mark es) all).1 there

-- ---- the entries that acted, after one more kept row

abbrev pub acted : List Entry → List Kept → List Entry
acted es ks = filter (λ (e : Entry). has e.command.key ks) es

-- a row under another's key

pub acted_other : (has_mark : Text → Bool) (k : Kept) (ks : List Kept) (es : List Entry)
    → has_mark k.command.key ≡ false → are_marked has_mark es ≡ true → acted es (ks ++ k ∷ []) ≡ acted es ks
acted_other has_mark k ks [] isnt all = refl
acted_other has_mark k ks (e ∷ es) isnt all =
    let h = and_parts (has_mark e.command.key) (are_marked has_mark es) all in
    let same : has e.command.key (ks ++ k ∷ []) ≡ has e.command.key ks =
    has_more e.command.key ks k ∙ or_false (has e.command.key ks) _ (other_mark has_mark k e.command.key isnt h.0) in
    let rest = acted_other has_mark k ks es isnt h.1 in
    elim (cases_Bool (has e.command.key ks)) [
      | inl is ↦ rw (same, is) (ap (λ (l : List Entry). e ∷ l) rest)
      | inr isnt' ↦ rw (same, isnt') rest
    ]

abbrev pub NoneAbove : List Entry → ℕ → List Kept → Type 0
NoneAbove es i ks = (j : ℕ) (y : Entry) → i < j → slice_get es j ≡ Some y → has y.command.key ks ≡ false

pub none_acted : (es : List Entry) (ks : List Kept) → ((j : ℕ) (y : Entry) → slice_get es j ≡ Some y → has y.command.key ks ≡ false) → acted es ks ≡ []
none_acted [] ks none = refl
none_acted (e ∷ es) ks none = rw (none 0 e refl) (none_acted es ks (λ j y there. none (suc j) y there))

pub acted_own : (k : Kept) (ks : List Kept) (es : List Entry) (i : ℕ) (x : Entry) → have_own_keys es ≡ true
    → slice_get es i ≡ Some x → x.command ≡ k.command → has k.command.key ks ≡ false → NoneAbove es i ks
    → acted es (ks ++ k ∷ []) ≡ acted es ks ++ x ∷ []
acted_own k ks [] i x own there is fresh above = absurd (same_none x there)
acted_own k ks (e ∷ es) zero x own there is fresh above =
    let same : e ≡ x = same_some e x there in
    let key : e.command.key ≡ k.command.key = ap (λ (it : Entry). it.command.key) same ∙ ap (λ (c : Command). c.key) is in
    let was : has e.command.key ks ≡ false = subst (λ (t : Text). has t ks ≡ false) (sym key) fresh in
    let own_key : bytes_eq k.command.key e.command.key ≡ true = subst (λ (t : Text). bytes_eq t e.command.key ≡ true) key (bytes_same e.command.key) in
    let now : has e.command.key (ks ++ k ∷ []) ≡ true = has_more e.command.key ks k ∙ rw (was, own_key) refl in
    let apart = (own_here e es own).0 in
    let later : (j : ℕ) (y : Entry) → slice_get es j ≡ Some y → has y.command.key ks ≡ false = λ j y at_j. above (suc j) y (omega arith) at_j in
    let later' : (j : ℕ) (y : Entry) → slice_get es j ≡ Some y → has y.command.key (ks ++ k ∷ []) ≡ false =
    λ j y at_j. has_more y.command.key ks k
    ∙ or_false (has y.command.key ks) _ (subst (λ (t : Text). bytes_eq t y.command.key ≡ false) key (other_key e.command.key es j y apart at_j))
    ∙ later j y at_j in
    let before : acted (e ∷ es) ks ≡ [] = rw was (none_acted es ks later) in
    let behind : acted (e ∷ es) (ks ++ k ∷ []) ≡ e ∷ [] = rw now (ap (λ (l : List Entry). e ∷ l) (none_acted es (ks ++ k ∷ []) later')) in
    behind ∙ ap (λ (it : Entry). it ∷ []) same ∙ ap (λ (l : List Entry). l ++ x ∷ []) (sym before)
acted_own k ks (e ∷ es) (suc i) x own there is fresh above =
    let h = own_here e es own in
    let other = other_key e.command.key es i x h.0 there in
    let other' : bytes_eq k.command.key e.command.key ≡ false =
    turned e.command.key k.command.key (subst (λ (c : Command). bytes_eq e.command.key c.key ≡ false) is other) in
    let same : has e.command.key (ks ++ k ∷ []) ≡ has e.command.key ks = has_more e.command.key ks k ∙ or_false (has e.command.key ks) _ other' in
    let rest = acted_own k ks es i x h.1 there is fresh (λ j y low at_j. above (suc j) y (omega arith) at_j) in
    elim (cases_Bool (has e.command.key ks)) [
      | inl is' ↦ rw (same, is') (ap (λ (l : List Entry). e ∷ l) rest)
      | inr isnt' ↦ rw (same, isnt') rest
    ]

-- ---- the one row of an entry that acted

none_in : (key : Text) (es : List Entry) (ks : List Kept) → list_any (λ (z : Entry). bytes_eq key z.command.key) es ≡ false
    → filter (λ (e : Entry). bytes_eq e.command.key key) (acted es ks) ≡ []
none_in key [] ks none = refl
none_in key (e ∷ es) ks none =
    let h = or_parts (bytes_eq key e.command.key) (list_any (λ (z : Entry). bytes_eq key z.command.key) es) none in
    let rest = none_in key es ks h.1 in
    elim (cases_Bool (has e.command.key ks)) [
      | inl is ↦ rw (is, turned key e.command.key h.0) rest
      | inr isnt ↦ rw isnt rest
    ]

pub acted_one : (es : List Entry) (ks : List Kept) (i : ℕ) (x : Entry) → have_own_keys es ≡ true → slice_get es i ≡ Some x → has x.command.key ks ≡ true
    → filter (λ (e : Entry). bytes_eq e.command.key x.command.key) (acted es ks) ≡ x ∷ []
acted_one [] ks i x own there kept = absurd (same_none x there)
acted_one (e ∷ es) ks zero x own there kept =
    let same : e ≡ x = same_some e x there in
    let kept' : has e.command.key ks ≡ true = subst (λ (it : Entry). has it.command.key ks ≡ true) (sym same) kept in
    let here : filter (λ (z : Entry). bytes_eq z.command.key e.command.key) (acted (e ∷ es) ks) ≡ e ∷ [] =
    rw (kept', bytes_same e.command.key) (ap (λ (l : List Entry). e ∷ l) (none_in e.command.key es ks (own_here e es own).0)) in
    subst (λ (it : Entry). filter (λ (z : Entry). bytes_eq z.command.key it.command.key) (acted (e ∷ es) ks) ≡ it ∷ []) same here
acted_one (e ∷ es) ks (suc i) x own there kept =
    let h = own_here e es own in
    let other = other_key e.command.key es i x h.0 there in
    let rest = acted_one es ks i x h.1 there kept in
    elim (cases_Bool (has e.command.key ks)) [
      | inl is ↦ rw (is, other) rest
      | inr isnt ↦ rw isnt rest
    ]
