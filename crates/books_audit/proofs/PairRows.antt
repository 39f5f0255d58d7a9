-- Consignments in the order of their keys, counted one after another: consignments of the same pair of branches are neighbours.
use Rattle.shop_schema.proofs.Common.{◌≡◌, ◌∙◌, ◌+◌, ◌<◌, ◌==◌, ◌&&◌, ℕ, List, [], ◌∷◌, ◌++◌, map, length, drop, get_or, drop-cons, add-one, suc, true, false}
use Rattle.shop_schema.proofs.Common.{refl, sym, ap, subst, arith, AllByRecursion, all-append, and_parts, same_if, same_test, nat_tests, append-nil, map_push}
use Rattle.shop_schema.proofs.Common.{Pair, is_pair, count_pair}
use Rattle.audit_rows.specs.Lists.{Key, is_below, climbs_above}
use Rattle.audit_rows.specs.declared.rows.CheckedHeader.{CheckedHeader}
use Rattle.audit_rows.proofs.Keys.{both, below_trans, below_apart}
use Rattle.books_audit.specs.declared.counts.Triple.{Triple}
use Rattle.books_audit.specs.Read.{pairs_among}
use Rattle.books_audit.specs.Triples.{seen_pair}
use Rattle.books_audit.proofs.PairLemmas.{counted_here, counted_later}
use Rattle.books_audit.proofs.Canonical.{two}

abbrev pub Below : ℕ → ℕ → List Pair → Type 0
Below s a = AllByRecursion (λ (p : Pair). is_below (p.source ∷ p.addressee ∷ []) (s ∷ a ∷ []) ≡ true)

apart : (s a : ℕ) (p : Pair) → is_below (p.source ∷ p.addressee ∷ []) (s ∷ a ∷ []) ≡ true → is_pair s a p ≡ false
apart s a p h = two (p.source == s) (p.addressee == a) ∙ below_apart (p.source ∷ p.addressee ∷ []) (s ∷ a ∷ []) h

-- no earlier row is of the pair
past : (s a : ℕ) (ps rest : List Pair) → Below s a ps → count_pair s a (ps ++ rest) ≡ ps ++ count_pair s a rest
past s a [] rest h = refl
past s a (p ∷ ps) rest h = counted_later s a p (ps ++ rest) (apart s a p h.0) ∙ ap (λ l. p ∷ l) (past s a ps rest h.1)

-- one more of the last pair
pub last_again : (s a n : ℕ) (ps : List Pair) → Below s a ps
    → count_pair s a (ps ++ record { source = s; addressee = a; last = n } ∷ []) ≡ ps ++ record { source = s; addressee = a; last = n + 1 } ∷ []
last_again s a n ps h =
    past s a ps (record { source = s; addressee = a; last = n } ∷ []) h
    ∙ ap (λ l. ps ++ l) (counted_here s a (record { source = s; addressee = a; last = n }) [] (λ i. same_test s i && same_test a i))

lower : (s a t b : ℕ) (ps : List Pair) → is_below (s ∷ a ∷ []) (t ∷ b ∷ []) ≡ true → Below s a ps → Below t b ps
lower s a t b [] up h = tt
lower s a t b (p ∷ ps) up h = (below_trans (p.source ∷ p.addressee ∷ []) (s ∷ a ∷ []) (t ∷ b ∷ []) h.0 up, lower s a t b ps up h.1)

-- a key above that of the last consignment, and of another pair, is of a pair above the last
pub other_above : (s a n t b m : ℕ) → is_below (s ∷ a ∷ n ∷ []) (t ∷ b ∷ m ∷ []) ≡ true → (t == s && b == a) ≡ false → is_below (s ∷ a ∷ []) (t ∷ b ∷ []) ≡ true
other_above s a n t b m h other = grind (arith, nat_tests)

module _ (s a t b : ℕ) (ps : List Pair) (low : Below s a ps) (up : is_below (s ∷ a ∷ []) (t ∷ b ∷ []) ≡ true) (n : ℕ) where
  pub all_below : Below t b (ps ++ record { source = s; addressee = a; last = n } ∷ [])
  all_below = all-append _ ps _ (lower s a t b ps up low) (up, tt)

  -- the first of the next pair
  pub next_pair : count_pair t b (ps ++ record { source = s; addressee = a; last = n } ∷ [])
      ≡ (ps ++ record { source = s; addressee = a; last = n } ∷ []) ++ record { source = t; addressee = b; last = 1 } ∷ []
  next_pair =
      let all = ps ++ record { source = s; addressee = a; last = n } ∷ [] in
      ap (count_pair t b) (sym (append-nil all)) ∙ past t b all [] all_below

-- ---- the next consignment

pub cut_at : (xs : List CheckedHeader) (i : ℕ) (x : CheckedHeader) → i < length xs → x ≡ get_or xs i x → drop i xs ≡ x ∷ drop (i + 1) xs
cut_at xs i x low is = rw (add-one, drop-cons xs i x) (ap (λ y. y ∷ drop (suc i) xs) (sym is))

abbrev key : CheckedHeader → Key
key row = row.source ∷ row.addressee ∷ row.number ∷ []

abbrev so_many : CheckedHeader → ℕ → Pair
so_many row n = record { source = row.source; addressee = row.addressee; last = n }

-- what holds after a consignment
pub record Follows (ps : List Pair) (row : CheckedHeader) (n : ℕ) (rest : List CheckedHeader) (all : List Pair) : Type 0 where
  pub same : pairs_among (ps ++ so_many row n ∷ []) rest ≡ all
  pub below : Below row.source row.addressee ps
  pub rises : climbs_above (key row) (map key rest) ≡ true

module _ (last row : CheckedHeader) (before rest : List CheckedHeader) (n : ℕ) (all : List Pair) (cut : before ≡ row ∷ rest) where
  rising : climbs_above (key last) (map key before) ≡ true → (is_below (key last) (key row) && climbs_above (key row) (map key rest)) ≡ true
  rising h = ap (λ l. climbs_above (key last) (map key l)) (sym cut) ∙ h

  counted : (ps : List Pair) → pairs_among ps before ≡ all → pairs_among (count_pair row.source row.addressee ps) rest ≡ all
  counted ps h = ap (pairs_among ps) (sym cut) ∙ h

  module _ (ps : List Pair) (f : Follows ps last n before all) where
    -- of the same pair
    pub of_same : (row.source == last.source && row.addressee == last.addressee) ≡ true → Follows ps row (n + 1) rest all
    of_same e =
        let parts = and_parts (row.source == last.source) (row.addressee == last.addressee) e in
        let s = same_if row.source last.source parts.0 in
        let a = same_if row.addressee last.addressee parts.1 in
        let once : count_pair row.source row.addressee (ps ++ so_many last n ∷ []) ≡ ps ++ so_many row (n + 1) ∷ [] =
        ap (λ x. count_pair x row.addressee (ps ++ so_many last n ∷ [])) s
        ∙ ap (λ x. count_pair last.source x (ps ++ so_many last n ∷ [])) a ∙ last_again last.source last.addressee n ps f.below
        ∙ (λ i. ps ++ record { source = sym s i; addressee = sym a i; last = n + 1 } ∷ []) in
        record {
          same = ap (λ l. pairs_among l rest) (sym once) ∙ counted (ps ++ so_many last n ∷ []) f.same;
          below = subst (λ x. Below x row.addressee ps) (sym s) (subst (λ x. Below last.source x ps) (sym a) f.below);
          rises = (both (is_below (key last) (key row)) (climbs_above (key row) (map key rest)) (rising f.rises)).1;
        }

    -- of another
    pub of_other : (olds news : List Triple) (x : Triple) → map seen_pair olds ≡ ps → news ≡ olds ++ x ∷ []
        → seen_pair x ≡ so_many last n → (row.source == last.source && row.addressee == last.addressee) ≡ false
        → Follows (map seen_pair news) row 1 rest all
    of_other olds news x e g k other =
        let up = both (is_below (key last) (key row)) (climbs_above (key row) (map key rest)) (rising f.rises) in
        let above = other_above last.source last.addressee last.number row.source row.addressee row.number up.0 other in
        let is : ps ++ so_many last n ∷ [] ≡ map seen_pair news =
        (λ i. sym e i ++ sym k i ∷ []) ∙ sym (map_push seen_pair olds x) ∙ ap (map seen_pair) (sym g) in
        let once = next_pair last.source last.addressee row.source row.addressee ps f.below above n in
        record {
          same =
              ap (λ l. pairs_among (l ++ so_many row 1 ∷ []) rest) (sym is)
              ∙ ap (λ l. pairs_among l rest) (sym once) ∙ counted (ps ++ so_many last n ∷ []) f.same;
          below = subst (Below row.source row.addressee) is (all_below last.source last.addressee row.source row.addressee ps f.below above n);
          rises = up.1;
        }
