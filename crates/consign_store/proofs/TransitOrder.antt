-- Consignments by sender, addressee and number: sorted, they rise.
use Rattle.shop_schema.proofs.Common.{◌||◌, subst, Ordering, Less, Equal, Greater, is_lt, nat_cmp, ordering_then, ordering_reverse, MatchOrdering, ranks}
use Rattle.shop_schema.proofs.Common.{IsTotalOrder, then_total, number_total, all_weaker, ◌≡◌, ◌≢◌, ◌==◌, ◌&&◌, ◌<◌, ◌+◌, ℕ, Bool, true, false, cond, List, []}
use Rattle.shop_schema.proofs.Common.{◌∷◌, map, filter, refl, sym, ◌∙◌, arith, IsPermutation, nat_lt, AllByRecursion, IsPermutation-refl, IsPermutation-trans}
use Rattle.shop_schema.proofs.Common.{IsPermutation-cons, IsPermutation-middle, IsAscending, IsCounted, AreNumbered, insert_by, sorted_by, Consignment}
use Rattle.shop_schema.proofs.Common.{goes_before, same_test, equal_test}

-- ---- any order

module _ {X : Type 0} (first : X → X → Bool) where
  all_insert : (P : X → Type 0) (x : X) (ys : List X) → P x → AllByRecursion P ys → AllByRecursion P (insert_by first x ys)
  all_insert P x [] h all = (h, tt)
  all_insert P x (y ∷ ys) h all =
      elim (first x y) as (λ b. AllByRecursion P (cond b (x ∷ y ∷ ys) (y ∷ insert_by first x ys))) [
        | true ↦ (h, all)
        | false ↦ (all.0, all_insert P x ys h all.1)
      ]

  all_sorted : (P : X → Type 0) (xs : List X) → AllByRecursion P xs → AllByRecursion P (sorted_by first xs)
  all_sorted P [] all = tt
  all_sorted P (x ∷ xs) all = all_insert P x (sorted_by first xs) all.0 (all_sorted P xs all.1)

  insert_bag : (x : X) (ys : List X) → IsPermutation (x ∷ ys) (insert_by first x ys)
  insert_bag x [] = IsPermutation-refl _
  insert_bag x (y ∷ ys) =
      elim (first x y) as (λ b. IsPermutation (x ∷ y ∷ ys) (cond b (x ∷ y ∷ ys) (y ∷ insert_by first x ys)))
      [ true ↦ IsPermutation-refl _ | false ↦ IsPermutation-trans _ _ _ (IsPermutation-middle (x ∷ []) y ys) (IsPermutation-cons y _ _ (insert_bag x ys)) ]

  pub sorted_bag : (xs : List X) → IsPermutation xs (sorted_by first xs)
  sorted_bag [] = IsPermutation-refl []
  sorted_bag (x ∷ xs) = IsPermutation-trans _ _ _ (IsPermutation-cons x _ _ (sorted_bag xs)) (insert_bag x (sorted_by first xs))

-- ---- keys

-- by sender, then addressee, then number
abbrev pub key_cmp : Consignment → Consignment → Ordering
key_cmp a b = ordering_then (nat_cmp a.source b.source) (ordering_then (nat_cmp a.addressee b.addressee) (nat_cmp a.number b.number))

pub key_total : IsTotalOrder key_cmp
key_total =
    then_total (number_total (λ (it : Consignment). it.source))
    (then_total (number_total (λ (it : Consignment). it.addressee)) (number_total (λ (it : Consignment). it.number)))

abbrev pub Before : Consignment → Consignment → Type 0
Before a b = key_cmp a b ≡ Less

-- they have different keys
abbrev pub Apart : Consignment → Consignment → Type 0
Apart a b = a.source ≡ b.source → a.addressee ≡ b.addressee → a.number ≢ b.number

goes_is : (a b : Consignment) → goes_before a b ≡ is_lt (key_cmp a b)
goes_is a b =
    level (nat_lt a.source b.source) (a.source == b.source) _ _
    (level (nat_lt a.addressee b.addressee) (a.addressee == b.addressee) _ _ (last (nat_lt a.number b.number) (a.number == b.number)))
  where
    last : (less same : Bool) → less ≡ is_lt (cond less Less (cond same Equal Greater))
    last true same = refl
    last false true = refl
    last false false = refl

    level : (less same more : Bool) (o : Ordering) → more ≡ is_lt o
        → (less || same && more) ≡ is_lt (ordering_then (cond less Less (cond same Equal Greater)) o)
    level true same more o h = refl
    level false true more o h = h
    level false false more o h = refl

goes_if : (a b : Consignment) → goes_before a b ≡ true → Before a b
goes_if a b h = lower (key_cmp a b) (sym (goes_is a b) ∙ h)
  where
    lower : (o : Ordering) → is_lt o ≡ true → o ≡ Less
    lower Less e = refl
    lower o e = cc

stays_if : (a b : Consignment) → goes_before a b ≡ false → Apart a b → Before b a
stays_if a b h apart = key_total.antisymm b a ∙ turned (key_cmp a b) (sym (goes_is a b) ∙ h) tied
  where
    turned : (o : Ordering) → is_lt o ≡ false → (o ≡ Equal → ⊥) → ordering_reverse o ≡ Less
    turned Less e none = cc
    turned Equal e none = absurd (none refl)
    turned Greater e none = refl

    same : (m n : ℕ) → nat_cmp m n ≡ Equal → m ≡ n
    same m n e = subst (λ (r : Ordering). MatchOrdering r (m < n) (m ≡ n) (n < m)) e (ranks m n)

    both : (p q : Ordering) → ordering_then p q ≡ Equal → (p ≡ Equal) × (q ≡ Equal)
    both Equal q e = (refl, e)
    both p q e = absurd cc

    tied : key_cmp a b ≡ Equal → ⊥
    tied e =
        let first = both (nat_cmp a.source b.source) _ e in
        let rest = both (nat_cmp a.addressee b.addressee) (nat_cmp a.number b.number) first.1 in
        apart (same a.source b.source first.0) (same a.addressee b.addressee rest.0) (same a.number b.number rest.1)

insert_up : (x : Consignment) (ys : List Consignment) → AllByRecursion (Apart x) ys → IsAscending Before ys → IsAscending Before (insert_by goes_before x ys)
insert_up x [] apart up = (tt, tt)
insert_up x (y ∷ ys) apart up = go (goes_before x y) refl (insert_up x ys apart.1 up.1)
  where
    go : (b : Bool) → goes_before x y ≡ b → IsAscending Before (insert_by goes_before x ys)
        → IsAscending Before (cond b (x ∷ y ∷ ys) (y ∷ insert_by goes_before x ys))
    go true is more = let here = goes_if x y is in ((here, all_weaker (Before y) (Before x) (λ z later. key_total.trans x y z here later) ys up.0), up)
    go false is more = (all_insert goes_before (Before y) x ys (stays_if x y is apart.0) up.0, more)

pub sorted_up : (cs : List Consignment) → IsAscending Apart cs → IsAscending Before (sorted_by goes_before cs)
sorted_up [] apart = tt
sorted_up (it ∷ cs) apart = insert_up it (sorted_by goes_before cs) (all_sorted goes_before (Apart it) cs apart.0) (sorted_up cs apart.1)

-- ---- keys of the books differ

module _ (it : Consignment) where
  apart_from : (k : ℕ) (cs : List Consignment) → it.number < k
      → IsCounted k (map (λ (c : Consignment). c.number) (filter (λ (c : Consignment). c.source == it.source && c.addressee == it.addressee) cs))
      → AllByRecursion (Apart it) cs
  apart_from k [] low counted = tt
  apart_from k (c ∷ cs) low counted = go (c.source == it.source && c.addressee == it.addressee) refl counted (λ j lower now. apart_from j cs lower now)
    where
      go : (b : Bool) → (c.source == it.source && c.addressee == it.addressee) ≡ b
          → IsCounted k
          (map (λ (c : Consignment). c.number)
          (cond b (c ∷ filter (λ (c : Consignment). c.source == it.source && c.addressee == it.addressee) cs)
          (filter (λ (c : Consignment). c.source == it.source && c.addressee == it.addressee) cs)))
          → ((j : ℕ) → it.number < j
          → IsCounted j (map (λ (c : Consignment). c.number) (filter (λ (c : Consignment). c.source == it.source && c.addressee == it.addressee) cs))
          → AllByRecursion (Apart it) cs)
          → AllByRecursion (Apart it) (c ∷ cs)
      go true is now more = ((λ source addressee number. omega (arith, low, number, now.0)), more (k + 1) (omega (arith, low)) now.1)
      go false is now more = ((λ source addressee number. absurd (other source addressee)), more k low now)
        where
          other : it.source ≡ c.source → it.addressee ≡ c.addressee → ⊥
          other source addressee =
              let first : (c.source == it.source) ≡ true = equal_test c.source it.source (sym source) in
              let second : (c.addressee == it.addressee) ≡ true = equal_test c.addressee it.addressee (sym addressee) in
              let both : (c.source == it.source && c.addressee == it.addressee) ≡ true = (λ i. first i && second i) in
              let wrong : true ≡ false = sym both ∙ is in
              cc

pub keys_apart : (cs : List Consignment)
    → ((s a : ℕ) → AreNumbered (λ (it : Consignment). it.source == s && it.addressee == a) (λ it. it.number) cs) → IsAscending Apart cs
keys_apart cs counted = from (λ _ _. 1) cs counted
  where
    -- the numbers of each pair go on from some number
    from : (start : ℕ → ℕ → ℕ) (cs : List Consignment)
        → ((s a : ℕ) → IsCounted (start s a) (map (λ (it : Consignment). it.number) (filter (λ (it : Consignment). it.source == s && it.addressee == a) cs)))
        → IsAscending Apart cs
    from start [] counted = tt
    from start (it ∷ cs) counted =
        let its = λ (c : Consignment). c.source == it.source && c.addressee == it.addressee in
        let own : its it ≡ true = (λ i. same_test it.source i && same_test it.addressee i) in
        let first : IsCounted (start it.source it.addressee) (it.number ∷ map (λ (c : Consignment). c.number) (filter its cs)) =
        rw own at (counted it.source it.addressee) in (
          apart_from it (start it.source it.addressee + 1) cs (omega (arith, first.0)) first.1,
          from (λ s a. cond (it.source == s && it.addressee == a) (start s a + 1) (start s a)) cs
              (λ s a. next s a (it.source == s && it.addressee == a) (counted s a)),
        )
      where
        next : (s a : ℕ) (b : Bool)
            → IsCounted (start s a)
            (map (λ (it : Consignment). it.number)
            (cond b (it ∷ filter (λ (it : Consignment). it.source == s && it.addressee == a) cs)
            (filter (λ (it : Consignment). it.source == s && it.addressee == a) cs)))
            → IsCounted (cond b (start s a + 1) (start s a))
            (map (λ (it : Consignment). it.number) (filter (λ (it : Consignment). it.source == s && it.addressee == a) cs))
        next s a true h = h.1
        next s a false h = h
