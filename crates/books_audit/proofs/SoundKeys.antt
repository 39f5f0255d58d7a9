-- Sound books have no key twice.
use Rattle.shop_schema.proofs.Common.{◌≡◌, ◌∙◌, ◌+◌, ◌<◌, ◌==◌, ◌&&◌, ◌||◌, ℕ, List, [], ◌∷◌, map, filter, not, Bool, true, false, cond, refl, sym, ap, arith}
use Rattle.shop_schema.proofs.Common.{list_any, bytes_eq, nat_tests, nat_eq_equiv, Row, Owned, IsCounted, is_of, owned_by, are_different, Rules, Text, Kept}
use Rattle.shop_schema.proofs.Common.{Books, Consignment, IsSound, widest, same_test, rows_of}
use Rattle.audit_rows.proofs.Keys.{both, different-map, bytes_eq_symm}
use Rattle.audit_rows.proofs.MarkLemmas.{not_true}
use Rattle.audit_rows.proofs.Tests.{different_congr}
use Rattle.books_audit.specs.Audits.{HaveKeys, same_row}

-- rows that differ within each group are different
module _ {X : Type 0} (own num : X → X → Bool) (self : (x : X) → own x x ≡ true) where
  none_in : (x : X) (ys : List X) → list_any (num x) (filter (own x) ys) ≡ false → list_any (λ y. own x y && num x y) ys ≡ false
  none_in x [] h = refl
  none_in x (y ∷ ys) h = go (own x y) h (λ e. none_in x ys e)
    where
      split : (b : Bool) → (b || list_any (num x) (filter (own x) ys)) ≡ false
          → (list_any (num x) (filter (own x) ys) ≡ false → list_any (λ y. own x y && num x y) ys ≡ false)
          → (b || list_any (λ y. own x y && num x y) ys) ≡ false
      split true e more = cc
      split false e more = more e

      go : (t : Bool) → list_any (num x) (cond t (y ∷ filter (own x) ys) (filter (own x) ys)) ≡ false
          → (list_any (num x) (filter (own x) ys) ≡ false → list_any (λ y. own x y && num x y) ys ≡ false)
          → ((t && num x y) || list_any (λ y. own x y && num x y) ys) ≡ false
      go true e more = split (num x y) e more
      go false e more = more e

  pub groups_apart : (xs : List X) → ((x : X) → are_different num (filter (own x) xs) ≡ true) → are_different (λ x y. own x y && num x y) xs ≡ true
  groups_apart [] h = refl
  groups_apart (x ∷ xs) h =
      let here =
      both (not (list_any (num x) (filter (own x) xs))) (are_different num (filter (own x) xs))
      (ap (λ t. are_different num (cond t (x ∷ filter (own x) xs) (filter (own x) xs))) (sym (self x)) ∙ h x) in
      let none = none_in x xs (not_true (list_any (num x) (filter (own x) xs)) here.0) in
      (λ i. not (none i) && groups_apart xs (λ z. less z (own z x) (h z)) i)
    where
      less : (z : X) (t : Bool) → are_different num (cond t (x ∷ filter (own z) xs) (filter (own z) xs)) ≡ true → are_different num (filter (own z) xs) ≡ true
      less z true e = (both (not (list_any (num x) (filter (own z) xs))) (are_different num (filter (own z) xs)) e).1
      less z false e = e

-- numbers that count are different
module _ {X : Type 0} (number : X → ℕ) where
  none_again : (n k : ℕ) (ys : List X) → n < k → IsCounted k (map number ys) → list_any (λ y. n == number y) ys ≡ false
  none_again n k [] low h = refl
  none_again n k (y ∷ ys) low h =
      let other : (n == number y) ≡ false = apart (number y) h.0 in
      (λ i. other i || none_again n (k + 1) ys (omega (arith, low)) h.1 i)
    where
      apart : (m : ℕ) → m ≡ k → (n == m) ≡ false
      apart m e = grind (arith, nat_tests)

  counted_apart : (k : ℕ) (xs : List X) → IsCounted k (map number xs) → are_different (λ x y. number x == number y) xs ≡ true
  counted_apart k [] h = refl
  counted_apart k (x ∷ xs) h =
      let none = none_again (number x) (k + 1) xs (let e = h.0 in omega (arith, e)) h.1 in
      (λ i. not (none i) && counted_apart (k + 1) xs h.1 i)

rows_apart : {A : Type 0} (rows : List (Row A))
    → ((b : ℕ) → IsCounted 1 (map (λ (row : Row A). row.number) (filter (is_of b) rows))) → are_different same_row rows ≡ true
rows_apart {A} rows h =
    different_congr same_row _ (λ x y i. nat_eq_equiv.symm x.branch y.branch i && (x.number == y.number)) rows
    ∙ groups_apart (λ (x y : Row A). y.branch == x.branch) (λ x y. x.number == y.number) (λ x. same_test x.branch) rows
    (λ x. counted_apart (λ (row : Row A). row.number) 1 (filter (is_of x.branch) rows) (h x.branch))

owned_apart : {A : Type 0} (same : A → A → Bool) (rows : List (Owned A))
    → ((b : ℕ) → are_different same (map (λ (row : Owned A). row.it) (filter (λ row. row.owner == b) rows)) ≡ true)
    → are_different (λ (x y : Owned A). x.owner == y.owner && same x.it y.it) rows ≡ true
owned_apart {A} same rows h =
    different_congr _ (λ (x y : Owned A). y.owner == x.owner && same x.it y.it) (λ x y i. nat_eq_equiv.symm x.owner y.owner i && same x.it y.it) rows
    ∙ groups_apart (λ (x y : Owned A). y.owner == x.owner) (λ x y. same x.it y.it) (λ x. same_test x.owner) rows
    (λ x. sym (different-map same (λ (row : Owned A). row.it) (filter (λ row. row.owner == x.owner) rows)) ∙ h x.owner)

regrouped : (a b c d e : Bool) → a ≡ d → b ≡ e → (a && b && c) ≡ ((d && e) && c)
regrouped true b c d e p q = λ i. p i && q i && c
regrouped false b c d e p q = λ i. p i && q i && c

pub keys_of_sound : (rules : Rules) (books : Books) → IsSound (widest rules) books → HaveKeys books
keys_of_sound rules books sound = record {
  casts = sound.catalogue.single.casts;
  rows = λ t. rows_apart (rows_of books t) (sound.numbers.rows t);
  lots =
      owned_apart (λ (x y : Text). bytes_eq x y) books.lots
      (λ b. different_congr _ _ (λ x y. bytes_eq_symm x y) (owned_by b books.lots) ∙ (sound.links b).lots);
  consignments = consignments_apart;
  kept = owned_apart (λ (x y : Kept). bytes_eq x.command.key y.command.key) books.kept (λ b. (sound.links b).keys);
  office_kept = sound.catalogue.keys;
}
  where
    own : Consignment → Consignment → Bool
    own x y = y.source == x.source && y.addressee == x.addressee

    consignments_apart : are_different (λ (a b : Consignment). a.source == b.source && a.addressee == b.addressee && a.number == b.number) books.consignments
        ≡ true
    consignments_apart =
        different_congr _ (λ (x y : Consignment). own x y && (x.number == y.number))
        (λ x y. regrouped _ _ (x.number == y.number) _ _ (nat_eq_equiv.symm x.source y.source) (nat_eq_equiv.symm x.addressee y.addressee)) books.consignments
        ∙ groups_apart own (λ x y. x.number == y.number) (λ x i. same_test x.source i && same_test x.addressee i) books.consignments
        (λ x. counted_apart (λ (it : Consignment). it.number) 1 (filter (own x) books.consignments) (sound.numbers.consignments x.source x.addressee))
