-- Lemmas about rewarded customers: one payment or customer more, the payments of the month alone, and the customers by number.
use Rattle.shop_schema.proofs.Common.{◌≡◌, ◌≢◌, ◌∙◌, refl, sym, ap, inl, inr, arith, ℕ, ℤ, suc, ◌+◌, ◌<◌, ◌≤◌, List, [], ◌∷◌, ◌++◌, length, map, filter, take}
use Rattle.shop_schema.proofs.Common.{get_or, subst, cond, Ordering, Less, Equal, Greater, append_assoc, append-nil, Bool, true, false, Option, Some, None}
use Rattle.shop_schema.proofs.Common.{option_map, codes, decimal, nat_lt, sum_by, if◌then◌else◌, cases_Bool, nat_tests, map_more, sum_by-append, sum_by-cons}
use Rattle.shop_schema.proofs.Common.{nat_cmp_is, nat_cmp, numbered, numbered_from, Moment, Text, Payment, Rewards, numbers_text, object, Answer, answer_of}
use Rattle.shop_schema.proofs.Common.{accepted_answer, Catalogue, Shop, rewarded_in, rewarded, Shows, CustomersAre, look, one_more, more_yes, more_no}
use Rattle.shop_schema.proofs.Common.{differ_test, same_test}
use Rattle.std.specs.Prelude.{◌==◌, ◌&&◌, ◌*◌}
use Rattle.std.proofs.lemmas.List.{length-append}
use Rattle.std.proofs.lemmas.Map.Lookups.{exact_unsigned}
use Rattle.std.specs.BTreeMap.{BTreeMap, Updates, get, is_at}
use Rattle.std.specs.Option.{IfSome}
use Rattle.std.specs.Ordering.{is_eq}
use Rattle.balance_rule.specs.declared.rows.Paid.{Paid}
use Rattle.balance_rule.specs.Balance.{amount_of, paid_of}
use Rattle.balance_rule.specs.Rewards.{seen_days, is_on}
use Rattle.balance_rule.proofs.SumLemmas.{passes_are}
use Rattle.branch_reports.specs.declared.rewards.PaidSum.{PaidSum}
use Rattle.branch_reports.specs.Rewards.{AreSmall, AreSummed, is_paid_in, numbers_to, one_paid, paid_in, passes_for, rewarded_numbers, sum_or_none}

is_equal : (o : Ordering) → is_eq o ≡ true → o ≡ Equal
is_equal Less is = cc
is_equal Equal is = refl
is_equal Greater is = cc

-- ---- one row more of a list that is filtered row by row

pub taken : {A B : Type 0} (f : A → B) (rows : List A) (i : ℕ) (row : A) → i < length rows
    → row ≡ get_or rows i row → map f (take (i + 1) rows) ≡ map f (take i rows) ++ f row ∷ []
taken {A = A} f rows i row lt is = map_more f rows i row lt ∙ ap (λ (r : A). map f (take i rows) ++ f r ∷ []) (sym is)

-- ---- one customer more

-- the number after n isn't zero
pub number_is : (n c : ℕ) (found : Option ℕ) → found ≡ (if n + 1 == 0 then None else Some (n + 1)) → found ≡ Some c → c ≡ n + 1
number_is n c found made is =
    let some : (n + 1 == 0) ≡ false = differ_test (n + 1) 0 (omega arith) in
    let told : Some c ≡ Some (n + 1) = sym is ∙ made ∙ rw some refl in
    cc

next_number : (n : ℕ) → numbers_to (n + 1) ≡ numbers_to n ++ (n + 1) ∷ []
next_number n =
    let one : n + 1 ≡ suc n = omega arith in
    ap numbers_to one ∙ ap (λ (m : ℕ). numbers_to n ++ m ∷ []) (sym one)

pub rewarded_more : (month : ℤ × ℤ) (purchases cents n c : ℕ) (payments : List Payment) → c ≡ n + 1 → passes_for month purchases cents payments c ≡ true
    → rewarded_numbers month purchases cents (n + 1) payments ≡ rewarded_numbers month purchases cents n payments ++ c ∷ []
rewarded_more month purchases cents n c payments is passes =
    let next : numbers_to (n + 1) ≡ numbers_to n ++ c ∷ [] = next_number n ∙ ap (λ (k : ℕ). numbers_to n ++ k ∷ []) (sym is) in
    rw (next, one_more (passes_for month purchases cents payments) (numbers_to n) c, passes) refl

pub rewarded_same : (month : ℤ × ℤ) (purchases cents n c : ℕ) (payments : List Payment) → c ≡ n + 1 → passes_for month purchases cents payments c ≡ false
    → rewarded_numbers month purchases cents (n + 1) payments ≡ rewarded_numbers month purchases cents n payments
rewarded_same month purchases cents n c payments is fails =
    let next : numbers_to (n + 1) ≡ numbers_to n ++ c ∷ [] = next_number n ∙ ap (λ (k : ℕ). numbers_to n ++ k ∷ []) (sym is) in
    rw (next, one_more (passes_for month purchases cents payments) (numbers_to n) c, fails) refl

-- ---- the payments of the month alone

in_month : (month : ℤ × ℤ) (c : ℕ) (payments : List Payment)
    → filter (is_on month) (map paid_of (filter (λ (it : Payment). it.customer == c) (filter (is_paid_in month) payments)))
    ≡ filter (is_on month) (map paid_of (filter (λ (it : Payment). it.customer == c) payments))
in_month month c [] = refl
in_month month c (it ∷ payments) = let rest = in_month month c payments in elim (cases_Bool (is_on month (paid_of it))) [
  | inl on ↦ elim (cases_Bool (it.customer == c)) [
    | inl own ↦ rw (on, own, on) (ap (λ (ps : List Paid). paid_of it ∷ ps) rest)
    | inr other ↦ rw (on, other) rest
  ]
  | inr off ↦ elim (cases_Bool (it.customer == c)) [
    | inl own ↦ rw (off, own, off) rest
    | inr other ↦ rw (off, other) rest
  ]
]

month_alone : (month : ℤ × ℤ) (purchases cents n : ℕ) (payments : List Payment)
    → rewarded_numbers month purchases cents n (filter (is_paid_in month) payments) ≡ rewarded_numbers month purchases cents n payments
month_alone month purchases cents n payments =
    λ i.
    filter (λ (c : ℕ). nat_lt purchases (length (in_month month c payments i)) && nat_lt cents (sum_by amount_of (in_month month c payments i)))
    (numbers_to n)

-- ---- the customers by number

numbers_after : {A : Type 0} (k : ℕ) (xs : List A) → numbers_to k ++ map (λ (it : ℕ × A). it.0) (numbered_from (k + 1) xs) ≡ numbers_to (k + length xs)
numbers_after {A = A} k [] =
    let sum : k ≡ k + length {A = A} [] = omega arith in
    append-nil (numbers_to k) ∙ ap numbers_to sum
numbers_after {A = A} k (x ∷ xs) =
    let sum : k + 1 + length xs ≡ k + length (x ∷ xs) = omega arith in
    sym (append_assoc (numbers_to k) ((k + 1) ∷ []) (map (λ (it : ℕ × A). it.0) (numbered_from (k + 1 + 1) xs)))
    ∙ ap (λ (ns : List ℕ). ns ++ map (λ (it : ℕ × A). it.0) (numbered_from (k + 1 + 1) xs)) (sym (next_number k))
    ∙ numbers_after (k + 1) xs ∙ ap numbers_to sum

numbers_are : {A : Type 0} (xs : List A) → map (λ (it : ℕ × A). it.0) (numbered xs) ≡ numbers_to (length xs)
numbers_are xs =
    let sum : 0 + length xs ≡ length xs = omega arith in
    numbers_after 0 xs ∙ ap numbers_to sum

-- ---- the model's customers

rewarded_are : (month : ℤ × ℤ) (days : Option (ℕ × ℕ)) (shop : Shop) (purchases cents : ℕ) → Some month ≡ option_map seen_days days
    → rewarded_numbers month purchases cents (length shop.customers) shop.payments ≡ rewarded_in days shop purchases cents
rewarded_are month None shop purchases cents is = cc
rewarded_are month (Some days) shop purchases cents is =
    let same : month ≡ seen_days days = cc in
    λ i.
    filter (λ (c : ℕ). passes_are shop c days month purchases cents (map paid_of (filter (λ (it : Payment). it.customer == c) shop.payments)) same refl i)
    (sym (numbers_are shop.customers) i)

-- the customers found by the count of customers and by the payments of the month are the customers that the model names
pub found_are : (month : ℤ × ℤ) (days : Option (ℕ × ℕ)) (shop : Shop) (purchases cents n : ℕ) (payments : List Payment) (numbers : List ℕ)
    → Some month ≡ option_map seen_days days
    → n ≡ length shop.customers → payments ≡ filter (is_paid_in month) shop.payments
    → numbers ≡ rewarded_numbers month purchases cents n payments → numbers ≡ rewarded_in days shop purchases cents
found_are month days shop purchases cents n payments numbers is count of_month found =
    found ∙ (λ i. rewarded_numbers month purchases cents (count i) (of_month i)) ∙ month_alone month purchases cents (length shop.customers) shop.payments
    ∙ rewarded_are month days shop purchases cents is

-- ---- the thresholds

some_high : (n : ℕ) → n ≢ 0 → nat_lt 0 n ≡ true
some_high n isnt = grind (arith, nat_tests)

good_thresholds : (b : ℕ) (catalogue : Catalogue) (shop : Shop) (moment : Moment) (purchases cents : ℕ) → purchases ≢ 0 → cents ≢ 0
    → look b catalogue shop (Rewards moment purchases cents) ≡ Shows (CustomersAre (rewarded shop moment purchases cents))
good_thresholds b catalogue shop moment purchases cents some some_cents = rw (some_high purchases some, some_high cents some_cents) refl

-- an answer whose body lists the customers is the model's answer
pub rewards_told :
    (b : ℕ) (catalogue : Catalogue) (shop : Shop) (moment : Moment) (purchases cents : ℕ) (found numbers : List ℕ) (body : Text) (answer : Answer)
    → purchases ≢ 0 → cents ≢ 0
    → numbers ≡ found → found ≡ rewarded shop moment purchases cents
    → body ≡ object ((codes "count", decimal (length numbers)) ∷ (codes "customers", numbers_text numbers) ∷ []) → answer ≡ accepted_answer body
    → answer ≡ answer_of (look b catalogue shop (Rewards moment purchases cents))
rewards_told b catalogue shop moment purchases cents found numbers body answer some some_cents same named listed told =
    told ∙ ap accepted_answer listed ∙ ap (λ (ns : List ℕ). answer_of (Shows (CustomersAre ns))) (same ∙ named)
    ∙ ap answer_of (sym (good_thresholds b catalogue shop moment purchases cents some some_cents))

-- ---- sums by customer

abbrev summed : List Paid → PaidSum
summed paid = record { purchases = length paid; cents = sum_by amount_of paid }

one_longer : (paid : List Paid) (it : Paid) → summed (paid ++ it ∷ []) ≡ record { purchases = length paid + 1; cents = sum_by amount_of paid + it.amount }
one_longer paid it =
    let long = length-append paid (it ∷ []) in
    let sum = sum_by-append amount_of paid (it ∷ []) in
    let one : sum_by amount_of (it ∷ []) ≡ it.amount = sum_by-cons amount_of it [] ∙ omega arith in
    λ i. record { purchases = long i; cents = (sum ∙ ap (λ (n : ℕ). sum_by amount_of paid + n) one) i }

-- a different key isn't found for a key
apart : (a b : ℕ) → (a == b) ≡ false → is_at (nat_cmp a) b ≡ false
apart a b other = elim (cases_Bool (is_at (nat_cmp a) b)) [
  | inl is ↦
      let same : a ≡ b = exact_unsigned a b (is_equal (nat_cmp a b) is) in
      grind (arith, nat_tests)
  | inr isnt ↦ isnt
]

paid_own : (month : ℤ × ℤ) (c : ℕ) (payments : List Payment) (it : Payment) → (it.customer == c) ≡ true → is_on month (paid_of it) ≡ true
    → paid_in month c (payments ++ it ∷ []) ≡ paid_in month c payments ++ paid_of it ∷ []
paid_own month c payments it own on =
    ap (filter (is_on month)) (more_yes paid_of (λ (p : Payment). p.customer == c) payments it own)
    ∙ one_more (is_on month) (map paid_of (filter (λ (p : Payment). p.customer == c) payments)) (paid_of it) ∙ rw on refl

paid_off : (month : ℤ × ℤ) (c : ℕ) (payments : List Payment) (it : Payment)
    → is_on month (paid_of it) ≡ false → paid_in month c (payments ++ it ∷ []) ≡ paid_in month c payments
paid_off month c payments it off = elim (cases_Bool (it.customer == c)) [
  | inl own ↦ ap (filter (is_on month)) (more_yes paid_of (λ (p : Payment). p.customer == c) payments it own)
      ∙ one_more (is_on month) (map paid_of (filter (λ (p : Payment). p.customer == c) payments)) (paid_of it) ∙ rw off refl
  | inr other ↦ paid_other month c payments it other
]
  where
    paid_other : (month : ℤ × ℤ) (c : ℕ) (payments : List Payment) (it : Payment)
        → (it.customer == c) ≡ false → paid_in month c (payments ++ it ∷ []) ≡ paid_in month c payments
    paid_other month c payments it other = ap (filter (is_on month)) (more_no paid_of (λ (p : Payment). p.customer == c) payments it other)

-- a payment of another day changes no sum
pub sums_same : (month : ℤ × ℤ) (sums : BTreeMap ℕ PaidSum) (payments : List Payment) (it : Payment)
    → AreSummed month sums payments → is_on month (paid_of it) ≡ false
    → AreSummed month sums (payments ++ it ∷ [])
sums_same month sums payments it are off = λ c.
    are c ∙ ap summed (sym (paid_off month c payments it off))

-- a payment of the month changes only its customer's sum
pub sums_more : (month : ℤ × ℤ) (old new : BTreeMap ℕ PaidSum) (payments : List Payment) (it : Payment)
    → AreSummed month old payments → is_on month (paid_of it) ≡ true
    → Updates nat_cmp old new it.customer (Some (one_paid it.amount (get nat_cmp old it.customer))) → AreSummed month new (payments ++ it ∷ [])
sums_more month old new payments it are on updates = λ c.
    elim (cases_Bool (it.customer == c)) [
      | inl own ↦
          let same : it.customer ≡ c = grind (arith, nat_tests) in
          let there : get nat_cmp new it.customer ≡ Some (one_paid it.amount (get nat_cmp old it.customer)) =
          updates.0 it.customer
          ∙ ap (λ (o : Ordering). cond (is_eq o) (Some (one_paid it.amount (get nat_cmp old it.customer))) (get nat_cmp old it.customer))
          (sym (nat_cmp_is it.customer it.customer Equal refl)) in
          let more : PaidSum → PaidSum = λ sum. record { purchases = sum.purchases + 1; cents = sum.cents + it.amount } in
          let before = are it.customer in
          ap (λ (n : ℕ). sum_or_none (get nat_cmp new n)) (sym same) ∙ ap sum_or_none there ∙ ap more before
          ∙ sym (one_longer (paid_in month it.customer payments) (paid_of it))
          ∙ ap summed (sym (paid_own month it.customer payments it (same_test it.customer) on))
          ∙ ap (λ (n : ℕ). summed (paid_in month n (payments ++ it ∷ []))) same
      | inr other ↦
          let differ : is_at (nat_cmp it.customer) c ≡ false = apart it.customer c other in
          ap sum_or_none (updates.2 c differ) ∙ are c
          ∙ ap summed (sym (ap (filter (is_on month)) (more_no paid_of (λ (p : Payment). p.customer == c) payments it other)))
    ]

-- ---- bounds of the sums

weaker : (n m : ℕ) (sum : Option PaidSum) → n ≤ m → IfSome sum (λ it. (it.purchases ≤ n) × (it.cents ≤ 99999 * n))
    → IfSome sum (λ it. (it.purchases ≤ m) × (it.cents ≤ 99999 * m))
weaker n m None le small = tt
weaker n m (Some sum) le small = let few = small.0 in let low = small.1 in (omega (arith, few, le), omega (arith, low, le))

small_added : (n amount : ℕ) (sum : Option PaidSum) → amount ≤ 99999 → IfSome sum (λ it. (it.purchases ≤ n) × (it.cents ≤ 99999 * n))
    → ((one_paid amount sum).purchases ≤ n + 1) × ((one_paid amount sum).cents ≤ 99999 * (n + 1))
small_added n amount None low small = (omega arith, omega (arith, low))
small_added n amount (Some sum) low small = let few = small.0 in let less = small.1 in (omega (arith, few), omega (arith, less, low))

pub small_more : (n customer amount : ℕ) (old new : BTreeMap ℕ PaidSum) → amount ≤ 99999 → AreSmall n old
    → Updates nat_cmp old new customer (Some (one_paid amount (get nat_cmp old customer))) → AreSmall (n + 1) new
small_more n customer amount old new low small updates = λ c.
    let holds : Option PaidSum → Type 0 = λ found. IfSome found (λ it. (it.purchases ≤ n + 1) × (it.cents ≤ 99999 * (n + 1))) in
    let more : n ≤ n + 1 = omega arith in
    elim (cases_Bool (is_at (nat_cmp customer) c)) [
      | inl at_it ↦
          let there : get nat_cmp new c ≡ Some (one_paid amount (get nat_cmp old customer)) =
          updates.0 c ∙ ap (λ (b : Bool). cond b (Some (one_paid amount (get nat_cmp old customer))) (get nat_cmp old c)) at_it in
          subst holds (sym there) (small_added n amount (get nat_cmp old customer) low (small customer))
      | inr isnt ↦ subst holds (sym (updates.2 c isnt)) (weaker n (n + 1) (get nat_cmp old c) more (small c))
    ]
