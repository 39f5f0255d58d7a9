-- The counts of the books themselves: which row has which, and what a new row makes of them.
use Rattle.shop_schema.proofs.Common.{◌≡◌, ◌+◌, ◌<◌, ◌≤◌, ◌^◌, ◌==◌, ◌&&◌, ℕ, suc, List, [], ◌∷◌, ◌++◌, map, filter, length, true, false, Bool, cond, Some}
use Rattle.shop_schema.proofs.Common.{refl, sym, ap, subst, ◌∙◌, arith, IsPermutation, slice_get, AllByRecursion, all_map, all_weaker, cases_Bool, inl, inr}
use Rattle.shop_schema.proofs.Common.{nat_tests, column, all-slice_get, PicksOne, number_value, same_number, numbered, Branch, Books, same_if, IsHeld, Count}
use Rattle.shop_schema.proofs.Common.{Counts, is_count, count_in, branch_counts, office_count, counts_of, State, StandsWith, AreTermed, Holds, HoldsWith}
use Rattle.shop_schema.proofs.Common.{all-permutation, Customers, CopyRows, Rentals, Payments, at, lacks, is_empty, length_map, true≢false}
use Rattle.std.specs.Prelude.{flat_map}
use Rattle.sqlite_value.specs.Order as sql
use Rattle.shop_schema.proofs.Stands.{with_own, for_own}
use Rattle.shop_schema.proofs.Lasts.{numbered_once}
use Rattle.shop_schema.proofs.Numbers.{numbered_at}
use Rattle.shop_ledger.specs.declared.counts.CountKind.{CountKind}
use Rattle.shop_ledger.specs.declared.counts.CountKind.TheVariants as kind
use Rattle.shop_ledger.specs.Counted.{kind_number, CountsOnce}

pub not_office : (b : ℕ) → 1 ≤ b → (0 == b) ≡ false
not_office b low = grind (arith, nat_tests)

-- ---- each count of a branch's rows of the kind is the books'

abbrev IsRight : ℕ → ℕ → Books → Count → Type 0
IsRight b k books c = is_count b k c ≡ true → c.last ≡ count_in k b books

one_right : (b k a j : ℕ) (books : Books) → (a == b && j == k) ≡ true → count_in j a books ≡ count_in k b books
one_right b k a j books h = go (a == b) refl (j == k) refl h
  where
    go : (s : Bool) → (a == b) ≡ s → (t : Bool) → (j == k) ≡ t → (s && t) ≡ true → count_in j a books ≡ count_in k b books
    go true p true q e = λ i. count_in (same_if j k q i) (same_if a b p i) books
    go true p false q e = cc
    go false p t q e = cc

branches_right : (b k : ℕ) (books : Books) (its : List (ℕ × Branch)) → AllByRecursion (IsRight b k books) (flat_map (branch_counts books) its)
branches_right b k books [] = tt
branches_right b k books (it ∷ its) = (
  one_right b k it.0 0 books,
  (one_right b k it.0 1 books, (one_right b k it.0 2 books, (one_right b k it.0 3 books, (one_right b k it.0 4 books, branches_right b k books its)))),
)

office_apart : (b k : ℕ) → 1 ≤ b → (0 == b && 4 == k) ≡ true → ⊥
office_apart b k low h = go (0 == b) (not_office b low) h
  where
    go : (s : Bool) → s ≡ false → (s && 4 == k) ≡ true → ⊥
    go true p e = cc
    go false p e = cc

counts_right : (b k : ℕ) (books : Books) → 1 ≤ b → AllByRecursion (IsRight b k books) (counts_of books).counters
counts_right b k books low = (λ h. absurd (office_apart b k low h), branches_right b k books (numbered books.catalogue.branches))

abbrev last_value : Count → sql.Row
last_value c = number_value c.last ∷ []

-- what holds of each that passes
kept_all : {X : Type 0} (P : X → Type 0) (p : X → Bool) (xs : List X) → AllByRecursion (λ x. p x ≡ true → P x) xs → AllByRecursion P (filter p xs)
kept_all P p [] all = tt
kept_all P p (x ∷ xs) all = elim (cases_Bool (p x)) [
  | inl is ↦ rw is (all.0 is, kept_all P p xs all.1)
  | inr isnt ↦ rw isnt (kept_all P p xs all.1)
]

-- each count of the kind is the number that the books give
pub all_lasts : (b k : ℕ) (books : Books) → 1 ≤ b
    → AllByRecursion (λ (c : Count). c.last ≡ count_in k b books) (filter (is_count b k) (counts_of books).counters)
all_lasts b k books low = kept_all _ (is_count b k) (counts_of books).counters (counts_right b k books low)

-- so `f` of the count is `g` of that number
all_told : {Y : Type 0} (f : Count → Y) (g : ℕ → Y) → ((c : Count) → f c ≡ g c.last) → (b k : ℕ) (books : Books) → 1 ≤ b
    → AllByRecursion (λ y. y ≡ g (count_in k b books)) (map f (filter (is_count b k) (counts_of books).counters))
all_told f g same b k books low =
    let counters = (counts_of books).counters in
    all_map _ f (filter (is_count b k) counters)
    (all_weaker (λ (c : Count). c.last ≡ count_in k b books) _ (λ c is. same c ∙ ap g is)
    (filter (is_count b k) counters) (all_lasts b k books low))

-- each row that is shown of the counts has the number that the books give
pub all_counts : (b k : ℕ) (books : Books) (rows : List sql.Row) → 1 ≤ b
    → IsPermutation (map last_value (filter (is_count b k) (counts_of books).counters)) rows
    → AllByRecursion (λ vs. vs ≡ number_value (count_in k b books) ∷ []) rows
all_counts b k books rows low same = all-permutation _ _ rows same (all_told last_value (λ last. number_value last ∷ []) (λ c. refl) b k books low)

-- the first row has the number that the books give
pub told_count : (b k : ℕ) (books : Books) (rows : List sql.Row) (row : sql.Row) (n : ℕ) → 1 ≤ b
    → IsPermutation (map last_value (filter (is_count b k) (counts_of books).counters)) rows
    → slice_get rows 0 ≡ Some row → column row 0 ≡ number_value n → n ≡ count_in k b books
told_count b k books rows row n low same some is =
    let P : sql.Row → Type 0 = λ vs. vs ≡ number_value (count_in k b books) ∷ [] in
    let one : row ≡ number_value (count_in k b books) ∷ [] = all-slice_get P rows 0 row some (all_counts b k books rows low same) in
    same_number _ _ (sym is ∙ ap (λ r. column r 0) one)

-- the count raised by `m` is the number that the books give, plus `m`
pub told_more : (b k m : ℕ) (books : Books) (n : ℕ) → 1 ≤ b
    → map (λ (c : Count). c.last + m) (filter (is_count b k) (counts_of books).counters) ≡ n ∷ [] → n ≡ count_in k b books + m
told_more b k m books n low is =
    let all : AllByRecursion (λ p. p ≡ count_in k b books + m) (n ∷ []) =
    subst (AllByRecursion (λ p. p ≡ count_in k b books + m)) is (all_told (λ c. c.last + m) (λ last. last + m) (λ c. refl) b k books low) in
    all.0

-- ---- there is one of each kind

per_branch : (kind : CountKind) (b : ℕ) (books : Books) (it : ℕ × Branch) (rest : List Count) (t : Bool) → (it.0 == b) ≡ t
    → length (filter (is_count b (kind_number kind)) (branch_counts books it ++ rest))
    ≡ cond t (suc (length (filter (is_count b (kind_number kind)) rest))) (length (filter (is_count b (kind_number kind)) rest))
per_branch kind.Customers b books it rest true e = rw e refl
per_branch kind.Customers b books it rest false e = rw e refl
per_branch kind.Copies b books it rest true e = rw e refl
per_branch kind.Copies b books it rest false e = rw e refl
per_branch kind.Rentals b books it rest true e = rw e refl
per_branch kind.Rentals b books it rest false e = rw e refl
per_branch kind.Payments b books it rest true e = rw e refl
per_branch kind.Payments b books it rest false e = rw e refl
per_branch kind.Kept b books it rest true e = rw e refl
per_branch kind.Kept b books it rest false e = rw e refl

as_many : (kind : CountKind) (b : ℕ) (books : Books) (its : List (ℕ × Branch))
    → length (filter (is_count b (kind_number kind)) (flat_map (branch_counts books) its)) ≡ length (filter (λ (it : ℕ × Branch). it.0 == b) its)
as_many kind b books [] = refl
as_many kind b books (it ∷ its) =
    let mine = length (filter (is_count b (kind_number kind)) (flat_map (branch_counts books) its)) in
    per_branch kind b books it (flat_map (branch_counts books) its) (it.0 == b) refl
    ∙ elim (it.0 == b) as
    (λ t. cond t (suc mine) mine ≡ length (cond t (it ∷ filter (λ (it : ℕ × Branch). it.0 == b) its) (filter (λ (it : ℕ × Branch). it.0 == b) its)))
    [ true ↦ ap suc (as_many kind b books its) | false ↦ as_many kind b books its ]

without_office : (b k : ℕ) (books : Books) (rest : List Count) → 1 ≤ b → filter (is_count b k) (office_count books ∷ rest) ≡ filter (is_count b k) rest
without_office b k books rest low =
    ap (λ s. cond (s && 4 == k) (office_count books ∷ filter (is_count b k) rest) (filter (is_count b k) rest)) (not_office b low)

-- a branch that is there has its count of each kind
pub there_counted : (kind : CountKind) (b : ℕ) (books : Books) → 1 ≤ b → lacks books.catalogue.branches b ≡ false
    → 1 ≤ length (filter (is_count b (kind_number kind)) (counts_of books).counters)
there_counted kind b books low there =
    let its = numbered books.catalogue.branches in
    let found = at b books.catalogue.branches in
    subst (λ (n : ℕ). 1 ≤ n)
    (sym (ap length (without_office b (kind_number kind) books (flat_map (branch_counts books) its) low) ∙ as_many kind b books its
    ∙ ap length (numbered_at b books.catalogue.branches) ∙ length_map (λ (branch : Branch). (b, branch)) found))
    (some_there found there)
  where
    some_there : (found : List Branch) → is_empty found ≡ false → 1 ≤ length found
    some_there [] none = absurd (true≢false none)
    some_there (branch ∷ found) some = omega arith

once_counted : (kind : CountKind) (b : ℕ) (books : Books) → 1 ≤ b → PicksOne (is_count b (kind_number kind)) (counts_of books).counters
once_counted kind b books low =
    let k = kind_number kind in
    let its = numbered books.catalogue.branches in
    subst (λ (n : ℕ). n ≤ 1) (sym (ap length (without_office b k books (flat_map (branch_counts books) its) low) ∙ as_many kind b books its))
    (numbered_once 1 books.catalogue.branches b)

-- ---- and none is great

-- if no branch has too many rows of a kind, each count can be raised by one
pub small_once : (kind : CountKind) (b : ℕ) (books : Books) → 1 ≤ b → length books.catalogue.kept < 2 ^ 32
    → ((kind : CountKind) (a : ℕ) → count_in (kind_number kind) a books < 2 ^ 32)
    → CountsOnce b kind (counts_of books)
small_once this b books low office small = record { once = once_counted this b books low; small = (office, branches_small (numbered books.catalogue.branches)) }
  where
    branches_small : (its : List (ℕ × Branch)) → AllByRecursion (λ (c : Count). c.last < 2 ^ 32) (flat_map (branch_counts books) its)
    branches_small [] = tt
    branches_small (it ∷ its) =
        (small kind.Customers it.0, (small kind.Copies it.0, (small kind.Rentals it.0, (small kind.Payments it.0, (small kind.Kept it.0, branches_small its)))))

pub held_few : (books : Books) → IsHeld books → (kind : CountKind) (a : ℕ) → count_in (kind_number kind) a books ≤ 1_000_000
held_few books held kind.Customers a = held.most_rows Customers a
held_few books held kind.Copies a = held.most_rows CopyRows a
held_few books held kind.Rentals a = held.most_rows Rentals a
held_few books held kind.Payments a = held.most_rows Payments a
held_few books held kind.Kept a = held.most_kept a

held_small : (books : Books) → IsHeld books → (kind : CountKind) (a : ℕ) → count_in (kind_number kind) a books < 2 ^ 32
held_small books held kind a = let few = held_few books held kind a in omega (arith, few)

-- so it is of the books' own counts
pub held_once : (books : Books) → IsHeld books → (kind : CountKind) (b : ℕ) → 1 ≤ b → CountsOnce b kind (counts_of books)
held_once books held kind b low = small_once kind b books low (let few = held.most_office_kept in omega (arith, few)) (held_small books held)

-- ---- between two commands the counts are the books' own

pub beside : (s : State) (books : Books) → Holds s books → HoldsWith (counts_of books) s books
beside s books h = record { schema_is = h.schema_is; keyed = h.keyed; stands = with_own s.now.trees books h.stands }

pub agreed : (s : State) (books : Books) (counts : Counts) → counts_of books ≡ counts → AreTermed books → HoldsWith counts s books → Holds s books
agreed s books counts same termed h =
    record {
      schema_is = h.schema_is;
      keyed = h.keyed;
      stands = for_own s.now.trees books termed (subst (λ c. StandsWith c s.now.trees books) (sym same) h.stands);
    }
