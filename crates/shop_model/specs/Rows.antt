-- Lists of rows: found and set by number, put last.
use Rattle.std.specs.Prelude.{◌≡◌, ⊤, ℕ, ◌+◌, ◌-◌, ◌==◌, ◌&&◌, ◌||◌, Bool, true, false, not, if◌then◌else◌, List, [], ◌∷◌, ◌++◌, length, map, filter}

-- the row of a number, counted from 1, where there is one
abbrev pub at : {A : Type 0} → ℕ → List A → List A
at n [] = []
at n (x ∷ xs) = if n == 1 then x ∷ [] else at (n - 1) xs

abbrev pub is_empty : {A : Type 0} → List A → Bool
is_empty [] = true
is_empty (x ∷ xs) = false

-- the list has no row of that number
abbrev pub lacks : {A : Type 0} → List A → ℕ → Bool
lacks xs n = is_empty (at n xs)

abbrev pub set_at : {A : Type 0} → ℕ → (A → A) → List A → List A
set_at n f [] = []
set_at n f (x ∷ xs) = if n == 1 then f x ∷ xs else x ∷ set_at (n - 1) f xs

-- the same, counting only the rows that pass a test
abbrev pub set_among : {A : Type 0} → (A → Bool) → ℕ → (A → A) → List A → List A
set_among p n f [] = []
set_among p n f (x ∷ xs) = if p x then (if n == 1 then f x ∷ xs else x ∷ set_among p (n - 1) f xs) else x ∷ set_among p n f xs

-- each row that passes the test is changed
abbrev pub update_where : {A : Type 0} → (A → Bool) → (A → A) → List A → List A
update_where p f xs = map (λ x. if p x then f x else x) xs

-- each row with its number
abbrev pub numbered_from : {A : Type 0} → ℕ → List A → List (ℕ × A)
numbered_from n [] = []
numbered_from n (x ∷ xs) = (n, x) ∷ numbered_from (n + 1) xs

abbrev pub numbered : {A : Type 0} → List A → List (ℕ × A)
numbered xs = numbered_from 1 xs

abbrev pub mem : ℕ → List ℕ → Bool
mem n [] = false
mem n (m ∷ ms) = m == n || mem n ms

abbrev pub has_double : List ℕ → Bool
has_double [] = false
has_double (n ∷ ns) = mem n ns || has_double ns

abbrev pub total : {A : Type 0} → (A → ℕ) → List A → ℕ
total w [] = 0
total w (x ∷ xs) = w x + total w xs

-- the items whose positions aren't missing, in their order
abbrev pub arrived : {A : Type 0} → List ℕ → List A → List A
arrived missing items = map (λ it. it.1) (filter (λ it. not (mem it.0 missing)) (numbered items))

-- ---- rows of all branches in one list

-- a row with its branch column and its number column
pub record Row (A : Type 0) : Type 0 where
  pub branch : ℕ
  pub number : ℕ
  pub it : A

-- a row that has an owner and no number
pub record Owned (A : Type 0) : Type 0 where
  pub owner : ℕ
  pub it : A

abbrev pub is_of : {A : Type 0} → ℕ → Row A → Bool
is_of b row = row.branch == b

abbrev pub is_row : {A : Type 0} → ℕ → ℕ → Row A → Bool
is_row b n row = row.branch == b && row.number == n

-- what one branch has, in the order of its numbers
abbrev pub of : {A : Type 0} → ℕ → List (Row A) → List A
of b rows = map (λ row. row.it) (filter (is_of b) rows)

abbrev pub owned_by : {A : Type 0} → ℕ → List (Owned A) → List A
owned_by b rows = map (λ row. row.it) (filter (λ row. row.owner == b) rows)

-- the number of a branch's rows plus one
abbrev pub next : {A : Type 0} → ℕ → List (Row A) → ℕ
next b rows = length (of b rows) + 1

-- a new row of a branch goes last; what it is may name its number
abbrev pub put : {A : Type 0} → ℕ → (ℕ → A) → List (Row A) → List (Row A)
put b make rows = rows ++ record { branch = b; number = next b rows; it = make (next b rows) } ∷ []

abbrev pub put_all : {A : Type 0} → ℕ → List (ℕ → A) → List (Row A) → List (Row A)
put_all b [] rows = rows
put_all b (make ∷ makes) rows = put_all b makes (put b make rows)

abbrev pub set_row : {A : Type 0} → ℕ → ℕ → (A → A) → List (Row A) → List (Row A)
set_row b n f rows = update_where (is_row b n) (λ row. record row { it = f row.it }) rows

abbrev pub set_rows : {A : Type 0} → ℕ → List ℕ → (A → A) → List (Row A) → List (Row A)
set_rows b [] f rows = rows
set_rows b (n ∷ ns) f rows = set_rows b ns f (set_row b n f rows)

abbrev pub set_all : {A : Type 0} → List ℕ → (A → A) → List A → List A
set_all [] f xs = xs
set_all (n ∷ ns) f xs = set_all ns f (set_at n f xs)

-- the numbers are k, k + 1, ..
abbrev pub IsCounted : ℕ → List ℕ → Type 0
IsCounted k [] = ⊤
IsCounted k (n ∷ ns) = (n ≡ k) × IsCounted (k + 1) ns

-- the rows that pass the test are numbered from 1 without a gap or a double
abbrev pub AreNumbered : {A : Type 0} → (A → Bool) → (A → ℕ) → List A → Type 0
AreNumbered p number xs = IsCounted 1 (map number (filter p xs))
