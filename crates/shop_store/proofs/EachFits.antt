-- Why a list that is read row by row fails with `Failed`: the rows of sound books are such as the program can hold, so that none is refused.
use Rattle.shop_schema.proofs.Common.{◌≡◌, ◌≤◌, ◌<◌, ◌+◌, ◌-◌, ◌^◌, ℕ, suc, List, [], ◌∷◌, ◌++◌, map, filter, cond, length, Bool, true, false, Ok, Err, Result}
use Rattle.shop_schema.proofs.Common.{refl, sym, ap, ◌∙◌, arith}
use Rattle.shop_schema.proofs.Common.{AllByRecursion, IfErr, IsErrAnd}
use Rattle.shop_schema.proofs.Common.{Ghosts, Held, state, State, Query, Books, Holds, IsHeld, IsShared, numbered, numbered_from, shop_schema, StoreFault}
use Rattle.shop_schema.proofs.Common.{Failed}
use Rattle.sqlite_value.specs.Order as sql
use Rattle.sqlite.specs.State.{Shown}
use Rattle.sql_rows.specs.Causes.{IsReady, MetFaults, FailsToTake}
use Rattle.sql_rows.proofs.QueryFaults.{IsFine}
use Rattle.sql_rows.proofs.EachFaults.{take_met}
use Rattle.shop_schema.specs.Asked.{HoldsBooks}
use Rattle.shop_schema.proofs.Values.{number_fits}

-- ---- rows with the numbers of their places

pub length_numbered : {A : Type 0} (k : ℕ) (xs : List A) → length (numbered_from k xs) ≡ length xs
length_numbered k [] = refl
length_numbered k (x ∷ xs) = ap suc (length_numbered (k + 1) xs)

numbered_on : {A : Type 0} (Is : A → Type 0) (k : ℕ) (xs : List A) → 1 ≤ k → k + length xs ≤ 2 ^ 32 → AllByRecursion Is xs
    → AllByRecursion (IsShared Is) (numbered_from k xs)
numbered_on Is k [] low high all = tt
numbered_on Is k (x ∷ xs) low high all =
    ((number_fits k low (omega (arith, high)), all.0), numbered_on Is (k + 1) xs (omega (arith, low)) (omega (arith, high)) all.1)

pub numbered_fit : {A : Type 0} (Is : A → Type 0) (xs : List A) → length xs < 2 ^ 32 → AllByRecursion Is xs → AllByRecursion (IsShared Is) (numbered xs)
numbered_fit Is xs few all = numbered_on Is 1 xs (omega arith) (omega (arith, few)) all

pub length_filtered : {A : Type 0} (p : A → Bool) (xs : List A) → length (filter p xs) ≤ length xs
length_filtered p [] = omega arith
length_filtered {A} p (x ∷ xs) = either (p x) (length_filtered p xs)
  where
    either : (b : Bool) → length (filter p xs) ≤ length xs → length (cond b (x ∷ filter p xs) (filter p xs)) ≤ length (x ∷ xs)
    either true low = omega (arith, low)
    either false low = omega (arith, low)

-- ---- a fault that is passed on

pub passed_on : {Y : Type 0} {P : Type 0} (r : Result Y StoreFault) (e : StoreFault) → (e ≡ Failed → P) → IsErrAnd r (λ y. y ≡ e)
    → IfErr r (λ y. y ≡ Failed → P)
passed_on (Ok y) e met is = absurd is
passed_on (Err y) e met is = λ failed. met (sym is ∙ failed)

-- ---- a list

-- the rows of the books that a text shows, and what is known of them
pub record Shows {A : Type 0} (Fits : Books → A → Type 0) (columns : Books → A → sql.Row) (text : List ℕ) (params : sql.Row) (xs : Books → List A) :
    Type 1 where
  pub query : Query
  pub fine : IsFine shop_schema text query params
  pub shows : (old new : State) (books : Books) → Holds old books → IsHeld books
      → (rows : List sql.Row) → Shown text params old new rows → rows ≡ map (columns books) (xs books)
  pub few : (books : Books) → IsHeld books → length (xs books) < 2 ^ 128 - 1
  pub fit : (books : Books) → IsHeld books → AllByRecursion (Fits books) (xs books)

module _ {A : Type 0} {Fits : Books → A → Type 0} {columns : Books → A → sql.Row} {text : List ℕ} {params : sql.Row} {xs : Books → List A}
    (it : Shows Fits columns text params xs) {S T : Type 0} (g : Ghosts S) (Took : T → List sql.Row → Type 0) (Refuses : T → sql.Row → Type 0)
    (taker : T) (old new : Held S) where
  -- a taker that took some rows of the books doesn't refuse the next one
  pub each_met : ((books : Books) → IsHeld books → (before after : List A) (x : A) (now : T) → xs books ≡ before ++ x ∷ after
      → Fits books x → Took now (map (columns books) before) → ¬ Refuses now (columns books x))
      → Took taker [] → IsReady (state g old) → HoldsBooks (state g old) → (fault : StoreFault)
      → FailsToTake g Took Refuses taker text params old new fault → fault ≡ Failed → MetFaults (state g old) (state g new)
  each_met never start ready held =
      let books = held.0 in
      take_met shop_schema text it.query params it.fine g Took Refuses taker old new held.1.schema_is (columns books) (xs books) (Fits books)
      (it.shows (state g old) (state g new) books held.1 held.2) (it.few books held.2) (it.fit books held.2) start (never books held.2) ready
