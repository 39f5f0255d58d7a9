-- Why a query whose rows are taken one at a time fails with `Failed`: of sound rows the taker refuses none.
use Rattle.sql_rows.proofs.Common.{◌≡◌, ◌<◌, ◌≤◌, ◌^◌, ◌∙◌, ℕ, List, [], ◌∷◌, ◌++◌, map, length, ap, subst, sym, refl, arith, append_assoc, inl, inr}
use Rattle.sql_rows.proofs.Common.{Row, Query, Schema, Command, Held, Ghosts, state, State, IsUnchanged, IsOf, command_of}
use Rattle.sql_rows.proofs.Common.{AllByRecursion, flat_map, StoreFault, Database, Select}
use Rattle.std.specs.Prelude.{◌+◌, ◌-◌, ◌*◌}
use Rattle.std.proofs.Common.{suc, length-append}
use Rattle.sqlite.specs.Clock.{timed}
use Rattle.sqlite.specs.Listing.{understood}
use Rattle.sqlite.specs.State.{Shown, Begins}
use Rattle.sqlite.proofs.Callers.{EndsIn, begins_shown}
use Rattle.sql_rows.specs.declared.fault.StoreFault.TheVariants.{Failed}
use Rattle.sql_rows.specs.Causes.{IsReady, MetFaults, FailsToTake}
use Rattle.sql_rows.proofs.QueryFaults.{IsFine, told_at}
use Rattle.sql_rows.proofs.CallFaults.{met_behind}

length_mapped : {X Y : Type 0} (f : X → Y) (xs : List X) → length (map f xs) ≡ length xs
length_mapped f [] = refl
length_mapped f (x ∷ xs) = ap suc (length_mapped f xs)

never_long : {X Y : Type 0} (f : X → Y) (given rest : List Y) (xs : List X) (most : ℕ) → given ++ rest ≡ map f xs → length xs < most → most ≤ length given → ⊥
never_long f given rest xs most e few many = omega (arith, ap length e, length-append given rest, length_mapped f xs, few, many)

-- a list of images with one among them is of a list with one among it
split_at : {X Y : Type 0} (f : X → Y) (given rest : List Y) (row : Y) (xs : List X) → given ++ row ∷ rest ≡ map f xs
    → (before : List X) × (x : X) × (after : List X) × (given ≡ map f before) × (row ≡ f x) × (xs ≡ before ++ x ∷ after)
split_at f [] rest row [] e = absurd cc
split_at f [] rest row (x ∷ xs) e = ([], x, xs, refl, cc, refl)
split_at f (g ∷ given) rest row [] e = absurd cc
split_at f (g ∷ given) rest row (x ∷ xs) e =
    let head : g ≡ f x = cc in
    let tail : given ++ row ∷ rest ≡ map f xs = cc in
    let it = split_at f given rest row xs tail in
    (x ∷ it.0, it.1, it.2, (λ i. head i ∷ it.3 i), it.4, ap (λ l. x ∷ l) it.5)

-- what holds of all holds of one among them
all_among : {X : Type 0} (P : X → Type 0) (before after : List X) (x : X) → AllByRecursion P (before ++ x ∷ after) → P x
all_among P [] after x all = all.0
all_among P (b ∷ before) after x all = all_among P before after x all.1

-- each of a list brings no more than so many
pub few_of_each : {X Y : Type 0} (f : X → List Y) (most : ℕ) (xs : List X) → AllByRecursion (λ x. length (f x) ≤ most) xs
    → length (flat_map f xs) ≤ length xs * most
few_of_each f most [] all = omega arith
few_of_each f most (x ∷ xs) all =
    let rest = few_of_each f most xs all.1 in
    let one : (length xs + 1) * most ≡ length xs * most + most = grind arith in
    omega (arith, length-append (f x) (flat_map f xs), all.0, rest, one)

module _ (schema : Schema) (sql : List ℕ) (q : Query) (params : Row) (fine : IsFine schema sql q params) where
  -- a query with no table of its own making can be read to its end
  begun_shown : (old new : State) → IsOf schema old → IsUnchanged old new → (rows : List Row) → Begins sql params old rows
      → (rest : List Row) × Shown sql params old new (rows ++ rest)
  begun_shown old new has same rows begins =
      begins_shown sql params old new rows begins same
      (λ c db it source.
      let known = ap (λ (s : Schema). understood s sql) (sym has) in
      let is : c.command ≡ Select (record { lets = []; body = q }) fine.means.names = ap command_of (sym it.is) ∙ ap command_of (sym known) ∙ fine.means.is in
      subst (λ (k : Command). EndsIn k db (timed params c.formats it.now)) (sym is) tt)

  -- The rows that are shown are those of `xs`, which are few, and `Is` holds of each. A taker that took some of these doesn't refuse the next.
  pub take_met :
      {S T X : Type 0} (g : Ghosts S) (Took : T → List Row → Type 0) (Refuses : T → Row → Type 0)
      (taker : T) (old new : Held S) (has : IsOf schema (state g old)) (f : X → Row) (xs : List X) (Is : X → Type 0)
      → ((rows : List Row) → Shown sql params (state g old) (state g new) rows → rows ≡ map f xs)
      → length xs < 2 ^ 128 - 1 → AllByRecursion Is xs → Took taker []
      → ((before after : List X) (x : X) (it : T) → xs ≡ before ++ x ∷ after → Is x → Took it (map f before) → ¬ Refuses it (f x))
      → IsReady (state g old) → (fault : StoreFault) → FailsToTake g Took Refuses taker sql params old new fault
      → fault ≡ Failed → MetFaults (state g old) (state g new)
  take_met g Took Refuses taker old new has f xs Is shows few all start never ready fault (inl h) failed =
      let same = h.1 ready.is_open in
      let met =
      told_at schema sql q params fine (state g h.0) (state g new)
      (ap (λ (d : Database). d.schema) same.0.now_is ∙ has)
      (record { is_open = same.0.is_open; unlimited = h.2.limit ∙ ready.unlimited }) fault h.3 failed in
      met_behind (state g old) (state g h.0) (state g new) h.2.counts met
  take_met g Took Refuses taker old new has f xs Is shows few all start never ready fault (inr h) failed = elim (h.1 failed) [
    | inl one_row ↦ absurd (
        let more = begun_shown (state g old) (state g new) has h.0 (one_row.0 ++ one_row.1 ∷ []) one_row.3 in
        let rows = shows ((one_row.0 ++ one_row.1 ∷ []) ++ more.0) more.1 in
        let it = split_at f one_row.0 more.0 one_row.1 xs (sym (append_assoc one_row.0 (one_row.1 ∷ []) more.0) ∙ rows) in
        never it.0 it.2 it.1 one_row.2 it.5 (all_among Is it.0 it.2 it.1 (subst (AllByRecursion Is) it.5 all))
        (subst (Took one_row.2) it.3 (one_row.4 start)) (subst (Refuses one_row.2) it.4 one_row.5)
        )
    | inr many ↦ absurd (
        let more = begun_shown (state g old) (state g new) has h.0 many.0 many.1 in
        let rows = shows (many.0 ++ more.0) more.1 in
        never_long f many.0 more.0 xs (2 ^ 128 - 1) rows few many.2
        )
  ]
