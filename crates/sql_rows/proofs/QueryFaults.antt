-- Why a query fails with `Failed`: of a text, a schema and parameters that are known the database refuses nothing.
use Rattle.sql_rows.proofs.Common.{◌≡◌, ℕ, List, [], ◌∷◌, map, filter, length, append-nil, Bool, true, false, Some, Ok, Err, Result, slice_get, inl, inr, sym}
use Rattle.sql_rows.proofs.Common.{Join, Env, end, inner, left, counted, made, folded, ⊤}
use Rattle.sql_rows.proofs.Common.{ap, subst, subst₂, ◌∙◌, IsTrue, false≢true, IsPermutation, AllByRecursion, all-filter, all-permutation, Row, Trees, Key}
use Rattle.sql_rows.proofs.Common.{Term, Query, overlay, Schema, Command, Compiled, CompileError, Database, IsSourceOf, reads_listing, IsPlain, command_of}
use Rattle.sql_rows.proofs.Common.{State, Fails, FailsToShow, Error, StoreFault, IsToldOf, IsOf}
use Rattle.std.specs.Prelude.{nat_le, IfErr}
use Rattle.std.proofs.lemmas.Bool.{leb-true}
use Rattle.sqlite_keyed.proofs.ListLemmas.{all_map, all_weaker}
use Rattle.sqlite_trees.specs.declared.error.StoreError.{StoreError}
use Rattle.sqlite_trees.specs.declared.error.StoreError.TheVariants.{OutOfMemory, Io, Corrupt, Full, Broken, Unstorable}
use Rattle.sqlite_typing.specs.Types.{accepts_program}
use Rattle.sqlite_sql.specs.Program.{QueryOverflows}
use Rattle.sqlite.specs.Clock.{timed}
use Rattle.sqlite.specs.Effect.{RefusesToRead, RefusesQuery}
use Rattle.sqlite.specs.Listing.{understood}
use Rattle.sqlite.specs.State.{HasCause, IsNoStatement, IsNotRun, IsStatement, FailsToQuery, Shown, store_error}
use Rattle.sql_rows.specs.Fault.{fault_of, QueryGave}
use Rattle.sql_rows.specs.declared.fault.StoreFault.TheVariants.{Memory, Size, Failed}
use Rattle.sqlite_sql.specs.Query.{FoldOverflows, first}
use Rattle.sql_rows.proofs.Queries.{Selects, plain_query, joined_query}
use Rattle.sql_rows.specs.Causes.{IsReady, IsReadyInside, MetFaults, FailsToRead}

-- ---- an error of the store

cause_met : (old new : State) (too_big : Type 0) (cause : StoreError) → IsTrue old.is_open
    → fault_of (store_error cause) ≡ Failed → HasCause old new too_big cause → MetFaults old new
cause_met old new too_big OutOfMemory live failed has = absurd (let other : Memory ≡ Failed = failed in cc)
cause_met old new too_big Io live failed has = has
cause_met old new too_big Corrupt live failed has = has
cause_met old new too_big Full live failed has = has
cause_met old new too_big Broken live failed has = absurd (false≢true (sym has ∙ live))
cause_met old new too_big Unstorable live failed has = absurd (let other : Size ≡ Failed = failed in cc)

pub fault_met : (old new : State) (too_big : Type 0) (e : Error) → IsTrue old.is_open → Fails old new too_big e → fault_of e ≡ Failed → MetFaults old new
fault_met old new too_big e live h failed = cause_met old new too_big h.0 live (subst (λ (x : Error). fault_of x ≡ Failed) h.1 failed) h.2

-- ---- a query that is refused nothing

-- the text is one statement of so many bytes, with so many parameters, and doesn't read the time
abbrev pub IsOne : ℕ → ℕ → Result Compiled CompileError → Type 0
IsOne size count (Ok c) = (nat_le size c.tail ≡ true) × (length c.names ≡ count) × (c.formats ≡ [])
IsOne size count (Err e) = ⊥

-- the text means this query under the schema, takes such parameters, and has no sum
pub record IsFine (schema : Schema) (sql : List ℕ) (q : Query) (params : Row) : Type 0 where
  pub means : Selects schema sql q
  pub one : IsOne (length sql) (length params) (understood schema sql)
  pub typed : accepts_program schema [] q params ≡ true
  pub sumless : (db : Trees) → ¬ QueryOverflows q db params

-- the text is a statement, and is given its parameters
pub never_stated : (schema : Schema) (sql : List ℕ) (params : Row) → IsOne (length sql) (length params) (understood schema sql)
    → (old : State) → IsOf schema old → (e : Error) → ¬ IsNoStatement old sql params e
never_stated schema sql params one old has e (inl h) =
    subst (IsOne (length sql) (length params)) (subst (λ (s : Schema). understood s sql ≡ Err h.0) has h.1) one
never_stated schema sql params one old has e (inr h) =
    let fits = subst (IsOne (length sql) (length params)) (subst (λ (s : Schema). understood s sql ≡ Ok h.0) has h.1) one in
    elim h.2 [
      | inl tail ↦ tail.0 (leb-true (length sql) h.0.tail fits.0)
      | inr more ↦ elim more [ inl count ↦ count.0 (sym fits.1) | inr clock ↦ clock.0 fits.2 ]
    ]

module _ (schema : Schema) (sql : List ℕ) (q : Query) (params : Row) (fine : IsFine schema sql q params) (old new : State) (has : IsOf schema old) where
  never_refused : (e : Error) → IsReady old → ¬ RefusesQuery old.step_limit old.now (record { lets = []; body = q }) params e
  never_refused e ready (inl h) = false≢true (sym (subst (λ (s : Schema). accepts_program s [] q params ≡ false) has h.1) ∙ fine.typed)
  never_refused e ready (inr (inl h)) = fine.sumless (overlay old.now.trees []) h.1
  never_refused e ready (inr (inr h)) = let none = rw ready.unlimited at h.1 in cc

  never_unshown : (e : Error) → IsReady old → (c : Compiled) (it : IsStatement old sql params c)
      → ¬ FailsToShow old new sql c (timed params c.formats it.now) e c.returning
  never_unshown e ready c it h =
      let known = sym it.is ∙ ap (λ (s : Schema). understood s sql) has in
      let bare = subst IsPlain (sym known) fine.means.plain in
      let seen = rw (bare.0, bare.1, append-nil params) at h in
      let db : seen.0 ≡ old.now =
      subst (λ (b : Bool). IsSourceOf b old.now seen.0) (ap (λ (s : Schema). reads_listing s sql) has ∙ fine.means.unlisted) seen.1 in
      never_refused e ready (subst₂ (λ (k : Command) (d : Database). RefusesToRead old.step_limit k d params e) (ap command_of known ∙ fine.means.is) db seen.2)

  pub failure_met : IsReady old → (e : Error) → FailsToQuery sql params old new e → fault_of e ≡ Failed → MetFaults old new
  unfolding FailsToQuery IsNotRun
  failure_met ready e (inl (inl h)) failed = absurd (never_stated schema sql params fine.one old has e h.0)
  failure_met ready e (inl (inr h)) failed = fault_met old new ⊥ e ready.is_open h failed
  failure_met ready e (inr h) failed = absurd (never_unshown e ready h.0 h.1 h.2)

  -- inside a transaction
  pub query_met : IsReadyInside old → (e : Error) → QueryGave sql params old new e → fault_of e ≡ Failed → MetFaults old new
  query_met ready e (inl h) failed = failure_met ready.ready e h failed
  query_met ready e (inr late) failed = absurd (false≢true (sym late.3 ∙ ready.inside))

  -- as a fault that tells it
  pub told_met : IsReadyInside old → (fault : StoreFault) → IsToldOf (QueryGave sql params old new) fault → fault ≡ Failed → MetFaults old new
  told_met ready fault told failed = query_met ready told.0 told.2 (sym told.1 ∙ failed)

  -- outside a transaction
  pub told_at : IsReady old → (fault : StoreFault) → IsToldOf (FailsToQuery sql params old new) fault → fault ≡ Failed → MetFaults old new
  told_at ready fault told failed = failure_met ready told.0 told.2 (sym told.1 ∙ failed)

-- ---- a query of one table

pub no_sum : (tree : ℕ) (tests shown : List Term) (order : List (Term × Key)) (params : Row) (db : Trees)
    → ¬ QueryOverflows (plain_query tree tests shown order) db params
no_sum tree tests shown order params db (inl none) = none
no_sum tree tests shown order params db (inr some) = some.4

-- the last two premises are `refl` where the text and the parameters are known
pub fine_plain : {schema : Schema} {sql : List ℕ} {params : Row} (tree : ℕ) (tests shown : List Term) (order : List (Term × Key))
    → Selects schema sql (plain_query tree tests shown order)
    → IsOne (length sql) (length params) (understood schema sql) → accepts_program schema [] (plain_query tree tests shown order) params ≡ true
    → IsFine schema sql (plain_query tree tests shown order) params
fine_plain {params = params} tree tests shown order means one typed =
    record { means = means; one = one; typed = typed; sumless = no_sum tree tests shown order params }

-- ---- a query of tables that are joined

-- tables that are joined, and nothing that is made of them
abbrev pub IsJoined : Join → Type 0
IsJoined end = ⊤
IsJoined (inner t more) = IsJoined more
IsJoined (left t on more) = IsJoined more
IsJoined _ = ⊥

no_fold : (db : Trees) (from : Join) (env : Env) → IsJoined from → ¬ FoldOverflows db from env
no_fold db end env joined over = over
no_fold db (inner t more) env joined over = no_fold db more _ joined over.4
no_fold db (left t on more) env joined over = no_fold db more _ joined over.4
no_fold db (counted most from test more) env joined over = joined
no_fold db (made m more) env joined over = joined
no_fold db (folded from test all more) env joined over = joined
no_fold db (first from test order shown more) env joined over = joined

no_sum_joined : (from : Join) (tests shown : List Term) (order : List (Term × Key)) (params : Row) → IsJoined from → (db : Trees)
    → ¬ QueryOverflows (joined_query from tests shown order) db params
no_sum_joined from tests shown order params joined db (inl none) = none
no_sum_joined from tests shown order params joined db (inr over) = no_fold db from _ joined over

-- the last two premises are `refl` where the text and the parameters are known
pub fine_joined :
    {schema : Schema} {sql : List ℕ} {params : Row} (from : Join) (tests shown : List Term) (order : List (Term × Key))
    → Selects schema sql (joined_query from tests shown order) → IsJoined from → IsOne (length sql) (length params) (understood schema sql)
    → accepts_program schema [] (joined_query from tests shown order) params ≡ true → IsFine schema sql (joined_query from tests shown order) params
fine_joined {params = params} from tests shown order means joined one typed =
    record { means = means; one = one; typed = typed; sumless = no_sum_joined from tests shown order params joined }

-- ---- rows for which this holds

pub all_such : {X : Type 0} (Is : X → Type 0) (P : Row → Type 0) (f : X → Row) (p : X → Bool) (xs : List X) (rows : List Row)
    → IsPermutation (map f (filter p xs)) rows
    → AllByRecursion Is xs → ((x : X) → Is x → P (f x)) → AllByRecursion P rows
all_such Is P f p xs rows same all to =
    all-permutation P _ _ same (all_map P f (filter p xs) (all_weaker Is (λ x. P (f x)) to (filter p xs) (all-filter Is p xs all)))

pub first_such : (P : Row → Type 0) (rows : List Row) → AllByRecursion P rows → (row : Row) → Some row ≡ slice_get rows 0 → P row
first_such P [] all row at_first = absurd cc
first_such P (r ∷ rows) all row at_first = let same : r ≡ row = cc in subst P same all.0

-- ---- a result

pub err_then : {X : Type 0} (r : Result X StoreFault) (P Q : StoreFault → Type 0) → IfErr r P → ((e : StoreFault) → P e → Q e) → IfErr r Q
err_then (Ok x) P Q is to = tt
err_then (Err e) P Q is to = to e is

-- ---- the first row

-- if all rows that are shown are such, a reader that fails only at other rows doesn't fail at the first one
pub first_met :
    {Fails : Row → StoreFault → Type 0} (Is : Row → Type 0) (schema : Schema) (sql : List ℕ)
    (q : Query) (params : Row) (fine : IsFine schema sql q params) (old new : State)
    → IsOf schema old
    → ((row : Row) (fault : StoreFault) → Fails row fault → fault ≡ Failed → ¬ Is row)
    → ((rows : List Row) → Shown sql params old new rows → AllByRecursion Is rows)
    → IsReadyInside old → (fault : StoreFault) → FailsToRead Fails sql params old new fault → fault ≡ Failed → MetFaults old new
first_met Is schema sql q params fine old new has refuses such ready fault (inl told) failed =
    told_met schema sql q params fine old new has ready fault told failed
first_met Is schema sql q params fine old new has refuses such ready fault (inr h) failed =
    absurd (refuses h.2.0 fault h.2.2 failed (first_such Is h.0 (such h.0 h.1) h.2.0 h.2.1))
