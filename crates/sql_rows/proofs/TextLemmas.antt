-- A text that reads as a SELECT is a query under any schema.
use Rattle.sql_rows.proofs.Common.{◌≡◌, ℕ, List, [], Bool, true, false, None, Ok, Err, inl, inr, refl, subst, if◌then◌else◌, Row, Trees, Ghosts, Compiled}
use Rattle.sql_rows.proofs.Common.{CompileError, Schema, reads_listing, is_select, if_select, listing_schema, Held, state, HasGiven, HasBegun, Returns, State}
use Rattle.sql_rows.proofs.Common.{IsUnchanged, Survives, survives_weaker, ShowsOnly, IsQuery}
use Rattle.std.specs.Prelude.{Result}
use Rattle.sqlite_ast.specs.declared.Statement.{Statement}
use Rattle.sqlite_ast.specs.declared.Statement.TheVariants as written
use Rattle.sqlite_syntax.specs.declared.statement.Parsed.{Parsed}
use Rattle.sqlite_schema.specs.declared.command.Command.{Command}
use Rattle.sqlite_resolve.specs.declared.error.CompileError.TheVariants.{NoSuchTable}
use Rattle.sqlite_resolve.specs.Lowering.{Checked, and_then}
use Rattle.sqlite_resolve.specs.Compile.{first, compiled, planned, meaning, returning, timed, with_command}
use Rattle.sqlite.specs.Listing.{understood}
use Rattle.sqlite.specs.State.{CommitsShowing}

abbrev pub is_written_select : Statement → Bool
is_written_select (written.Select s) = true
is_written_select _ = false

-- what the text reads as, which no schema changes
pub record ReadsAsSelect (sql : List ℕ) : Type 0 where
  pub parsed : Parsed
  pub is : first sql ≡ Ok parsed
  pub selects : is_written_select parsed.statement ≡ true
  pub untimed : parsed.formats ≡ []

shows_found : (p : Parsed) (formats : List (List ℕ)) (c : Checked Command) → formats ≡ []
    → ShowsOnly (and_then (and_then (and_then c (λ it. Ok (it, None))) (λ found. Ok (formats, found))) (λ plan. Ok (with_command p plan)))
shows_found p formats (Ok it) none = (refl, none)
shows_found p formats (Err e) none = tt

shows_select : (schema : Schema) (p : Parsed) (s : Statement) → p.statement ≡ s → is_written_select s ≡ true
    → p.formats ≡ [] → ShowsOnly (and_then (planned schema p) (λ plan. Ok (with_command p plan)))
unfolding planned meaning returning timed
shows_select schema p (written.Select s) is selects none = rw is (shows_found p p.formats _ none)
shows_select schema p _ is selects none = absurd (cc)

shows_compiled : (sql : List ℕ) → ReadsAsSelect sql → (schema : Schema) → ShowsOnly (compiled schema sql)
unfolding compiled
shows_compiled sql it schema = rw it.is (shows_select schema it.parsed it.parsed.statement refl it.selects it.untimed)

shows_listing : (r : Result Compiled CompileError) → ShowsOnly r → ShowsOnly (if_select r)
shows_listing (Ok c) shows = by_kind (is_select c.command)
  where
    by_kind : (b : Bool) → ShowsOnly (if b then Ok c else Err NoSuchTable)
    by_kind true = shows
    by_kind false = tt
shows_listing (Err e) shows = tt

pub is_query : (sql : List ℕ) → ReadsAsSelect sql → IsQuery sql
unfolding understood
is_query sql it schema = either (reads_listing schema sql)
  where
    either : (b : Bool) → ShowsOnly (if b then if_select (compiled listing_schema sql) else compiled schema sql)
    either true = shows_listing (compiled listing_schema sql) (shows_compiled sql it listing_schema)
    either false = shows_compiled sql it schema

-- ---- what follows of a query

never_shows : (r : Result Compiled CompileError) → ShowsOnly r → ¬ Returns r
never_shows (Ok c) shows some = absurd (let none = rw shows.0 at some in cc)
never_shows (Err e) shows some = some

pub begun_query : {S : Type 0} (g : Ghosts S) (sql : List ℕ) (params : Row) (old new : Held S) → IsQuery sql → HasBegun g sql params old new
    → HasGiven g sql params new [] × IsUnchanged (state g old) (state g new)
begun_query g sql params old new query (inl h) = h
begun_query g sql params old new query (inr h) = absurd (never_shows _ (query old.schema) h.0)

query_commits : (sql : List ℕ) (params : Row) (s : State) (db : Trees) → IsQuery sql → ¬ CommitsShowing sql params s db
unfolding CommitsShowing
query_commits sql params s db query h = never_shows (Ok h.0) (subst ShowsOnly h.1.is (query s.now.schema)) h.2

pub commits_nothing : (sql : List ℕ) (params : Row) (old new : State) → IsQuery sql
    → Survives old new (CommitsShowing sql params old) → Survives old new (λ _. ⊥)
commits_nothing sql params old new query = survives_weaker old new _ _ (λ _ db. query_commits sql params old db query)
