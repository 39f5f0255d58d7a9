-- What the proofs on routes cite.
use Rattle.shop_types.proofs.Common.{◌≡◌, Bool, true, false, refl, List, ℕ, Option, Some, subst, Result, is_none, IsUtf8, is_utf8, false_from_ne_true}
use Rattle.shop_types.proofs.Common.{IsUtf8-from_is_utf8, is_utf8-from_IsUtf8}
use Rattle.std.specs.Prelude.{Ok, Err}
use Rattle.matchit.specs.Route.{Scan}
use Rattle.matchit.specs.Seek.{first}
use Rattle.matchit.specs.Router.{InsertsRead, RouteOf}
use Rattle.matchit.specs.declared.error.InsertError.{InsertError}
use Rattle.matchit.specs.declared.error.InsertError.TheVariants.{OutOfMemory, Conflict, InvalidParam, InvalidParamSegment, InvalidCatchAll}
use Rattle.counter_routes.specs.declared.paths.Route.{Route}
use Rattle.counter_routes.specs.Routes.{Rows, is_new, table, entries_of, begins_with_slash, has_question_mark, route_of}

-- with a text that reads and conflicts with nothing only memory can be lacking
pub only_memory : (x : Result Scan InsertError) (route : Route) (old new : Rows) (r : Result (Unit {0}) InsertError) (e : InsertError)
    → InsertsRead x route old new r → r ≡ Err e → is_new x old ≡ true → e ≡ OutOfMemory
only_memory (Err f) route old new r e h is fresh = absurd (cc fresh)
only_memory (Ok s) route old new (Ok u) e h is fresh = cc
only_memory (Ok s) route old new (Err OutOfMemory) e h is fresh = cc
only_memory (Ok s) route old new (Err (Conflict with)) e (same, (n, found, text)) is fresh =
    let P : Option (RouteOf Route) → Type 0 = λ o. is_none o ≡ true in
    let none = subst P found fresh in cc
only_memory (Ok s) route old new (Err InvalidParam) e h is fresh = absurd h.1
only_memory (Ok s) route old new (Err InvalidParamSegment) e h is fresh = absurd h.1
only_memory (Ok s) route old new (Err InvalidCatchAll) e h is fresh = absurd h.1

pub is_utf8-false : (bytes : List ℕ) → ¬ (IsUtf8 bytes) → is_utf8 bytes ≡ false
is_utf8-false bytes h = false_from_ne_true _ (λ e. h (IsUtf8-from_is_utf8 bytes e))

-- the route that a router of one method finds
pub found_is : (posts : Bool) (target : List ℕ) (rows : Rows) (found : RouteOf Route)
    → IsUtf8 target → true ≡ begins_with_slash target → false ≡ has_question_mark target
    → rows ≡ table (entries_of posts) → first rows target ≡ Some found → Some found.value ≡ route_of posts target
found_is posts target rows found text slash query same at =
    let text' = is_utf8-from_IsUtf8 target text in
    rw (text', ← slash, ← query, ← same, at) refl
