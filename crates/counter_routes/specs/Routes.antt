-- Defines the routes of a counter's requests, and the route of a target.
use Rattle.std.specs.Prelude.{ℕ, Bool, true, false, ◌&&◌, ◌==◌, not, List, [], ◌∷◌, Option, None, Result, Ok, Err, option_map, map, is_none, if◌then◌else◌}
use Rattle.std.specs.List.{list_any}
use Rattle.std.specs.Str.{is_utf8}
use Rattle.matchit.specs.Rows.{RowsOf}
use Rattle.matchit.specs.Order.{placed}
use Rattle.matchit.specs.Seek.{first}
use Rattle.matchit.specs.Route.{Scan, parse_route}
use Rattle.matchit.specs.Router.{RouteOf, route_from, nearest}
use Rattle.matchit.specs.declared.error.InsertError.{InsertError}
use Rattle.counter_routes.specs.declared.paths.Route.{Route}
use Rattle.counter_routes.specs.declared.paths.Pattern.{Pattern}
use Rattle.counter_routes.specs.Commands.{post_entries}
use Rattle.counter_routes.specs.Looks.{get_entries}

-- the rows of a router
abbrev pub Rows : Type 0
Rows = RowsOf (RouteOf Route)

-- the rows with one route more, if the route's text can be read
abbrev pub with_route : Result Scan InsertError → Route → Rows → Rows
with_route (Ok s) value rows = placed (s.pattern, route_from s value) rows
with_route (Err e) value rows = rows

-- a text and its route
abbrev pub Entry : Type 0
Entry = List ℕ × Route

-- the rows with the given routes more
abbrev pub with_routes : Rows → List Entry → Rows
with_routes rows [] = rows
with_routes rows (p ∷ ps) = with_routes (with_route (parse_route p.0) p.1 rows) ps

-- the rows of only the given routes
unfoldable pub table : List Entry → Rows
table ps = with_routes [] ps

-- the text can be read, and conflicts with none of the rows
abbrev pub is_new : Result Scan InsertError → Rows → Bool
is_new (Ok s) rows = is_none (nearest s.pattern rows)
is_new (Err e) rows = false

abbrev pub are_new : Rows → List Entry → Bool
are_new rows [] = true
are_new rows (p ∷ ps) = is_new (parse_route p.0) rows && are_new (with_route (parse_route p.0) p.1 rows) ps

-- each text can be read, and no two routes conflict
unfoldable pub is_table : List Entry → Bool
is_table ps = are_new [] ps

-- the route of a path
abbrev pub route_in : List Entry → List ℕ → Option Route
route_in ps path = option_map (λ r. r.value) (first (table ps) path)

-- what a pattern of the code says
abbrev pub entry_of : Pattern → Entry
entry_of p = (p.0.now, p.1)

abbrev pub entries : List Pattern → List Entry
entries ps = map entry_of ps

-- the routes of one method
abbrev pub entries_of : Bool → List Entry
entries_of posts = if posts then post_entries else get_entries

abbrev pub begins_with_slash : List ℕ → Bool
begins_with_slash [] = false
begins_with_slash (b ∷ bs) = b == 47

abbrev pub has_question_mark : List ℕ → Bool
has_question_mark target = list_any (λ b. b == 63) target

-- UTF-8 that begins with a slash and has no question mark; a `%` stands for itself (our own profile)
abbrev pub is_path : List ℕ → Bool
is_path target = is_utf8 target && begins_with_slash target && not (has_question_mark target)

-- the route of a request, by its method and its target
abbrev pub route_of : Bool → List ℕ → Option Route
route_of posts target = if is_path target then route_in (entries_of posts) target else None
