-- What a message asks, of each caller.
use Rattle.std.specs.Prelude.{◌≡◌, ℕ, Bool, true, false, List, Option, Some, None, option_map, option_and_then, unwrap_or, if◌then◌else◌}
use Rattle.http_messages.specs.Message.{Message}
use Rattle.serde_json.specs.Data.{Data}
use Rattle.shop_model.specs.Values.{Text, Command, Ask, View, OneView}
use Rattle.shop_model.specs.Refusals as named
use Rattle.shop_model.specs.Machine.{Request, Unread, Do, Look}
use Rattle.shop_model.specs.Books.{Caller, Counter, HeadOffice, Nobody}
use Rattle.shop_types.specs.Seen.{seen_request, seen_refusal}
use Rattle.shop_types.specs.Replies.{has_fixed_body}
use Rattle.shop_types.specs.StockFiles.{is_stock_file}
use Rattle.counter_routes.specs.declared.paths.Route.{Route}
use Rattle.counter_routes.specs.declared.paths.Route.TheVariants as route
use Rattle.counter_routes.specs.declared.asked.Reading.{Reading}
use Rattle.counter_routes.specs.declared.asked.Reading.TheVariants.{Asked, Refused}
use Rattle.counter_routes.specs.Routes.{route_of}
use Rattle.counter_routes.specs.Bodies.{body_of}
use Rattle.counter_routes.specs.Commands.{command_in}
use Rattle.counter_routes.specs.Imports.{import_in}
use Rattle.counter_routes.specs.Looks.{look_in, view_in}
use Rattle.counter_routes.specs.Words.{Meaning, texts_of, request_of_words, is_to_office}

-- the request, or the refusal `bad_body` where there is none
abbrev pub or_bad_body : Option Request → Request
or_bad_body request = unwrap_or request (Unread named.BadBody)

-- the command that a body writes in that form
abbrev pub written_in : (Data → Option Command) → List ℕ → Option Command
written_in form body = option_and_then form (body_of body)

-- a command, or `bad_body` where none is written
abbrev pub command_or_bad : Option Command → Request
command_or_bad command = or_bad_body (option_map Do command)

-- a look, or `bad_body` where nothing is asked
abbrev pub look_or_bad : Option Ask → Request
look_or_bad ask = or_bad_body (option_map Look ask)

-- a view, or `no_route` where none has the name: that path has nothing to show
abbrev pub view_or_no_route : Option View → Request
view_or_no_route view = unwrap_or (option_map (λ it. Look (OneView it)) view) (Unread named.NoRoute)

-- what a message to that route asks
abbrev pub request_at : Message → Option Route → Request
request_at message None = Unread named.NoRoute
request_at message (Some (route.Command form)) = command_or_bad (written_in (command_in form) message.body)
request_at message (Some route.Import) = command_or_bad (import_in message.target message.body)
request_at message (Some (route.Look form)) = look_or_bad (look_in form message.target)
request_at message (Some route.View) = view_or_no_route (view_in message.target)

-- What a counter's message asks, where its body is no longer than a stock file may be. Of the body of a GET nothing else is looked at.
abbrev pub counter_request : Message → Request
counter_request message =
    if is_stock_file message.body then request_at message (route_of message.posts message.target) else Unread named.TooLong

-- what head office asks, or `usage` where the words ask a chain for nothing
abbrev pub office_or_usage : Option Request → Request
office_or_usage request = unwrap_or request (Unread named.Usage)

-- what head office's words ask, or `bad_body` where the body is no list of texts
abbrev pub words_request : Meaning → Option (List Text) → Request
words_request meaning words = or_bad_body (option_map (λ them. office_or_usage (request_of_words meaning them)) words)

-- What head office's message asks, where its body is no longer than one may be: it has one route, and there its words are read.
abbrev pub office_request : Meaning → Message → Request
office_request meaning message =
    if is_stock_file message.body
    then (if is_to_office message then words_request meaning (texts_of message.body) else Unread named.NoRoute)
    else Unread named.TooLong

-- what a message asks of that caller, where head office's words have that meaning; nobody asks anything
abbrev pub reading_of : Meaning → Message → Caller → Request
reading_of meaning message (Counter b) = counter_request message
reading_of meaning message HeadOffice = office_request meaning message
reading_of meaning message Nobody = Unread named.NoCounter

-- a command, which has a body
abbrev pub is_command : Option Route → Bool
is_command None = false
is_command (Some (route.Command form)) = true
is_command (Some route.Import) = true
is_command (Some (route.Look form)) = false
is_command (Some route.View) = false

-- reading the message takes memory: it is a counter's command, or has head office's words
abbrev pub takes_memory : Message → Caller → Bool
takes_memory message (Counter b) = is_command (route_of message.posts message.target)
takes_memory message HeadOffice = is_to_office message
takes_memory message Nobody = false

-- a reading is that request, or a refusal of a text that is none
abbrev pub Reads : Reading → Request → Type 0
Reads (Asked asked) request = seen_request asked ≡ request
Reads (Refused refusal) request =
    (decision : named.Refusal) × (seen_refusal refusal ≡ named.Decision decision) × (request ≡ Unread decision)
    × (has_fixed_body refusal ≡ true)
