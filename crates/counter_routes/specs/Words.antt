-- What head office's words are: a JSON list of texts, and what they ask of a chain, to a reader of words.
use Rattle.std.specs.Prelude.{ℕ, ◌&&◌, Bool, List, [], ◌∷◌, Option, Some, None, is_none, option_and_then, codes, if◌then◌else◌}
use Rattle.std.specs.Str.{bytes_eq}
use Rattle.http_messages.specs.Message.{Message}
use Rattle.serde_json.specs.Data.{Data, Items, no_items, item}
use Rattle.serde_json.specs.Find.{as_str, as_array}
use Rattle.shop_model.specs.Values.{Text}
use Rattle.shop_model.specs.Machine.{Request, Office, OfficeLook}
use Rattle.shop_types.specs.Lines.{LineValue}
use Rattle.shop_types.specs.Seen.{seen_office, seen_office_ask}
use Rattle.shop_types.specs.declared.line.LineAct.{LineAct}
use Rattle.shop_types.specs.declared.line.LineAct.TheVariants as act
use Rattle.counter_routes.specs.Bodies.{◌>>=◌, body_of}

-- what words say to a reader of them, where they are a line
abbrev pub Meaning : Type 0
Meaning = List (List ℕ) → Option LineValue

-- the texts that the items are; an item of another kind is none
abbrev pub texts_in : Items → Option (List Text)
texts_in no_items = Some []
texts_in (item d ds) = do
  text ← as_str d
  texts ← texts_in ds
  Some (text ∷ texts)

-- the texts that a value lists, where it is a list and has nothing else
abbrev pub list_of_texts : Data → Option (List Text)
list_of_texts d = option_and_then texts_in (as_array d)

-- the texts that a body lists
abbrev pub texts_of : List ℕ → Option (List Text)
texts_of body = option_and_then list_of_texts (body_of body)

-- what a chain is asked for: a command or a reading of head office; what only the program can do is none
abbrev pub request_in : LineAct → Option Request
request_in (act.Office command) = Some (Office (seen_office command))
request_in (act.OfficeLook ask) = Some (OfficeLook (seen_office_ask ask))
request_in (act.Init token) = None
request_in act.Migrate = None
request_in (act.Serve port connections) = None
request_in act.Replay = None

-- what a line asks of a chain, where the line names no file
abbrev pub request_of_line : LineValue → Option Request
request_of_line line = if is_none line.db then request_in line.act else None

-- what the words ask of a chain
abbrev pub request_of_words : Meaning → List Text → Option Request
request_of_words meaning words = option_and_then request_of_line (meaning words)

-- head office sends its words by POST to this target alone
abbrev pub is_to_office : Message → Bool
is_to_office message = message.posts && bytes_eq message.target (codes "/office")
