-- What words do to the book that a program holds. The book is held from word to word.
use Rattle.std.specs.Prelude.{◌≡◌, ◌≢◌, ◌⊎◌, ◌++◌, ℕ, Bool, List, codes, string_bytes, Option, Some, None, IfSome}
use Rattle.std.specs.Option.{option_or}
use Rattle.sqlite.specs.Files.{file_state}
use Rattle.sqlite.specs.State.{HasCleanDisk}
use Rattle.shop_model.specs.Values.{Text}
use Rattle.shop_types.specs.declared.command.Act.TheVariants as asked
use Rattle.till_book.specs.Steps.{Stays}
use Rattle.shop_types.specs.declared.person.Person.{Person}
use Rattle.till_requests.specs.SheetRows.{number_in_sheet}
use Rattle.till_requests.specs.declared.zones.Zone.{Zone}
use Rattle.till_words.specs.declared.words.PersonIn.{PersonIn}
use Rattle.till_words.specs.declared.words.TillAct.{TillAct}
use Rattle.till_words.specs.declared.words.TillAct.TheVariants as typed
use Rattle.till_words.specs.declared.words.TillLine.{TillLine}
use Rattle.till_words.specs.Line.{till_line_of}
use Rattle.till_cashier.specs.Saying.{ended}
use Rattle.till_cashier.specs.ZoneText.{IsZoneText}
use Rattle.till_program.specs.declared.opening.OpenBook.{OpenBook}
use Rattle.till_program.specs.declared.program.Stock.{Stock}
use Rattle.till_program.specs.declared.program.Stock.TheVariants.{Named, Sent}
use Rattle.till_program.specs.Greeting.{IsGreetingLine}
use Rattle.till_program.specs.Screens.{SaysSomeFault, Screen, Shows}
use Rattle.till_program.specs.Performing.{IsAttemptedAt, AtBook}

-- the bytes of a stock file that came with the words
abbrev pub sent_file : Stock → Option (List ℕ)
sent_file Named = None
sent_file (Sent bytes) = Some bytes.now

-- who joins, in the city of that number
abbrev pub in_city : ℕ → PersonIn → Person
in_city city who =
    record { first = who.first; last = who.last; address = who.address; postal = who.postal; phone = who.phone; city = city }

-- some sheet has that number for the city of that name
abbrev pub IsNamedCity : Text → ℕ → Type 0
IsNamedCity name city = (sheet : Text) × (number_in_sheet (codes "city") name sheet ≡ Some (Some city))

-- it adds the customer, in the city that was named
abbrev pub JoinsIn : PersonIn → TillAct → Type 0
JoinsIn who it = (city : ℕ) × IsNamedCity who.city city × (it ≡ typed.Do (asked.Customer (record { person = in_city city who })))

-- It is the act with its stock file: the bytes that came with the words, or else some that were read. Or it is the act with the number of the city that is
-- named. Any other act stays as it is.
abbrev pub IsCompleted : Option (List ℕ) → TillAct → TillAct → Type 0
IsCompleted sent (typed.Import file lot) it = (bytes : List ℕ) × IfSome sent (λ came. bytes ≡ came) × (it ≡ typed.Do (asked.Import lot bytes))
IsCompleted sent (typed.JoinIn who) it = JoinsIn who it
IsCompleted sent (typed.Init beginning) it = it ≡ typed.Init beginning
IsCompleted sent (typed.Do what) it = it ≡ typed.Do what
IsCompleted sent (typed.ReturnCopy copy) it = it ≡ typed.ReturnCopy copy
IsCompleted sent (typed.Look look) it = it ≡ typed.Look look
IsCompleted sent typed.Waiting it = it ≡ typed.Waiting
IsCompleted sent typed.Send it = it ≡ typed.Send
IsCompleted sent (typed.Last count) it = it ≡ typed.Last count
IsCompleted sent (typed.Day asked) it = it ≡ typed.Day asked
IsCompleted sent (typed.Today date) it = it ≡ typed.Today date
IsCompleted sent (typed.Again late) it = it ≡ typed.Again late
IsCompleted sent typed.Slip it = it ≡ typed.Slip
IsCompleted sent typed.Help it = it ≡ typed.Help
IsCompleted sent (typed.Zone name) it = it ≡ typed.Zone name
IsCompleted sent (typed.Office words) it = it ≡ typed.Office words
IsCompleted sent typed.Prompt it = it ≡ typed.Prompt

-- The word that sets the zone changes nothing else of the settings, and the book stays.
pub record SetsZone (before after : OpenBook) : Type 0 where
  pub named : string_bytes after.tools.name ≡ string_bytes before.tools.name
  pub settings : after.tools.settings ≡ record before.tools.settings { zone = after.tools.settings.zone }
  pub clean : HasCleanDisk (file_state after.conn) → HasCleanDisk (file_state before.conn)
  pub stays : HasCleanDisk (file_state after.conn) → Stays (file_state before.conn) (file_state after.conn)

-- the zone is set at the book of that name
abbrev pub SetsZoneIn : Text → Option OpenBook → Option OpenBook → Type 0
SetsZoneIn = AtBook (λ is_failed. SetsZone)

-- the book that is held has the zone of that name
abbrev pub HasZone : Text → Option OpenBook → Type 0
HasZone name None = ⊥
HasZone name (Some book) = (zone : Zone) × (book.tools.settings.zone ≡ Some zone) × (zone.name ≡ name)

-- ---- what is printed of words that need no open book

-- a new book
abbrev pub ready_text : Text
ready_text = ended (codes "the till is ready")

-- what follows the help on the words
abbrev pub help_end : Text
help_end =
    codes "\nAt the prompt, staff N or staff NAME changes who stands there, and exit or quit ends it.\nMany windows at one book: desk --help.\n"

-- the words that there are: some help, and then what there is at a prompt
abbrev pub IsHelp : Text → Type 0
IsHelp text = (help : Text) × (text ≡ help ++ help_end)

-- who is at a window, where, and when
abbrev pub IsGreeting : Text → Type 0
IsGreeting text = (line : Text) × IsGreetingLine line × (text ≡ ended line)

-- ---- words

-- nothing was done: what was held is held, or it was closed
abbrev pub IsNotBegun : Option OpenBook → Option OpenBook → Type 0
IsNotBegun held now = (now ≡ held) ⊎ (now ≡ None)

-- What a line is about beside its act: the book's name, whether a body is printed as it came, who gives the word, and the stock file that came with it.
pub record About : Type 0 where
  pub book : Text
  pub json : Bool
  pub named : Option ℕ
  pub sent : Option (List ℕ)

-- the line is said with status 0, or a fault
abbrev pub SaysDone : (Text → Type 0) → Text → ℕ → Type 0
SaysDone Says text wanted = (Says text × (wanted ≡ 0)) ⊎ SaysSomeFault text wanted

-- a word that is attempted at the book of the line, with what it names
abbrev pub IsAttemptedIn : About → TillAct → ℕ → Screen → Screen → Option OpenBook → Option OpenBook → Type 0
IsAttemptedIn line act status first final held now =
    (it : TillAct) × IsCompleted line.sent act it × AtBook (IsAttemptedAt line.json line.named it status first final) line.book held now

-- A zone was set at the book of the line, or nothing was done and the status isn't 0.
abbrev pub DoesZone : Text → Text → ℕ → Option OpenBook → Option OpenBook → Type 0
DoesZone book zone status held now =
    ((status ≢ 0) × IsNotBegun held now) ⊎ (SetsZoneIn book held now × (status ≡ 0 → HasZone zone now))

-- What a line's act does to the book that is held, and what it prints. While a book is made none is held. A look at the words that there are, and the first
-- line of a window's prompt, leave what is held. Any other word is attempted once at the book of that name.
abbrev pub DoesAct : About → TillAct → ℕ → Screen → Screen → Option OpenBook → Option OpenBook → Type 0
DoesAct line (typed.Init beginning) status first final held now = (now ≡ None) × Shows (SaysDone (λ text. text ≡ ready_text)) status first final
DoesAct line typed.Help status first final held now = (now ≡ held) × Shows (SaysDone IsHelp) status first final
DoesAct line typed.Prompt status first final held now = (now ≡ held) × Shows (SaysDone (λ text. IsHelp text ⊎ IsGreeting text)) status first final
DoesAct line (typed.Zone zone) status first final held now =
    DoesZone line.book zone status held now × Shows (SaysDone (IsZoneText zone)) status first final
DoesAct line (typed.Do what) status first final held now = IsAttemptedIn line (typed.Do what) status first final held now
DoesAct line (typed.ReturnCopy copy) status first final held now = IsAttemptedIn line (typed.ReturnCopy copy) status first final held now
DoesAct line (typed.Import file lot) status first final held now = IsAttemptedIn line (typed.Import file lot) status first final held now
DoesAct line (typed.JoinIn who) status first final held now = IsAttemptedIn line (typed.JoinIn who) status first final held now
DoesAct line (typed.Look look) status first final held now = IsAttemptedIn line (typed.Look look) status first final held now
DoesAct line typed.Waiting status first final held now = IsAttemptedIn line typed.Waiting status first final held now
DoesAct line typed.Send status first final held now = IsAttemptedIn line typed.Send status first final held now
DoesAct line (typed.Last count) status first final held now = IsAttemptedIn line (typed.Last count) status first final held now
DoesAct line (typed.Day asked) status first final held now = IsAttemptedIn line (typed.Day asked) status first final held now
DoesAct line (typed.Today date) status first final held now = IsAttemptedIn line (typed.Today date) status first final held now
DoesAct line (typed.Again late) status first final held now = IsAttemptedIn line (typed.Again late) status first final held now
DoesAct line typed.Slip status first final held now = IsAttemptedIn line typed.Slip status first final held now
DoesAct line (typed.Office words) status first final held now = IsAttemptedIn line (typed.Office words) status first final held now

-- the book that a line names, or else the till's
abbrev pub book_name : Option Text → Text
book_name None = codes "till.book"
book_name (Some name) = name

-- what a line is about: its member of staff, or else whoever stands there, gives the word
abbrev pub about : Option ℕ → Option (List ℕ) → TillLine → About
about stands sent line = record { book = book_name line.book; json = line.is_json; named = option_or line.staff stands; sent = sent }

-- the line's act was done at its book
abbrev pub DoesLine : Option ℕ → Option (List ℕ) → TillLine → ℕ → Screen → Screen → Option OpenBook → Option OpenBook → Type 0
DoesLine stands sent line status first final held now = DoesAct (about stands sent line) line.act status first final held now

-- how words are given: with status 0 if that was asked for, and else with status 2
abbrev pub SaysUsage : Text → ℕ → Type 0
SaysUsage text wanted = ((wanted ≡ 0) ⊎ (wanted ≡ 2)) ⊎ SaysSomeFault text wanted

-- Nothing was done, the status isn't 0, and why not is printed. What was held is held, or was closed.
abbrev pub IsNotDoneAt : ℕ → Screen → Screen → Option OpenBook → Option OpenBook → Type 0
IsNotDoneAt status first final held now = (status ≢ 0) × IsNotBegun held now × Shows SaysSomeFault status first final

-- The words are a line, and it was done once. Or they are no line, and how they are given is printed. Or nothing was done, as a fault.
abbrev pub DoesWords : List Text → Option ℕ → Option (List ℕ) → ℕ → Screen → Screen → Option OpenBook → Option OpenBook → Type 0
DoesWords words stands sent status first final held now =
    ((till_line_of words ≡ None) × (now ≡ held) × Shows SaysUsage status first final)
    ⊎ IsNotDoneAt status first final held now
    ⊎ ((line : TillLine) × (till_line_of words ≡ Some line) × DoesLine stands sent line status first final held now)
