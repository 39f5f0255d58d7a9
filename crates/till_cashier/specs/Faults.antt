-- Which fault of a word tells a fault of the desk, when the book didn't fail, and what a fault says.
use Rattle.std.specs.Prelude.{◌≡◌, ◌≢◌, ◌⊎◌, ◌++◌, ℕ, Option, Some, None, Result, Ok, Err, codes}
use Rattle.shop_model.specs.Values.{Text}
use Rattle.till_work.specs.declared.fault.DeskFault.{DeskFault}
use Rattle.till_work.specs.declared.fault.DeskFault.TheVariants as desk
use Rattle.till_cashier.specs.declared.fault.TillFault.{TillFault}
use Rattle.till_cashier.specs.declared.fault.TillFault.TheVariants as word

abbrev pub told_fault : DeskFault → TillFault
told_fault desk.Book = word.Book
told_fault desk.Full = word.Full
told_fault desk.Memory = word.Memory
told_fault desk.NoCommand = word.OtherBook
told_fault desk.OtherKey = word.OtherBook
told_fault desk.NotLater = word.OtherBook
told_fault desk.OtherBook = word.OtherBook
told_fault desk.NoEntry = word.OtherBook
told_fault desk.Unopened = word.Unanswered
told_fault (desk.Unanswered why) = word.Unanswered
told_fault desk.NotNow = word.NotNow
told_fault desk.NotKnown = word.NotKnown

-- the book didn't fail
abbrev pub IsBookKept : {A : Type 0} → Result A TillFault → Type 0
IsBookKept result = result ≢ Err word.Book

-- a book that can't be read has failed, or there was no memory
abbrev pub IsReading : TillFault → Type 0
IsReading fault = (fault ≡ word.Book) ⊎ (fault ≡ word.Memory)

-- the fault of a word that is for the other kind of book: a branch's word at head office's book, where nobody works, or head office's at a branch's
abbrev pub others_fault : Option ℕ → TillFault
others_fault None = word.IsOffice
others_fault (Some own) = word.IsBranch

-- who gives a branch's word: whoever is named, or else whose till it is; at head office's book nobody can, whoever is named
abbrev pub giver_of : Option ℕ → Option ℕ → Result ℕ TillFault
giver_of None named = Err word.IsOffice
giver_of (Some own) None = Ok own
giver_of (Some own) (Some named) = Ok named

-- the server gave no reply that counts, to the word or to an earlier one
abbrev pub HasNoReply : TillFault → Type 0
HasNoReply fault = (fault ≡ word.Unanswered) ⊎ ((fault ≡ word.NotNow) ⊎ ((fault ≡ word.Silent) ⊎ (fault ≡ word.EarlierWaits)))

-- ---- what a fault says

-- the program's status for it: 1 if a word can't be done as it was said, 4 if it isn't answered yet, and 3 for the till's own faults
abbrev pub fault_status : TillFault → ℕ
fault_status word.NoRental = 1
fault_status word.NotOut = 1
fault_status word.RentWaits = 1
fault_status word.NoFile = 1
fault_status word.TooLarge = 1
fault_status word.NotSent = 1
fault_status word.IsOffice = 1
fault_status word.IsBranch = 1
fault_status word.EarlierWaits = 1
fault_status word.NoZone = 1
fault_status word.ZoneBehind = 1
fault_status word.Unsure = 1
fault_status (word.Joined number) = 1
fault_status word.Undated = 1
fault_status (word.OtherDay clock said) = 1
fault_status word.NoDate = 1
fault_status word.NoCity = 1
fault_status word.NoStaff = 1
fault_status word.Already = 1
fault_status word.NotKept = 1
fault_status word.Waits = 4
fault_status word.Down = 4
fault_status word.Unanswered = 4
fault_status word.NotNow = 4
fault_status word.NotKnown = 4
fault_status word.Silent = 4
fault_status fault = 3

-- what it is, and what to do; of some faults a number follows
abbrev pub fault_text : TillFault → Text
fault_text word.Book = codes "The book can't be read or written. See that its disk has room, and say the word again."
fault_text word.Busy = codes "Another window has this till's book. Wait for its word, and say this one again."
fault_text word.NoBook = codes "There is no book of that name. Make one: init ADDRESS TOKEN --staff N --zone NAME."
fault_text word.NotABook = codes "That file is no till's book. Name another by --book."
fault_text word.Already = codes "There is a book of that name, or a file of one. Take it, or name another by --book."
fault_text word.Full = codes "The book can take no more entries. Make a new one."
fault_text word.Memory = codes "There is no memory left. Close other programs, and say the word again."
fault_text word.System = codes "A file, the clock or the terminal failed. Say the word again."
fault_text word.Settings = codes "The settings beside the book are missing or spoilt. Make a new book: init ADDRESS TOKEN --staff N --zone NAME."
fault_text word.NotKept = codes "The settings can't keep that address. Write it as HOST:PORT."
fault_text word.Drawer =
    codes "What is kept of drawers beside the book is spoilt, or another book's. "
    ++ codes "Move the book's files .drawer and .drawers away: its drawer counts from its first entry then."
fault_text word.NotClosed = codes "The closing can't be written beside the book. See that the disk has room, and close the drawer again."
fault_text word.OtherBook = codes "The book and its settings aren't of one till. Make a new book: init ADDRESS TOKEN --staff N --zone NAME."
fault_text (word.Ahead number) = codes "The last entry is too far ahead of the clock."
fault_text word.Unanswered = codes "No answer came. What was said is in the book and goes again by itself, once."
fault_text word.Waits = codes "The line to the server is down. What was said is in the book and goes by itself, once."
fault_text word.Down = codes "The line to the server is down, so that can't be asked now. Say the word again later."
fault_text word.EarlierWaits = codes "An earlier word has no answer yet, so this one wasn't done. Say send, and then this word again."
fault_text word.NotNow = codes "The server can't take it now. What was said is in the book and goes again by itself, once."
fault_text word.NotKnown =
    codes "The server doesn't know this till. What was said is in the book and waits: have the till's token and the server's file looked at."
fault_text word.Silent = codes "No answer came. Nothing was changed by it: say the word again."
fault_text word.Foreign = codes "What came is no answer of the server's. See that the address is the server's."
fault_text word.NoRental = codes "This till knows no rental of that copy. Say its number: return --rental NUMBER."
fault_text word.NotOut = codes "No customer has that copy, so nothing is returned. See its number."
fault_text word.RentWaits = codes "The rent of that copy has no answer yet. Say send, and then this word again."
fault_text word.NoFile = codes "The stock file can't be read. See that its name is right."
fault_text word.TooLarge = codes "The stock file is too large. Part it, at most 500 lines to a lot."
fault_text word.NotSent = codes "That can't be sent as it stands. Say it in other words."
fault_text word.IsOffice = codes "This book is head office's. Say office and its words."
fault_text word.IsBranch = codes "This book is a branch's. Head office has a book of its own."
fault_text word.NoZone = codes "There is no zone of that name here. Say one as America/Edmonton, UTC-07:00 or UTC."
fault_text word.ZoneBehind = codes "The last entry is ahead of that zone's clock, so the zone stays. Say the word again when that clock is past it: see last."
fault_text word.Unsure = codes "That can't be undone, and nothing was entered. If it is to be done, say --yes before the word."
fault_text (word.Joined number) = codes "A customer has that name and phone, so nobody was added."
fault_text word.Undated =
    codes "There is no entry yet, or the last one is more than 36 hours ago. Look at a calendar, and say today's date first: today YYYY-MM-DD."
fault_text (word.OtherDay clock said) = codes "That isn't the date of the till's clock."
fault_text word.NoDate = codes "That is no date. Say today's date as today YYYY-MM-DD."
fault_text word.NoCity = codes "The branch's sheet has no city of that name. Say the city's number."
fault_text word.NoStaff = codes "The branch's sheet has no member of staff of that name. Say the member's number."

-- the text says the fault, and then something on another line; the status is the fault's
abbrev pub SaysFault : Text → ℕ → Type 0
SaysFault text status = (fault : TillFault) × (more : Text) × (text ≡ fault_text fault ++ (codes "\n" ++ more)) × (status ≡ fault_status fault)
