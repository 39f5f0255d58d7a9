-- A chain in a file: how the program makes it, migrates it, puts a request of head office to it, and serves connections by it.
use Rattle.std.specs.Prelude.{◌≡◌, ◌⊎◌, ℕ, false, List, Option, codes}
use Rattle.std.specs.Io.KnownBytes.{Keeps}
use Rattle.sqlite_disk.specs.declared.Disk.{Ghosts}
use Rattle.sqlite_disk.specs.declared.Files.{Files}
use Rattle.sqlite_wal.specs.Reads.{AreClean}
use Rattle.sqlite.specs.Files.{image_of}
use Rattle.shop_types.specs.LimitValues.{most_limits}
use Rattle.shop_model.specs.Refusals.{Decision, Already}
use Rattle.shop_model.specs.Answers.{Answer, problem_answer}
use Rattle.shop_model.specs.Books.{Books, HeadOffice}
use Rattle.shop_model.specs.Migration.{migrated}
use Rattle.shop_types.specs.declared.request.Request.{Request}
use Rattle.shop_types.specs.Seen.{seen_request}
use Rattle.shop_schema.specs.Shop.{first_books}
use Rattle.chain_requests.specs.Holding.{Holding}
use Rattle.office_words.specs.Line.{line_of}
use Rattle.chain_requests.specs.Chains.{Answers, Runs}
use Rattle.chain_files.specs.Files.{HoldsBooks, HoldsSoundly, HasThisVersion, KeepsBooks, HoldsVersion1Books, HoldsVersion1Soundly, HasVersion1}
use Rattle.sql_rows.specs.Files.{HoldsNoTable}
use Rattle.counter_http.specs.Exchanges.{Exchange, events_of, answers_of}
use Rattle.sakila_office.specs.Printed.{IsPrinted, IsSilent, IsTold}

-- ---- between two runs of the program the books are in two files, the database and its log

-- a chain with these books, just opened, with the greatest limits
abbrev pub opened_holding : Books → Holding
opened_holding books = record { limits = most_limits; is_failed = false; books = books; besides = books }

-- A chain with the token and no shared row was made, in files that held no table. It was closed, and these are the files then.
pub record IsMade {D : Type 0} (g : Ghosts D) (token : List ℕ) : Type 0 where
  pub files : Files D
  pub left : Files D
  pub none : AreClean g left.log left.db → HoldsNoTable (image_of g files)
  pub kept : AreClean g left.log left.db → KeepsBooks g left (first_books token)

-- The files held a chain of version 1, whose books were sound. It became one of this version and was closed. The files then keep the same books, with the terms
-- of each rental. This holds of whatever books of version 1 the files are known to hold.
pub record IsMigrated {D : Type 0} (g : Ghosts D) : Type 0 where
  pub files : Files D
  pub left : Files D
  pub first : AreClean g left.log left.db → HasVersion1 (image_of g files)
  pub sound : AreClean g left.log left.db → (books : Books) × HoldsVersion1Soundly (image_of g files) books × KeepsBooks g left (migrated books)
  pub kept : AreClean g left.log left.db → (books : Books) → HoldsVersion1Books (image_of g files) books → KeepsBooks g left (migrated books)

-- from these books on, the request gets this answer, and unless the store fails, these files then keep the books after it
abbrev pub AnswersFrom : {D : Type 0} → Ghosts D → Files D → Request → Answer → Books → Type 0
AnswersFrom g left request answer books =
    (after : Holding) × Answers HeadOffice (seen_request request) answer (opened_holding books) after
    × (after.is_failed ≡ false → KeepsBooks g left after.books)

-- The files hold a chain of this version. It was opened, got the request, gave this answer, and was closed. The answer follows from the sound books that the
-- files hold, and from whatever books they are known to hold.
pub record IsAnswered {D : Type 0} (g : Ghosts D) (request : Request) (answer : Answer) : Type 0 where
  pub files : Files D
  pub left : Files D
  pub this : AreClean g left.log left.db → HasThisVersion (image_of g files)
  pub sound : AreClean g left.log left.db → (books : Books) × HoldsSoundly (image_of g files) books × AnswersFrom g left request answer books
  pub answers : AreClean g left.log left.db → (books : Books) → HoldsBooks (image_of g files) books → AnswersFrom g left request answer books

-- From these books on, the chain runs over the exchanges. Unless the store fails, the files then keep the books after the run. With status 0 it didn't fail.
abbrev pub RunsFrom : {D : Type 0} → Ghosts D → Files D → ℕ → List Exchange → Books → Type 0
RunsFrom g left status exchanges books =
    (after : Holding) × Runs (events_of line_of exchanges) (answers_of exchanges) (opened_holding books) after
    × (after.is_failed ≡ false → KeepsBooks g left after.books) × (status ≡ 0 → after.is_failed ≡ false)

-- The files hold a chain of this version. It was opened in them, ran over some exchanges, and was closed. The run begins at the sound books which the files
-- hold,
-- and at whatever books they are known to hold.
pub record IsServedIn {D : Type 0} (g : Ghosts D) (status : ℕ) : Type 0 where
  pub files : Files D
  pub left : Files D
  pub exchanges : List Exchange
  pub this : AreClean g left.log left.db → HasThisVersion (image_of g files)
  pub sound : AreClean g left.log left.db → (books : Books) × HoldsSoundly (image_of g files) books × RunsFrom g left status exchanges books
  pub runs : AreClean g left.log left.db → (books : Books) → HoldsBooks (image_of g files) books → RunsFrom g left status exchanges books

-- ---- the four tasks, over such files

-- the chain was made and its version is printed, or there are tables already, or the store couldn't do its part
pub data Makes {D : Type 0} (g : Ghosts D) (token : List ℕ) (status : ℕ) (output written errors told : Option (List ℕ)) : Type 0 where
  made : IsMade g token → IsPrinted (codes "{\"version\":2}") status output written → Keeps errors told → Makes g token status output written errors told
  already : IsTold (problem_answer (Decision Already)) status output written errors told → Makes g token status output written errors told
  not_made : IsSilent 3 status output written → Makes g token status output written errors told

-- The chain became one of this version, which is printed. Or it is one already, or there is none to migrate, or the store couldn't do its part.
pub data Migrates {D : Type 0} (g : Ghosts D) (status : ℕ) (output written errors told : Option (List ℕ)) : Type 0 where
  made_new : IsMigrated g → IsPrinted (codes "{\"version\":2}") status output written → Keeps errors told → Migrates g status output written errors told
  already_new : IsTold (problem_answer (Decision Already)) status output written errors told → Migrates g status output written errors told
  not_migrated : IsSilent 3 status output written → Migrates g status output written errors told

-- The request was answered, and the answer is printed. Or no chain was opened, and the request did nothing.
pub data Puts {D : Type 0} (g : Ghosts D) (request : Request) (status : ℕ) (output written errors told : Option (List ℕ)) : Type 0 where
  answered : (answer : Answer) → IsAnswered g request answer
      → IsTold answer status output written errors told → Puts g request status output written errors told
  not_opened : IsSilent 3 status output written → Puts g request status output written errors told

-- The chain served connections, and nothing is printed. Or no chain was opened, and nothing was done.
pub data Serves {D : Type 0} (g : Ghosts D) (status : ℕ) (output written errors told : Option (List ℕ)) : Type 0 where
  served : IsServedIn g status → (status ≡ 0) ⊎ (status ≡ 3) → Keeps output written → Keeps errors told → Serves g status output written errors told
  not_served : IsSilent 3 status output written → Serves g status output written errors told
