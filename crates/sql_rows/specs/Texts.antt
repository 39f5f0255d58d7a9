-- Texts that are queries, whatever tables there are.
use Rattle.std.specs.Prelude.{◌≡◌, ⊤, ℕ, [], List, None, Result, Ok, Err}
use Rattle.sqlite.specs.Schema.{Schema}
use Rattle.sqlite.specs.Listing.{understood}
use Rattle.sqlite_resolve.specs.declared.compiled.Compiled.{Compiled}
use Rattle.sqlite_resolve.specs.declared.error.CompileError.{CompileError}

-- what it came to has no RETURNING and doesn't read the time, where it came to anything
abbrev pub ShowsOnly : Result Compiled CompileError → Type 0
ShowsOnly (Ok c) = (c.returning ≡ None) × (c.formats ≡ [])
ShowsOnly (Err e) = ⊤

-- the text shows rows and changes nothing, under any schema
abbrev pub IsQuery : List ℕ → Type 0
IsQuery sql = (schema : Schema) → ShowsOnly (understood schema sql)
