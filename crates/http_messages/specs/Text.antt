-- The bytes of a reply (RFC 9112, sections 2.1 and 4; which fields are sent is our own profile).
use Rattle.std.specs.Prelude.{ℕ, List, [], ◌∷◌, ◌++◌, length, codes, decimal, unwrap_or}
use Rattle.http.specs.StatusCode.{reason_phrase}

-- the canonical phrase of a status by the table of the crate `http` (after RFC 9110, section 15), and nothing for
-- another number
abbrev pub phrase : ℕ → List ℕ
phrase status = unwrap_or (reason_phrase status) []

-- the end of a line
abbrev pub crlf : List ℕ
crlf = 13 ∷ 10 ∷ []

-- the head of a reply, before a body of this length: the status line, two fields and the empty line
unfoldable pub head_text : ℕ → ℕ → List ℕ
head_text status len =
    codes "HTTP/1.1 " ++ decimal status ++ codes " " ++ phrase status ++ crlf
    ++ codes "content-type: application/json" ++ crlf
    ++ codes "content-length: " ++ decimal len ++ crlf ++ crlf

-- the whole reply
abbrev pub reply_text : ℕ → List ℕ → List ℕ
reply_text status body = head_text status (length body) ++ body
