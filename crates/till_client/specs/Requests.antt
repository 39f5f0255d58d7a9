-- The bytes of a command's request (RFC 9112; which fields are sent is our own profile).
use Rattle.std.specs.Prelude.{List, ℕ, ◌++◌, length, codes, decimal}
use Rattle.http_messages.specs.Text.{crlf}

abbrev pub before_token : List ℕ
before_token = codes " HTTP/1.1" ++ crlf ++ codes "host: till" ++ crlf ++ codes "counter-token: "

abbrev pub before_length : List ℕ
before_length = crlf ++ codes "connection: close" ++ crlf ++ codes "content-length: "

abbrev pub before_body : List ℕ
before_body = crlf ++ crlf

-- a POST with this token, target and body; the connection ends after its reply
abbrev pub post_text : List ℕ → List ℕ → List ℕ → List ℕ
post_text token target body = codes "POST " ++ target ++ before_token ++ token ++ before_length ++ decimal (length body) ++ before_body ++ body
