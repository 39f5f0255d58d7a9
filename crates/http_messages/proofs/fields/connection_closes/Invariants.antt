use Rattle.std.proofs.Common.{◌≡◌, ◌||◌, drop, map, codes}
use Rattle.std.specs.List.{list_any}
use Rattle.httparse.specs.Spans.{header_bytes}
use Rattle.http_messages.specs.Items.{says_close}
use Rattle.http_messages.specs.Message.{values_of}
use Rattle.http_messages.proofs.fields.connection_closes.Given as goal

-- a connection field so far says `close`, or a later one does
abbrev pub invariant-loop-header : goal.invariant-loop-header
invariant-loop-header l =
    (l.closes || list_any says_close (values_of (codes "connection") (map (header_bytes l.bytes) (drop l.header-index l.headers))))
    ≡ list_any says_close (values_of (codes "connection") (map (header_bytes l.bytes) l.headers))
