use Rattle.std.proofs.Common.{take, map}
use Rattle.httparse.specs.Spans.{header_bytes}
use Rattle.http_messages.specs.Message.{values_of}
use Rattle.http_messages.specs.Shown.{IsFound}
use Rattle.http_messages.proofs.fields.find.Given as goal

abbrev pub invariant-loop-header : goal.invariant-loop-header
invariant-loop-header l = IsFound l.found (values_of l.name (map (header_bytes l.bytes) (take l.header-index l.headers)))
