use Rattle.std.proofs.Common.{◌≡◌, append-nil, get_or}
use Rattle.httparse.specs.Spans.{header_bytes}
use Rattle.httparse.specs.declared.spans.HeaderSpan.{HeaderSpan}
use Rattle.http_messages.specs.Message.{same_name}
use Rattle.http_messages.proofs.FieldLemmas.{values_of-more, values_of-one}
use Rattle.http_messages.proofs.fields.find.Goals as goal
use Rattle.http_messages.proofs.fields.find.Goals.{then-is_named, else-is_named}

abbrev no_span : HeaderSpan
no_span = record { name = record { start = 0; end = 0 }; value = record { start = 0; end = 0 } }

pub loop-header-preserved : goal.loop-header-preserved
loop-header-preserved c =
    let more = values_of-more (header_bytes c.args.bytes.now) c.args.name.now c.args.headers.now c.loop-header.header-index no_span c.loop-header-test.true in
    let b : c.is_named.result ≡ same_name (header_bytes c.args.bytes.now (get_or c.args.headers.now c.loop-header.header-index no_span)).0 c.args.name.now
    = rw c.of.ensures at c.is_named.ensures in
    let one =
    values_of-one c.args.name.now (header_bytes c.args.bytes.now (get_or c.args.headers.now c.loop-header.header-index no_span)) c.is_named.result b in
    elim c.if-is_named.branch [
      | then-is_named w ↦
          rw w.found-is (rw (more, one, w.if-is_named.true, ← w.of-then-is_named.ensures)
          (w.and-found.ensures _ c.loop-header.invariant))
      | else-is_named w ↦
          rw w.found-is (rw (more, one, w.if-is_named.false, append-nil) c.loop-header.invariant)
    ]
