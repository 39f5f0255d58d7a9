-- What a row means.
use Rattle.shop_types.specs.Seen.{seen_mark, seen_line_state}
use Rattle.consign_store.specs.Parts.{Header, Placed}
use Rattle.consign_store.specs.declared.headers.HeaderRow.{HeaderRow}
use Rattle.consign_store.specs.declared.lines.LineRow.{LineRow}

abbrev pub seen_header : HeaderRow → Header
seen_header row = record { source = row.key.source; addressee = row.key.addressee; number = row.key.number; place = row.place; received = row.received }

abbrev pub seen_line : LineRow → Placed
seen_line row = record {
  source = row.key.source;
  addressee = row.key.addressee;
  number = row.key.number;
  line = row.line;
  it = record { film = row.film; mark = seen_mark row.mark; state = seen_line_state row.state };
}
