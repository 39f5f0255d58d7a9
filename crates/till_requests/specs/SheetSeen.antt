-- What a clause sees of a row.
use Rattle.std.specs.Prelude.{string_bytes}
use Rattle.till_requests.specs.SheetRows.{Row}
use Rattle.till_requests.specs.declared.sheet.SheetRow.{SheetRow}

abbrev pub seen_row : SheetRow → Row
seen_row row = record { film = row.film; title = string_bytes row.title; rental = row.rental; customer = row.customer; due = string_bytes row.due }
