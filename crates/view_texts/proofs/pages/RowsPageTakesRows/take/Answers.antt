use Rattle.std.proofs.Common.{map, subst}
use Rattle.std.specs.Option.{option_to_list}
use Rattle.view_texts.proofs.PageLines.{some_read, no_read}
use Rattle.view_texts.proofs.pages.RowsPageTakesRows.take.Goals as goal

pub returns-in_ok-add_row-clause-taken : goal.returns-in_ok-add_row-clause-taken
returns-in_ok-add_row-clause-taken g c first given so_far =
    let written = g.R.Listed.ListedRow.written in
    let found = c.in_ok-it.field-0 in
    let read = subst (λ reader. g.R.ReadsRows.reads reader c.args.row.now (map written (option_to_list found))) so_far.0 c.in_ok-it.ensures in (
      so_far.0,
      some_read (g.R.ReadsRows.reads first.reader) written given c.args.row.now found c.in-Some.it _ _ c.in-Some.is read c.in_ok-add_row.ensures so_far.1,
    )

pub returns-in_default-clause-taken : goal.returns-in_default-clause-taken
returns-in_default-clause-taken g c first given so_far =
    let written = g.R.Listed.ListedRow.written in
    let found = c.in_ok-it.field-0 in
    let read = subst (λ reader. g.R.ReadsRows.reads reader c.args.row.now (map written (option_to_list found))) so_far.0 c.in_ok-it.ensures in
    (so_far.0, no_read (g.R.ReadsRows.reads first.reader) written given c.args.row.now found _ c.in_default.is read so_far.1)
