use Rattle.sql_rows.proofs.Common.{◌∙◌, ◌==◌, ap, not, length}
use Rattle.sql_rows.proofs.Stays.{inside_as}
use Rattle.till_book.proofs.RentTexts.{reads_return}
use Rattle.till_book.proofs.rents.is_returned.Goals as goal

pub returns : goal.returns
returns g c = record {
  inside = inside_as c.in_ok-rows.ensures.inside;
  says = λ clean.
      let shown = rw (c.to_sql.ensures, c.get.ensures.value, c.to_sql-2.ensures) at (c.in_ok-rows.ensures.shown clean) in
      reads_return c.args.rental c.args.number _ _ c.in_ok-rows.rows.items c.has_row.result
      (c.has_row.ensures ∙ ap (λ l. not (length l == 0)) c.as_slice.ensures.value) shown;
}
