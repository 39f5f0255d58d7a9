use Rattle.shop_schema.proofs.Common.{[], refl}
use Rattle.view_texts.proofs.PageLines.{none_read}
use Rattle.view_texts.proofs.pages.rows_text.Goals as goal

pub returns-clause-text : goal.returns-clause-text
returns-clause-text g c clean =
    let told = c.in_ok-each_row.ensures.took clean in
    let read = (told.2 (refl, ([], none_read _, c.new.ensures))).1 in
    (told.0, read.0, told.1, read.1, c.in_ok-finish.ensures read.0 read.2)
