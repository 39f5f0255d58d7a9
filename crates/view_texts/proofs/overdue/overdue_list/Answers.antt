use Rattle.shop_schema.proofs.Common.{◌∙◌, refl, ap, array, IfOk-weaker, shop_of, Rental, Terms, overdue_row}
use Rattle.shop_model.specs.Views.{overdue_text}
use Rattle.view_texts.specs.Overdue.{shown_out, is_late, IsReal}
use Rattle.view_texts.proofs.PageLines.{passing_listed}
use Rattle.view_texts.proofs.OverdueJoin.{outs_ask}
use Rattle.view_texts.proofs.OverdueLines.{opened, shows_outs, all_real, overdue_are}
use Rattle.view_texts.proofs.overdue.overdue_list.Goals as goal

pub rows_text-requires : goal.rows_text-requires
rows_text-requires g c = outs_ask

pub returns-clause-text : goal.returns-clause-text
returns-clause-text g c clean =
    IfOk-weaker c.rows_text.result _ _
    (λ s told books holds held.
    let b = c.args.branch in
    let catalogue = books.catalogue in
    let shop = shop_of b books in
    let rows = shows_outs b books held _ _ told.0 holds (rw (c.to_sql.ensures, c.get.ensures.value) at told.2) in
    let late =
    passing_listed _ (shown_out catalogue shop) IsReal (λ (it : Rental × Terms). overdue_text (overdue_row catalogue shop it.0))
    (is_late c.args.at) (λ x texts real it. it catalogue shop x real refl)
    (opened b books held) told.0 told.1 (all_real b books held) rows told.3 in
    told.4 ∙ ap array (late ∙ overdue_are b books held c.args.at)) (c.rows_text.ensures.text clean)
