use Rattle.shop_types.proofs.Common.{◌∙◌, ap, option_and_then, IfOk-weaker}
use Rattle.till_shows.specs.Sheets.{sheet_of, film_sheet_fields}
use Rattle.till_shows.proofs.FoundLemmas.{handed_on, if_err}
use Rattle.till_shows.proofs.sheets.film_sheet.Goals as goal

pub returns-in_err-value-clause-other : goal.returns-in_err-value-clause-other
returns-in_err-value-clause-other c =
    handed_on _ _ c.from_residual.ensures.1 (λ e. ap (option_and_then (sheet_of film_sheet_fields)) (c.in_err-value.ensures.other e))

pub returns-clause-shown : goal.returns-clause-shown
returns-clause-shown c =
    IfOk-weaker c.film_lines.result _ _
    (λ sheet is. ap (option_and_then (sheet_of film_sheet_fields)) c.in_ok-value.ensures.shown ∙ is) c.film_lines.ensures.shown

pub returns-clause-other : goal.returns-clause-other
returns-clause-other c =
    if_err c.film_lines.result _ _
    (λ fault is e. ap (option_and_then (sheet_of film_sheet_fields)) c.in_ok-value.ensures.shown ∙ is e) c.film_lines.ensures.other
