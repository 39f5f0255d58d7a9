use Rattle.shop_schema.proofs.Common.{◌∷◌, [], sym, ap, ◌∙◌, column, flag_value, same_flag, same_number}
use Rattle.shop_model.specs.Views.{listed_customer}
use Rattle.view_texts.proofs.PersonLines.{numbered_person}
use Rattle.view_texts.proofs.customers.CustomersOfReadsRows.read.Goals as goal

pub returns : goal.returns
returns c catalogue x is =
    let number = same_number _ _ (sym c.in_ok-row_number_at.ensures.ok ∙ ap (λ r. column r 0) is) in
    let active = same_flag _ _ (sym c.in_ok-flag_at.ensures.ok ∙ ap (λ r. column r 8) is) in
    let person = numbered_person _ _ _ _ number (c.in_ok-person_at.ensures catalogue x.number x.it.person (flag_value x.it.active ∷ []) is) in
    (λ i. listed_customer (person i, active i) ∷ [])
