use Rattle.shop_schema.proofs.Common.{◌∷◌, [], sym, ap, ◌∙◌, column, same_number, PersonRow}
use Rattle.shop_model.specs.Views.{person_text}
use Rattle.view_texts.proofs.PersonLines.{numbered_person}
use Rattle.view_texts.proofs.staff.StaffOfReadsRows.read.Goals as goal

pub returns : goal.returns
returns c catalogue x is =
    let number = same_number _ _ (sym c.in_ok-row_number_at.ensures.ok ∙ ap (λ r. column r 0) is) in
    let person = numbered_person _ _ _ _ number (c.in_ok-person_at.ensures catalogue x.0 x.1.person [] is) in
    ap (λ (person : PersonRow). person_text [] person ∷ []) person
