use Rattle.shop_schema.proofs.Common.{◌==◌, ◌∙◌, [], ℕ, refl, sym, ap, filter, map-map, array, numbered, Staff, IfOk-weaker}
use Rattle.shop_model.specs.Views.{person_text}
use Rattle.view_texts.specs.Shown.{shown_staff, listed_staff}
use Rattle.view_texts.proofs.PageLines.{each_listed}
use Rattle.view_texts.proofs.PeopleJoins.{staff_ask}
use Rattle.view_texts.proofs.PeopleJoins.{shows_staff}
use Rattle.view_texts.proofs.staff.staff_list.Goals as goal

pub rows_text-requires : goal.rows_text-requires
rows_text-requires g c = staff_ask

pub returns-clause-text : goal.returns-clause-text
returns-clause-text g c clean =
    IfOk-weaker c.rows_text.result _ _
    (λ s told books holds.
    let b = c.args.branch in
    let catalogue = books.catalogue in
    let mine = filter (λ (it : ℕ × Staff). it.1.branch == b) (numbered catalogue.staff) in
    let rows = shows_staff _ _ b told.0 books holds.schema_is (rw (c.to_sql.ensures, c.get.ensures.value) at told.2) holds.stands in
    let listed =
    each_listed _ (shown_staff catalogue) (λ x. person_text [] (listed_staff b catalogue x))
    (λ x texts it. it catalogue x refl) mine told.0 told.1 rows told.3 in
    told.4 ∙ ap array (listed ∙ sym (map-map (person_text []) (listed_staff b catalogue) mine))) (c.rows_text.ensures.text clean)
