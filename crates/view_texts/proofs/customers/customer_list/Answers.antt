use Rattle.shop_schema.proofs.Common.{refl, ◌∙◌, sym, ap, filter, map, map-map, is_of, Customers, array, IfOk-weaker}
use Rattle.shop_model.specs.Views.{listed_customer as customer_text}
use Rattle.view_texts.specs.Shown.{shown_customer, listed_customer}
use Rattle.view_texts.proofs.PageLines.{each_listed}
use Rattle.view_texts.proofs.PeopleJoins.{customers_ask}
use Rattle.view_texts.proofs.PeopleJoins.{shows_customers}
use Rattle.view_texts.proofs.PersonLines.{customers_are}
use Rattle.view_texts.proofs.customers.customer_list.Goals as goal

pub rows_text-requires : goal.rows_text-requires
rows_text-requires g c = customers_ask

pub returns-clause-text : goal.returns-clause-text
returns-clause-text g c clean =
    IfOk-weaker c.rows_text.result _ _
    (λ s told books holds held.
    let b = c.args.branch in
    let catalogue = books.catalogue in
    let mine = filter (is_of b) books.customers in
    let counted = held.numbers.rows Customers b in
    let rows = shows_customers _ _ b told.0 books holds.schema_is (rw (c.to_sql.ensures, c.get.ensures.value) at told.2) holds.stands counted in
    let listed =
    each_listed _ (shown_customer catalogue) (λ x. customer_text (listed_customer b catalogue x))
    (λ x texts it. it catalogue x refl) mine told.0 told.1 rows told.3 in
    told.4
    ∙ ap array (listed ∙ sym (map-map customer_text (listed_customer b catalogue) mine) ∙ ap (map customer_text) (customers_are b catalogue 1 mine counted)))
    (c.rows_text.ensures.text clean)
