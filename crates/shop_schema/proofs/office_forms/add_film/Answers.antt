use Rattle.shop_schema.proofs.Common.{[], ◌∷◌, ◌++◌, false, rating_text, features_text, number_form, text_form, option_form, flag_form}
use Rattle.shop_schema.proofs.FormSteps.{then_more}
use Rattle.shop_schema.proofs.office_forms.add_film.Goals as goal

pub returns : goal.returns
returns c =
    let film = c.args.film.now in
    let heading = text_form film.title ∷ text_form film.description ∷ number_form film.language ∷ number_form film.category ∷ [] in
    let terms = number_form film.period ∷ number_form film.rate ∷ number_form film.replacement ∷ [] in
    let details = option_form film.minutes ∷ text_form (rating_text film.rating) ∷ text_form (features_text film.features) ∷ flag_form false ∷ [] in
    let all = then_more _ _ _ heading terms c.in_ok-add_heading.ensures c.in_ok-add_terms.ensures in
    then_more _ _ _ (heading ++ terms) details all c.in_ok-add_details.ensures
