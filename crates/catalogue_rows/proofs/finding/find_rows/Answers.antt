use Rattle.shop_schema.proofs.Common.{◌∙◌, ap, sym, within_none, AddCountry, AddLanguage, AddCategory, seen_office_act}
use Rattle.catalogue_rows.proofs.Readings.{of_act, found_of}
use Rattle.catalogue_rows.proofs.finding.find_rows.Goals as goal

pub returns-in-Country : goal.returns-in-Country
returns-in-Country g c =
    found_of (λ rows. rows.is_named) _ c.with_name.result (ap seen_office_act c.in-Country.is ∙ ap AddCountry (sym c.as_str.ensures.value))
    (λ rows books is. is) c.with_name.ensures c.is_country.ensures

pub returns-in-Language : goal.returns-in-Language
returns-in-Language g c =
    found_of (λ rows. rows.is_named) _ c.with_name-in-Language.result
    (ap seen_office_act c.in-Language.is ∙ ap AddLanguage (sym c.as_str-in-Language.ensures.value))
    (λ rows books is. is) c.with_name-in-Language.ensures c.is_language.ensures

pub returns-in-Category : goal.returns-in-Category
returns-in-Category g c =
    found_of (λ rows. rows.is_named) _ c.with_name-in-Category.result
    (ap seen_office_act c.in-Category.is ∙ ap AddCategory (sym c.as_str-in-Category.ensures.value))
    (λ rows books is. is) c.with_name-in-Category.ensures c.is_category.ensures

pub returns-in-City : goal.returns-in-City
returns-in-City g c =
    found_of (λ rows. rows.has_country) _ c.with_country.result (ap seen_office_act c.in-City.is)
    (λ rows books is. is) c.with_country.ensures c.has_country.ensures

pub returns-in-Price : goal.returns-in-Price
returns-in-Price g c =
    found_of (λ rows. rows.film) _ c.with_film.result (ap seen_office_act c.in-Price.is) (λ rows books is. is) c.with_film.ensures c.film_withdrawn.ensures.does

pub returns-in-Withdraw : goal.returns-in-Withdraw
returns-in-Withdraw g c =
    found_of (λ rows. rows.film) _ c.with_film-in-Withdraw.result (ap seen_office_act c.in-Withdraw.is)
    (λ rows books is. is) c.with_film-in-Withdraw.ensures c.film_withdrawn-in-Withdraw.ensures.does

pub returns-in-Leave : goal.returns-in-Leave
returns-in-Leave g c =
    found_of (λ rows. rows.staff) _ c.with_staff.result (ap seen_office_act c.in-Leave.is) (λ rows books is. is) c.with_staff.ensures c.staff_at.ensures.does

pub returns-in-Film : goal.returns-in-Film
returns-in-Film g c = of_act (ap seen_office_act c.in-Film.is) c.for_film.ensures

pub returns-in-Cast : goal.returns-in-Cast
returns-in-Cast g c = of_act (ap seen_office_act c.in-Cast.is) c.for_cast.ensures

pub returns-in-Branch : goal.returns-in-Branch
returns-in-Branch g c = of_act (ap seen_office_act c.in-Branch.is) c.for_branch.ensures

pub returns-in-Staff : goal.returns-in-Staff
returns-in-Staff g c = of_act (ap seen_office_act c.in-Staff.is) c.for_staff.ensures

pub returns-in-Manager : goal.returns-in-Manager
returns-in-Manager g c = of_act (ap seen_office_act c.in-Manager.is) c.for_manager.ensures

pub returns-in-Rule : goal.returns-in-Rule
returns-in-Rule g c = of_act (ap seen_office_act c.in-Rule.is) c.for_rule.ensures

pub returns-in-Actor : goal.returns-in-Actor
returns-in-Actor g c = of_act (ap seen_office_act c.in-Actor.is) (record { inside = within_none; says = λ clean books holds held. (holds, tt) })
