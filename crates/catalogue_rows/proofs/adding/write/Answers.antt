use Rattle.shop_schema.proofs.Common.{ap, refl, seen_office_act}
use Rattle.catalogue_rows.proofs.Written.{of_act, row_added, row_changed}
use Rattle.catalogue_rows.proofs.adding.write.Goals as goal

pub returns-in_ok-number-in-Country : goal.returns-in_ok-number-in-Country
returns-in_ok-number-in-Country g c =
    row_added c.numbered.result (ap seen_office_act c.in-Country.is) (λ it. it.countries) (λ it rows. record it { countries = rows })
    (λ books. refl) c.as_str.ensures.value refl c.in_ok-number-in-Country.ensures c.numbered.ensures c.last_number.ensures c.put_country.ensures

pub returns-in_ok-number-in-Language : goal.returns-in_ok-number-in-Language
returns-in_ok-number-in-Language g c =
    row_added c.numbered-in-Language.result (ap seen_office_act c.in-Language.is) (λ it. it.languages)
    (λ it rows. record it { languages = rows }) (λ books. refl) c.as_str-in-Language.ensures.value refl
    c.in_ok-number-in-Language.ensures c.numbered-in-Language.ensures c.last_number-in-Language.ensures c.put_language.ensures

pub returns-in_ok-number-in-Category : goal.returns-in_ok-number-in-Category
returns-in_ok-number-in-Category g c =
    row_added c.numbered-in-Category.result (ap seen_office_act c.in-Category.is) (λ it. it.categories)
    (λ it rows. record it { categories = rows }) (λ books. refl) c.as_str-in-Category.ensures.value refl
    c.in_ok-number-in-Category.ensures c.numbered-in-Category.ensures c.last_number-in-Category.ensures c.put_category.ensures

pub returns-in_ok-number-in-City : goal.returns-in_ok-number-in-City
returns-in_ok-number-in-City g c =
    row_added c.numbered-in-City.result (ap seen_office_act c.in-City.is) (λ it. it.cities) (λ it rows. record it { cities = rows }) (λ books. refl)
    c.new_city.ensures.row c.new_city.ensures.number c.in_ok-number-in-City.ensures c.numbered-in-City.ensures c.last_number-in-City.ensures c.put_city.ensures

pub returns-in_ok-number-in-Actor : goal.returns-in_ok-number-in-Actor
returns-in_ok-number-in-Actor g c =
    row_added c.numbered-in-Actor.result (ap seen_office_act c.in-Actor.is) (λ it. it.actors)
    (λ it rows. record it { actors = rows }) (λ books. refl) c.new_actor.ensures.row c.new_actor.ensures.number
    c.in_ok-number-in-Actor.ensures c.numbered-in-Actor.ensures c.last_number-in-Actor.ensures c.put_actor.ensures

pub returns-in_ok-number-in-Film : goal.returns-in_ok-number-in-Film
returns-in_ok-number-in-Film g c =
    row_added c.numbered-in-Film.result (ap seen_office_act c.in-Film.is) (λ it. it.films) (λ it rows. record it { films = rows }) (λ books. refl)
    c.new_film.ensures.row c.new_film.ensures.number c.in_ok-number-in-Film.ensures c.numbered-in-Film.ensures c.last_number-in-Film.ensures c.put_film.ensures

pub returns-in_ok-number-in-Staff : goal.returns-in_ok-number-in-Staff
returns-in_ok-number-in-Staff g c =
    row_added c.numbered-in-Staff.result (ap seen_office_act c.in-Staff.is) (λ it. it.staff)
    (λ it rows. record it { staff = rows }) (λ books. refl) c.new_staff.ensures.row c.new_staff.ensures.number
    c.in_ok-number-in-Staff.ensures c.numbered-in-Staff.ensures c.last_number-in-Staff.ensures c.put_staff.ensures

pub returns-in-Price : goal.returns-in-Price
returns-in-Price g c = row_changed c.without_number.result (ap seen_office_act c.in-Price.is) (λ books. refl) c.without_number.ensures c.set_rate.ensures

pub returns-in-Withdraw : goal.returns-in-Withdraw
returns-in-Withdraw g c =
    row_changed c.without_number-in-Withdraw.result (ap seen_office_act c.in-Withdraw.is)
    (λ books. refl) c.without_number-in-Withdraw.ensures c.set_withdrawn.ensures

pub returns-in-Cast : goal.returns-in-Cast
returns-in-Cast g c =
    row_changed c.without_number-in-Cast.result (ap seen_office_act c.in-Cast.is) (λ books. refl) c.without_number-in-Cast.ensures c.put_cast.ensures

pub returns-in-Leave : goal.returns-in-Leave
returns-in-Leave g c =
    row_changed c.without_number-in-Leave.result (ap seen_office_act c.in-Leave.is) (λ books. refl) c.without_number-in-Leave.ensures c.set_gone.ensures

pub returns-in-Manager : goal.returns-in-Manager
returns-in-Manager g c =
    row_changed c.without_number-in-Manager.result (ap seen_office_act c.in-Manager.is)
    (λ books. refl) c.without_number-in-Manager.ensures c.set_manager.ensures

pub returns-in-Rule : goal.returns-in-Rule
returns-in-Rule g c =
    row_changed c.without_number-in-Rule.result (ap seen_office_act c.in-Rule.is) (λ books. refl) c.without_number-in-Rule.ensures c.set_rule.ensures

pub returns-in-Branch : goal.returns-in-Branch
returns-in-Branch g c = of_act (ap seen_office_act c.in-Branch.is) c.add_branch.ensures
