-- What each subcommand asks for, by the values of its options: none where one of them isn't of its kind.
use Rattle.std.specs.Prelude.{List, Option, Some, None, option_map, codes, if◌then◌else◌}
use Rattle.std.specs.Str.{bytes_eq}
use Rattle.clap.specs.Words.{Row, Text}
use Rattle.shop_types.specs.declared.catalogue.City.{City}
use Rattle.shop_types.specs.declared.catalogue.Actor.{Actor}
use Rattle.shop_types.specs.declared.catalogue.Branch.{Branch}
use Rattle.shop_types.specs.declared.catalogue.Staff.{Staff}
use Rattle.shop_types.specs.declared.film.Film.{Film}
use Rattle.shop_types.specs.declared.person.Person.{Person}
use Rattle.shop_types.specs.declared.office.OfficeAct.{OfficeAct}
use Rattle.shop_types.specs.declared.office.OfficeAct.TheVariants as office
use Rattle.shop_types.specs.declared.request.OfficeAsk.{OfficeAsk}
use Rattle.shop_types.specs.declared.request.OfficeAsk.TheVariants.{Sales, Custody, Transit, Audit}
use Rattle.shop_types.specs.declared.line.LineAct.{LineAct}
use Rattle.shop_types.specs.declared.line.LineAct.TheVariants as act
use Rattle.office_words.specs.Given.{key_given, rating_given, features_given, rule_given}
use Rattle.word_tables.specs.Given.{with_value, text_given, token_given}
use Rattle.office_words.specs.declared.acts.FilmFacts.{FilmFacts}
use Rattle.office_words.specs.declared.acts.Contact.{Contact}
use Rattle.office_words.specs.Given.{number_given, row_given, rate_given, replacement_given, period_given, minutes_given}

abbrev pub name_of : List Row → Option Text
name_of rows = text_given 1 45 (codes "name") rows

abbrev pub city_of : List Row → Option City
city_of rows =
    with_value (row_given (codes "country") rows) (λ country.
    with_value (name_of rows) (λ name.
    Some (record { name = name; country = country })))

abbrev pub actor_of : List Row → Option Actor
actor_of rows =
    with_value (text_given 1 45 (codes "first") rows) (λ first.
    with_value (text_given 1 45 (codes "last") rows) (λ last.
    Some (record { first = first; last = last })))

-- what a film has beside its texts
abbrev pub facts_of : List Row → Option FilmFacts
facts_of rows =
    with_value (row_given (codes "language") rows) (λ language.
    with_value (row_given (codes "category") rows) (λ category.
    with_value (period_given rows) (λ period.
    with_value (rate_given rows) (λ rate.
    with_value (replacement_given rows) (λ replacement.
    with_value (minutes_given rows) (λ minutes.
    with_value (rating_given rows) (λ rating.
    with_value (features_given rows) (λ features.
    Some (record {
      language = language;
      category = category;
      period = period;
      rate = rate;
      replacement = replacement;
      minutes = minutes;
      rating = rating;
      features = features;
    })))))))))

abbrev pub film_of : List Row → Option Film
film_of rows =
    with_value (facts_of rows) (λ facts.
    with_value (text_given 1 128 (codes "title") rows) (λ title.
    with_value (text_given 0 500 (codes "description") rows) (λ description.
    Some (record {
      title = title;
      description = description;
      language = facts.language;
      category = facts.category;
      period = facts.period;
      rate = facts.rate;
      replacement = facts.replacement;
      minutes = facts.minutes;
      rating = facts.rating;
      features = facts.features;
    }))))

abbrev pub price_of : List Row → Option OfficeAct
price_of rows =
    with_value (row_given (codes "film") rows) (λ film.
    with_value (rate_given rows) (λ rate.
    Some (office.Price film rate)))

abbrev pub cast_of : List Row → Option OfficeAct
cast_of rows =
    with_value (row_given (codes "film") rows) (λ film.
    with_value (row_given (codes "actor") rows) (λ actor.
    Some (office.Cast film actor)))

-- where a branch or a person is found
abbrev pub contact_of : List Row → Option Contact
contact_of rows =
    with_value (text_given 1 128 (codes "address") rows) (λ address.
    with_value (text_given 0 45 (codes "postal") rows) (λ postal.
    with_value (text_given 0 45 (codes "phone") rows) (λ phone.
    Some (record { address = address; postal = postal; phone = phone }))))

abbrev pub branch_of : List Row → Option Branch
branch_of rows =
    with_value (token_given rows) (λ token.
    with_value (row_given (codes "city") rows) (λ city.
    with_value (contact_of rows) (λ c.
    Some (record { token = token; address = c.address; postal = c.postal; phone = c.phone; city = city }))))

abbrev pub person_of : List Row → Option Person
person_of rows =
    with_value (row_given (codes "city") rows) (λ city.
    with_value (actor_of rows) (λ names.
    with_value (contact_of rows) (λ c.
    Some (record { first = names.first; last = names.last; address = c.address; postal = c.postal; phone = c.phone; city = city }))))

abbrev pub staff_of : List Row → Option Staff
staff_of rows =
    with_value (row_given (codes "branch") rows) (λ branch.
    with_value (person_of rows) (λ person.
    Some (record { branch = branch; person = person })))

abbrev pub manager_of : List Row → Option OfficeAct
manager_of rows =
    with_value (row_given (codes "branch") rows) (λ branch.
    with_value (row_given (codes "staff") rows) (λ staff.
    Some (office.Manager branch staff)))

-- what a command of this name does that takes numbers alone, or a rule
abbrev pub plain_act_of : Text → List Row → Option OfficeAct
plain_act_of name rows = if bytes_eq name (codes "film-price") then price_of rows
    else (if bytes_eq name (codes "film-withdraw") then option_map office.Withdraw (row_given (codes "film") rows)
    else (if bytes_eq name (codes "cast-add") then cast_of rows
    else (if bytes_eq name (codes "staff-leave") then option_map office.Leave (row_given (codes "staff") rows)
    else (if bytes_eq name (codes "manager-set") then manager_of rows
    else (if bytes_eq name (codes "balance-rule") then option_map office.Rule (rule_given rows)
    else None)))))

-- what a command of this name does that adds a branch or staff, or takes numbers alone or a rule
abbrev pub place_act_of : Text → List Row → Option OfficeAct
place_act_of name rows = if bytes_eq name (codes "branch-add") then option_map office.Branch (branch_of rows)
    else (if bytes_eq name (codes "staff-add") then option_map office.Staff (staff_of rows)
    else plain_act_of name rows)

-- what a command of this name does
abbrev pub office_act_of : Text → List Row → Option OfficeAct
office_act_of name rows = if bytes_eq name (codes "country-add") then option_map office.Country (name_of rows)
    else (if bytes_eq name (codes "city-add") then option_map office.City (city_of rows)
    else (if bytes_eq name (codes "language-add") then option_map office.Language (name_of rows)
    else (if bytes_eq name (codes "category-add") then option_map office.Category (name_of rows)
    else (if bytes_eq name (codes "actor-add") then option_map office.Actor (actor_of rows)
    else (if bytes_eq name (codes "film-add") then option_map office.Film (film_of rows)
    else place_act_of name rows)))))

-- a command of head office, with its key
abbrev pub command_of : Text → List Row → Option LineAct
command_of name rows =
    with_value (key_given rows) (λ key.
    with_value (office_act_of name rows) (λ what.
    Some (act.Office (record { key = key; act = what }))))

abbrev pub serve_of : List Row → Option LineAct
serve_of rows =
    with_value (number_given 16 (codes "port") rows) (λ port.
    with_value (number_given 32 (codes "connections") rows) (λ connections.
    Some (act.Serve port connections)))

-- where the copy of a mark is: the branch that imported it, and its number there
abbrev pub custody_of : List Row → Option OfficeAsk
custody_of rows =
    with_value (row_given (codes "branch") rows) (λ branch.
    with_value (row_given (codes "copy") rows) (λ copy.
    Some (Custody (record { branch = branch; copy = copy }))))

-- a reading has no key; any other name is a command's
abbrev pub reading_of : Text → List Row → Option LineAct
reading_of name rows = if bytes_eq name (codes "sales") then Some (act.OfficeLook Sales)
    else (if bytes_eq name (codes "custody") then option_map act.OfficeLook (custody_of rows)
    else (if bytes_eq name (codes "transit") then Some (act.OfficeLook Transit)
    else (if bytes_eq name (codes "audit") then Some (act.OfficeLook Audit)
    else command_of name rows)))

-- what a subcommand of this name asks for
abbrev pub act_of : Text → List Row → Option LineAct
act_of name rows = if bytes_eq name (codes "init") then option_map act.Init (token_given rows)
    else (if bytes_eq name (codes "migrate") then Some act.Migrate
    else (if bytes_eq name (codes "serve") then serve_of rows
    else (if bytes_eq name (codes "replay") then Some act.Replay
    else reading_of name rows)))
