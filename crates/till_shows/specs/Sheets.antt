-- One object as a sheet, with a line for each member that is shown.
use Rattle.std.specs.Prelude.{◌≡◌, List, [], ◌∷◌, ◌++◌, flat_map, Option, Some, option_map, option_and_then, codes}
use Rattle.serde_json.specs.Data.{Data}
use Rattle.shop_model.specs.Calendar.{Moment, IsMoment, moment_text}
use Rattle.shop_model.specs.Values.{Text}
use Rattle.till_shows.specs.Bodies.{body_of, each, text_at}
use Rattle.till_shows.specs.Fields.{Field, plain_field, money_field, field_text}
use Rattle.till_shows.specs.Times as times

-- a line with a heading and a text
abbrev pub sheet_line : Text → Text → Text
sheet_line heading text = heading ++ (codes ": " ++ (text ++ codes "\n"))

abbrev pub field_line : Data → Field → Option Text
field_line d field = option_map (sheet_line field.heading) (field_text d field)

abbrev pub sheet_of : List Field → Data → Option Text
sheet_of fields d = option_map (flat_map (λ (line : Text). line)) (each (field_line d) fields)

abbrev pub film_sheet_fields : List Field
film_sheet_fields =
    plain_field (codes "film") (codes "film")
    ∷ plain_field (codes "title") (codes "title")
    ∷ plain_field (codes "rating") (codes "rating")
    ∷ plain_field (codes "length") (codes "minutes")
    ∷ money_field (codes "rate") (codes "price")
    ∷ plain_field (codes "period") (codes "days")
    ∷ money_field (codes "replacement") (codes "replacement")
    ∷ plain_field (codes "features") (codes "features")
    ∷ plain_field (codes "description") (codes "description")
    ∷ plain_field (codes "withdrawn") (codes "withdrawn")
    ∷ []

abbrev pub customer_sheet_fields : List Field
customer_sheet_fields =
    plain_field (codes "customer") (codes "customer")
    ∷ plain_field (codes "first") (codes "first name")
    ∷ plain_field (codes "last") (codes "last name")
    ∷ plain_field (codes "phone") (codes "phone")
    ∷ plain_field (codes "address") (codes "address")
    ∷ plain_field (codes "postal") (codes "postal code")
    ∷ plain_field (codes "city") (codes "city")
    ∷ plain_field (codes "active") (codes "may rent")
    ∷ []

-- the sheet of the film that the body describes
abbrev pub film_sheet_in : Text → Option Text
film_sheet_in body = option_and_then (sheet_of film_sheet_fields) (body_of body)

-- the sheet of the customer whom the body describes, with the moment in words at which the customer joined
pub record IsCustomerSheet (body sheet : Text) : Type 0 where
  pub value : Data
  pub is_body : body_of body ≡ Some value
  pub created : Moment
  pub is_moment : IsMoment created
  pub is_created : text_at (codes "created") value ≡ Some (moment_text created)
  pub front : Text
  pub is_front : sheet_of customer_sheet_fields value ≡ Some front
  pub whole : sheet ≡ front ++ sheet_line (codes "joined") (times.moment_text created)
