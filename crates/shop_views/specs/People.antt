-- The lists of people, as JSON values.
use Rattle.std.specs.Prelude.{ℕ, Bool, if◌then◌else◌, [], codes}
use Rattle.serde_json.specs.Data.{Data, number, unsigned, string, object, member, no_members}
use Rattle.shop_model.specs.Values.{Text}
use Rattle.shop_model.specs.Views.{PersonRow}
use Rattle.shop_views.specs.Names.{name_text}
use Rattle.shop_views.specs.declared.people.ListedPerson.{ListedPerson}
use Rattle.shop_views.specs.declared.people.ListedCustomer.{ListedCustomer}
use Rattle.shop_views.specs.declared.people.ListedStaff.{ListedStaff}

-- a person with the number and the name
abbrev pub person_as : ℕ → Text → ListedPerson → PersonRow
person_as n name person = record {
  branch = person.branch;
  number = n;
  name = name;
  address = person.address;
  postal = person.postal;
  phone = person.phone;
  city = person.city;
  country = person.country;
}

abbrev pub seen_person : ℕ → ListedPerson → PersonRow
seen_person n person = person_as n (name_text person.name) person

abbrev pub seen_customer : ListedCustomer → PersonRow × Bool
seen_customer row = (seen_person row.number row.person, row.active)

abbrev pub seen_staff : ListedStaff → PersonRow
seen_staff row = seen_person row.number row.person

abbrev pub customer_data : PersonRow × Bool → Data
customer_data it = object
    (member (codes "address") (string it.0.address)
    (member (codes "branch") (number (unsigned it.0.branch))
    (member (codes "city") (string it.0.city)
    (member (codes "country") (string it.0.country)
    (member (codes "id") (number (unsigned it.0.number))
    (member (codes "name") (string it.0.name)
    (member (codes "note") (string (if it.1 then codes "active" else []))
    (member (codes "phone") (string it.0.phone)
    (member (codes "postal") (string it.0.postal) no_members)))))))))

abbrev pub staff_data : PersonRow → Data
staff_data it = object
    (member (codes "address") (string it.address)
    (member (codes "branch") (number (unsigned it.branch))
    (member (codes "city") (string it.city)
    (member (codes "country") (string it.country)
    (member (codes "id") (number (unsigned it.number))
    (member (codes "name") (string it.name)
    (member (codes "phone") (string it.phone)
    (member (codes "postal") (string it.postal) no_members))))))))
