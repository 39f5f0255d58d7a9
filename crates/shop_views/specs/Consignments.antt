-- Consignments as the lists of a branch and of head office show them, as JSON values.
use Rattle.std.specs.Prelude.{ℕ, Bool, List, [], ◌∷◌, codes, decimal}
use Rattle.serde_json.specs.Data.{Data, boolean, number, unsigned, object, member, no_members}
use Rattle.shop_model.specs.Json.{flag_text, numbers_text}
use Rattle.shop_model.specs.Json as json
use Rattle.shop_model.specs.Values.{Text}
use Rattle.shop_views.specs.Bodies.{numbers_value}
use Rattle.shop_views.specs.declared.consignments.ListedConsignment.{ListedConsignment}

-- the sender, the addressee, the number among their consignments, whether the consignment is received, and the films of its lines
pub record Listed : Type 0 where
  pub source : ℕ
  pub addressee : ℕ
  pub number : ℕ
  pub received : Bool
  pub films : List ℕ

abbrev pub seen_listed : ListedConsignment → Listed
seen_listed it = record { source = it.source; addressee = it.addressee; number = it.number; received = it.received; films = it.films.items }

abbrev pub arrival_data : Listed → Data
arrival_data it = object
    (member (codes "films") (numbers_value it.films)
    (member (codes "from") (number (unsigned it.source))
    (member (codes "number") (number (unsigned it.number))
    (member (codes "received") (boolean it.received) no_members))))

abbrev pub sent_data : Listed → Data
sent_data it = object
    (member (codes "films") (numbers_value it.films)
    (member (codes "number") (number (unsigned it.number))
    (member (codes "to") (number (unsigned it.addressee)) no_members)))

abbrev pub transit_data : Listed → Data
transit_data it = object
    (member (codes "films") (numbers_value it.films)
    (member (codes "from") (number (unsigned it.source))
    (member (codes "number") (number (unsigned it.number))
    (member (codes "to") (number (unsigned it.addressee)) no_members))))

abbrev pub arrival_text : Listed → Text
arrival_text it = json.object
    ((codes "films", numbers_text it.films) ∷ (codes "from", decimal it.source)
    ∷ (codes "number", decimal it.number) ∷ (codes "received", flag_text it.received) ∷ [])

abbrev pub sent_text : Listed → Text
sent_text it = json.object ((codes "films", numbers_text it.films) ∷ (codes "number", decimal it.number) ∷ (codes "to", decimal it.addressee) ∷ [])

abbrev pub transit_text : Listed → Text
transit_text it = json.object
    ((codes "films", numbers_text it.films) ∷ (codes "from", decimal it.source) ∷ (codes "number", decimal it.number) ∷ (codes "to", decimal it.addressee) ∷ [])
