-- Worked rows: the views, and head office's sales.
use Rattle.shop_model.proofs.Common.{[], ◌∷◌, ◌++◌, false, Some, None, refl, codes, SetActive, Rent, Pay, CustomerList, StaffList, FilmList, ActorInfo}
use Rattle.shop_model.proofs.Common.{SalesByStore, SalesByCategory, OneView, Sales}
use Rattle.shop_model.proofs.RowScripts.{computing, ten, rules, does, asks, wants, ok, Plays}
use Rattle.shop_model.proofs.RowsOfPayments.{copy_and_customer, five_days_out}
use Rattle.shop_model.proofs.RowsOfRentals.{four_copies_in, two_customers}

film_and_actor_views : Plays rules [] ((
  asks 1 (OneView FilmList),
  ok (codes "[{\"actors\":\"ANN HILL, BO KERR\",\"category\":\"Action\",\"description\":\"\",\"film\":1,\"length\":86,\"price\":499,\"rating\":\"PG\",\"title\":\"RIVER DAWN\"},{\"actors\":\"BO KERR\",\"category\":\"Comedy\",\"description\":\"\",\"film\":2,\"length\":null,\"price\":299,\"rating\":\"G\",\"title\":\"NORTH LIGHT\"}]"),
)
    ∷ (
      asks 1 (OneView ActorInfo),
      ok (codes "[{\"actor\":1,\"film_info\":\"Action: RIVER DAWN\",\"first\":\"ANN\",\"last\":\"HILL\"},{\"actor\":2,\"film_info\":\"Action: RIVER DAWN; Comedy: NORTH LIGHT\",\"first\":\"BO\",\"last\":\"KERR\"}]"),
    )
    ∷ [])
unfolding computing
film_and_actor_views = refl

sales_and_customer_views : Plays rules (copy_and_customer ++ five_days_out) (
    (asks 1 (OneView SalesByStore), ok (codes "[{\"manager\":\"IDA LUND\",\"store\":\"Lethbridge,Canada\",\"total\":499}]"))
    ∷ (asks 1 (OneView SalesByCategory), ok (codes "[{\"category\":\"Action\",\"total\":499}]"))
    ∷ (asks 2 (OneView SalesByStore), ok (codes "[]"))
    ∷ (asks 2 (OneView SalesByCategory), ok (codes "[]"))
    ∷ (
      asks 1 (OneView CustomerList),
      ok (codes "[{\"address\":\"1 Main\",\"branch\":1,\"city\":\"Lethbridge\",\"country\":\"Canada\",\"id\":1,\"name\":\"MARY SMITH\",\"note\":\"active\",\"phone\":\"555\",\"postal\":\"\"}]"),
    )
    ∷ (wants Sales, ok (codes "[{\"manager\":\"IDA LUND\",\"store\":\"Lethbridge,Canada\",\"total\":499}]"))
    ∷ [])
unfolding computing
sales_and_customer_views = refl

-- equal totals stand by name; a payment without a rental counts in neither view
ties_and_loose_payments : Plays rules (four_copies_in ++ two_customers) (
    (does 1 (codes "a") ten (Rent 1 1), ok (codes "{\"rental\":1}"))
    ∷ (does 1 (codes "b") ten (Rent 1 4), ok (codes "{\"rental\":2}"))
    ∷ (does 1 (codes "c") ten (Pay 1 (Some 2) 300), ok (codes "{\"payment\":1}"))
    ∷ (does 1 (codes "d") ten (Pay 1 (Some 1) 300), ok (codes "{\"payment\":2}"))
    ∷ (does 1 (codes "e") ten (Pay 1 None 900), ok (codes "{\"payment\":3}"))
    ∷ (asks 1 (OneView SalesByCategory), ok (codes "[{\"category\":\"Action\",\"total\":300},{\"category\":\"Comedy\",\"total\":300}]"))
    ∷ (asks 1 (OneView SalesByStore), ok (codes "[{\"manager\":\"IDA LUND\",\"store\":\"Lethbridge,Canada\",\"total\":600}]"))
    ∷ [])
unfolding computing
ties_and_loose_payments = refl

staff_of_third_branch : Plays rules [] ((
  asks 3 (OneView StaffList),
  ok (codes
      "[{\"address\":\"2 Side\",\"branch\":3,\"city\":\"Brisbane\",\"country\":\"Australia\",\"id\":3,\"name\":\"KIM ROSS\",\"phone\":\"\",\"postal\":\"\"}]"),
)
    ∷ [])
unfolding computing
staff_of_third_branch = refl

-- a payment of nothing for a rental is one
payment_of_nothing : Plays rules copy_and_customer (
    (does 1 (codes "a") ten (Rent 1 1), ok (codes "{\"rental\":1}"))
    ∷ (does 1 (codes "b") ten (Pay 1 (Some 1) 0), ok (codes "{\"payment\":1}"))
    ∷ (asks 1 (OneView SalesByStore), ok (codes "[{\"manager\":\"IDA LUND\",\"store\":\"Lethbridge,Canada\",\"total\":0}]"))
    ∷ (asks 1 (OneView SalesByCategory), ok (codes "[{\"category\":\"Action\",\"total\":0}]"))
    ∷ [])
unfolding computing
payment_of_nothing = refl

-- the note is empty for who isn't active
inactive_customer_listed : Plays rules copy_and_customer (
    (does 1 (codes "a") ten (SetActive 1 false), ok (codes "{\"active\":false,\"customer\":1}"))
    ∷ (
      asks 1 (OneView CustomerList),
      ok (codes "[{\"address\":\"1 Main\",\"branch\":1,\"city\":\"Lethbridge\",\"country\":\"Canada\",\"id\":1,\"name\":\"MARY SMITH\",\"note\":\"\",\"phone\":\"555\",\"postal\":\"\"}]"),
    )
    ∷ [])
unfolding computing
inactive_customer_listed = refl
