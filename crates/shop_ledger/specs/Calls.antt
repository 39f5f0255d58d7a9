-- What a call inside a transaction says of the states before and after it.
use Rattle.sqlite.specs.State.{State}
use Rattle.shop_model.specs.Books.{Books}
use Rattle.shop_schema.specs.Shop.{Reads, Writes}

-- the call leaves the books as they are, and `Says` holds of them
abbrev pub Finds : (Books → Type 0) → State → State → Type 0
Finds Says old new = Reads old new Says

-- the call applies `change` to books that fulfil `Given`
abbrev pub Stores : (Books → Type 0) → (Books → Books) → State → State → Type 0
Stores Given change old new = Writes old new Given change
