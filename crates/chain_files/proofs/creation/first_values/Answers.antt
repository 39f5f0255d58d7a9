use Rattle.shop_schema.proofs.FirstValues.{first_values, opening_values}
use Rattle.chain_files.proofs.creation.first_values.Goals as goal

pub returns-in-OfOffice : goal.returns-in-OfOffice
returns-in-OfOffice c = rw c.in-OfOffice.is (first_values _ c.as_bytes-digits.ensures.kind)

pub returns-in-OfOpening : goal.returns-in-OfOpening
returns-in-OfOpening c = rw c.in-OfOpening.is opening_values
