use Rattle.shop_types.proofs.AsciiTexts.{key_is_utf8}
use Rattle.shop_schema.proofs.shop_cells.NameCell.read_at.Goals as goal

pub returns-in-Err-clause-failed : goal.returns-in-Err-clause-failed
returns-in-Err-clause-failed g c is x fits low = c.in-Err.ensures.failed is x (key_is_utf8 x fits) low
