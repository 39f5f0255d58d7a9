use Rattle.shop_types.proofs.AsciiTexts.{token_is_utf8}
use Rattle.shop_schema.proofs.shop_cells.TokenCell.read_at.Goals as goal

pub returns-in-Err-clause-failed : goal.returns-in-Err-clause-failed
returns-in-Err-clause-failed c is x fits low = c.in-Err.ensures.failed is x (token_is_utf8 x fits) low
