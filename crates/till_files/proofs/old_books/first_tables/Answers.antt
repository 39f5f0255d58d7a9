use Rattle.shop_schema.proofs.Common.{refl, no_doubt}
use Rattle.till_files.proofs.old_books.first_tables.Goals as goal

pub returns : goal.returns
returns c = c.in_ok-make_first.ensures.schema (no_doubt _ refl) c.in_ok-conn.ensures.empty.2
