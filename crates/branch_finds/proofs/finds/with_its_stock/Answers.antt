use Rattle.shop_schema.proofs.Common.{ℕ, Bool, done, shop_of}
use Rattle.sql_rows.proofs.Chaining.{one_call}
use Rattle.branch_finds.proofs.Shows.{stock_of_out}
use Rattle.branch_finds.proofs.finds.with_its_stock.Goals as goal

pub returns-in-Ok-clause-does : goal.returns-in-Ok-clause-does
returns-in-Ok-clause-does g c = done (one_call c.in-Ok.ensures.does) (λ said books holds held.
    let out = said books holds held in (
      out.0,
      λ i.
          let shown : ℕ × Bool × Bool = (
            c.args.row.number,
            c.is_here.ensures c.args.row.film i,
            stock_of_out c.args.row.number (shop_of c.args.branch books).rentals c.in-Ok.out _ c.is_none.ensures out.1 i,
          ) in
          shown,
    ))
