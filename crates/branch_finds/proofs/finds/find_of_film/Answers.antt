use Rattle.shop_schema.proofs.Common.{◌∙◌, ap, map, shop_of, CopyRows}
use Rattle.sql_rows.proofs.Chaining.{one_call, and_more}
use Rattle.shop_schema.specs.Asked.{HoldsBooks}
use Rattle.shop_ledger.proofs.Failing.{fails_after, finds_stay}
use Rattle.branch_finds.specs.Finds.{copy_shown}
use Rattle.branch_finds.proofs.FilmLemmas.{of_film}
use Rattle.branch_finds.proofs.finds.find_of_film.Goals as goal

pub returns-clause-does : goal.returns-clause-does
returns-clause-does g c = and_more (one_call c.in-Ok.ensures.does) c.with_stock.ensures.does (λ said copies reads books holds held.
    let b = c.args.branch in
    let rows = said books holds held in
    let shown = reads books rows.0 held in (
      shown.0,
      of_film b c.args.film books copies.items c.in-Ok.rows.items (held.numbers.rows CopyRows b) rows.1
          (shown.1 ∙ ap (map (copy_shown (shop_of b books).rentals)) c.as_slice.ensures.value),
    ))

pub returns-clause-fails : goal.returns-clause-fails
returns-clause-fails g c =
    fails_after HoldsBooks HoldsBooks (one_call c.in-Ok.ensures.does) finds_stay c.with_stock.ensures.does.inside c.with_stock.ensures.fails
