use Rattle.shop_schema.proofs.Common.{◌≡◌, ◌∙◌, ◌++◌, ◌∷◌, [], ap, map, List, take_all, and_then, done, some_calls, within_none}
use Rattle.stock_csv.specs.declared.StockRow.{StockRow}
use Rattle.branch_core.specs.declared.found.StockFound.{StockFound}
use Rattle.branch_finds.specs.Commands.{as_listed, found_row, stock_found}
use Rattle.branch_finds.proofs.Stocks.{row_found, row_listed}
use Rattle.branch_finds.proofs.commands.find_films.Goals as goal

pub loop-row-init : goal.loop-row-init
loop-row-init g c = (
  record { inside = within_none; says = λ clean books holds held. (holds, λ known. (c.new-found.ensures.items, known)) },
  ap (map as_listed) c.new-found.ensures.items,
)

pub loop-row-preserved : goal.loop-row-preserved
loop-row-preserved g c =
    let rows = c.args.rows.now in
    let i = c.loop-row.row-index in
    let before = c.loop-row.found.items in
    let row = c.row-item.result in
    let withdrawn = c.in_ok-withdrawn.withdrawn in
    let pushed : c.push.new.self.items ≡ before ++ stock_found row withdrawn ∷ [] =
    c.in_ok-push.ensures.items ∙ ap (λ (r : StockFound). before ++ r ∷ []) c.stock_found.ensures in (
      done (and_then (some_calls c.loop-row.invariant.0) (some_calls c.in_ok-withdrawn.ensures)) (λ said books holds held.
          let first = said.0 books holds held in
          let next = said.1 books first.0 held in (
            next.0,
            λ known.
                let was = first.1 known in
                let is = next.1 was.1 in
                (pushed ∙ row_found books.catalogue rows i row before withdrawn c.loop-row-test.true c.row-item.is is.0 was.0, is.1),
          )),
      ap (map as_listed) pushed ∙ row_listed rows i row before withdrawn c.loop-row-test.true c.row-item.is c.loop-row.invariant.1,
    )

pub returns-clause-does : goal.returns-clause-does
returns-clause-does g c = done (some_calls c.loop-row.invariant.0) (λ said books holds held.
    let all = said books holds held in (
      all.0,
      λ known. (
        (all.1 known).0
            ∙ ap (λ (rs : List StockRow). map (found_row books.catalogue) rs) (take_all c.loop-row.row-index c.args.rows.now c.loop-row-test.false),
        (all.1 known).1,
      ),
    ))
