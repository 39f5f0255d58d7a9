use Rattle.shop_schema.proofs.Common.{◌≡◌, ◌∙◌, sym, subst, ap, List, map, All, cond_some, done, some_calls, Copies}
use Rattle.stock_csv.specs.declared.StockRow.{StockRow}
use Rattle.stock_csv.specs.Rows.{stock_rows_of}
use Rattle.stock_csv.specs.Stock.{stock_from, films_of}
use Rattle.branch_core.specs.declared.found.StockFound.{StockFound}
use Rattle.branch_core.specs.Agreed.{RowAgrees}
use Rattle.branch_finds.specs.Commands.{as_listed, found_row}
use Rattle.branch_finds.proofs.Stocks.{same_films, rows_agree}
use Rattle.branch_finds.proofs.commands.find_stock.Goals as goal

pub returns-in-Some-clause-does : goal.returns-in-Some-clause-does
returns-in-Some-clause-does g c = done (some_calls c.in_ok-find_films-in-Ok.ensures.does) (λ said books holds held.
    let found : c.in_ok-find_films-in-Ok.field-0.items ≡ c.in-Some.found = (cond_some _ _ _ (sym c.in-Some.ensures)).1 in
    let films = said books holds held in (
      films.0,
      λ known.
          let it = films.1 known in (
            subst (λ (items : List StockFound). All (RowAgrees books.catalogue) items)
                (sym (sym found ∙ it.0 ∙ ap (λ (rs : List StockRow). map (found_row books.catalogue) rs) c.as_slice-in-Ok.ensures.value))
                (rows_agree books.catalogue c.in-Ok.rows.items c.in-Ok.ensures.limits),
            it.1,
          ),
    ))

pub returns-in-Some-clause-value : goal.returns-in-Some-clause-value
returns-in-Some-clause-value g c =
    let found : c.in_ok-find_films-in-Ok.field-0.items ≡ c.in-Some.found = (cond_some _ _ _ (sym c.in-Some.ensures)).1 in
    let same = c.in_ok-find_films-in-Ok.ensures.same ∙ c.as_slice-in-Ok.ensures.value in
    ap Copies (same_films c.in-Some.found ∙ ap films_of (ap (λ (rows : List StockFound). map as_listed rows) (sym found) ∙ same))
    ∙ sym (ap stock_from (ap stock_rows_of (sym c.as_slice.ensures.value) ∙ c.in-Ok.ensures.rows))
