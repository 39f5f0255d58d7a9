use Rattle.shop_schema.proofs.Common.{◌≡◌, ◌∙◌, sym, ap, ◌+◌, List, [], ◌∷◌, ◌++◌, take, map, replicate, arith, vec_len, take_more, sum_by_push, Row, BookCopy}
use Rattle.branch_core.specs.declared.found.StockFound.{StockFound}
use Rattle.branch_core.specs.StockLists.{copies_of, films_of}
use Rattle.shop_store.specs.Seen.{seen_copy_row}
use Rattle.branch_work.specs.Added.{copies_from}
use Rattle.branch_work.proofs.CopyLemmas.{row_more}
use Rattle.branch_work.proofs.importing.new_copies.Goals as goal

pub loop-row-preserved : goal.loop-row-preserved
loop-row-preserved c =
    let inv = c.loop-row.invariant in
    let b = c.args.branch in
    let i = c.loop-row.row-index in
    let row = c.row-item.result in
    let stock = c.args.stock.now in
    let done = take i stock in
    let new = copies_from b (c.args.first + vec_len c.loop-row.copies) (replicate row.copies row.film) in
    let taken : take (i + 1) stock ≡ done ++ row ∷ [] =
    take_more stock i row c.loop-row-test.true ∙ ap (λ (x : StockFound). done ++ x ∷ []) (sym c.row-item.is) in
    let count : copies_of (take (i + 1) stock) ≡ copies_of done + row.copies = ap copies_of taken ∙ sum_by_push (λ (it : StockFound). it.copies) done row in
    let rows : map seen_copy_row c.push_copies.new.copies.items ≡ copies_from b c.args.first (films_of (take (i + 1) stock)) =
    c.in_ok-push_copies.ensures.rows ∙ ap (λ (rs : List (Row BookCopy)). rs ++ new) inv.1 ∙ row_more b c.args.first done row (vec_len c.loop-row.copies) inv.0
    ∙ ap (λ (rs : List StockFound). copies_from b c.args.first (films_of rs)) (sym taken) in
    (omega (arith, c.in_ok-push_copies.ensures.len, inv.0, count), rows)
