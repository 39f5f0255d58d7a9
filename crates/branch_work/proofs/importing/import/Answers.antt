use Rattle.shop_schema.proofs.Common.{◌≡◌, ◌≤◌, ◌+◌, ◌∙◌, ◌++◌, ◌∷◌, [], ℕ, List, codes, decimal, ap, sym, subst, arith, length, map, state, and_then}
use Rattle.shop_schema.proofs.Common.{some_calls, films_in, object, Row, next, of, Text, BookCopy, unmarked, length_map, counts_of, raise, Holds, HoldsWith}
use Rattle.sql_rows.proofs.Chaining.{one_call}
use Rattle.shop_ledger.specs.declared.counts.CountKind.TheVariants as kind
use Rattle.shop_store.specs.Seen.{seen_copy_row}
use Rattle.shop_ledger.proofs.CountsOf.{beside, held_once, told_more}
use Rattle.branch_core.specs.StockLists.{films_of}
use Rattle.branch_core.proofs.StockLemmas.{length_films}
use Rattle.branch_work.specs.Added.{copies_from}
use Rattle.branch_work.proofs.Acted.{carried_out}
use Rattle.branch_work.proofs.Counting.{import_added, with_import}
use Rattle.branch_work.proofs.importing.import.Goals as goal
use Rattle.shop_schema.specs.Counts.{copies_kind}

-- the reply to an import: how many copies came, and the number of the first copy
abbrev import_text : ℕ → ℕ → Text
import_text count first = object ((codes "copies", decimal count) ∷ (codes "first", decimal first) ∷ [])

pub returns : goal.returns
returns g c = λ command file. carried_out
    (and_then (one_call c.in_ok-last.ensures.does)
    (and_then (some_calls c.in_ok-put_copies.ensures)
    (one_call c.in_ok-put_lot.ensures)))
    (λ said rules books holds held agrees marked.
    let b = c.args.branch in
    let low : 1 ≤ b = omega arith in
    let s = state g.S.Store c.put_lot.new.tx.conn.now in
    let stock = c.rows_in-stock.result.now in
    let films = films_of stock in
    let same : films ≡ films_in (rules.stock_of file) = c.rows_in-stock.ensures.films ∙ ap films_in agrees.reading in
    let m = c.copies_in-count.result in
    let first = c.in_ok-first.first in
    let counts = raise b copies_kind m (counts_of books) in
    let all : m ≡ length films = c.copies_in-count.ensures ∙ sym (length_films stock) in
    let taken = said.0 (counts_of books) books (beside _ books holds) (held_once books held kind.Copies b low) in
    let last = told_more b 1 m books c.in_ok-last.last low taken.1 in
    let is : first ≡ next b books.copies = omega (arith, last, c.in_ok-first.ensures.first) in
    let next_is : length (map unmarked (of b books.copies)) + 1 ≡ next b books.copies = ap (λ (n : ℕ). n + 1) (length_map unmarked (of b books.copies)) in
    let lot = said.1.1 counts _ (said.1.0 counts books taken.0 tt) tt in
    let rows : map seen_copy_row c.as_slice.result.now ≡ copies_from b first films =
    ap (map seen_copy_row) c.as_slice.ensures.value ∙ c.in_ok-copies.ensures in (
      subst (λ (fs : List ℕ). Holds s (with_import b fs c.args.lot.now books)) same
          (import_added s b books low holds.stands.more.termed first m films c.args.lot.now is all
          (subst (λ (rs : List (Row BookCopy)).
          HoldsWith counts s (record books { copies = books.copies ++ rs; lots = books.lots ++ record { owner = b; it = c.args.lot.now } ∷ [] }))
          rows lot)),
      c.in_ok-object_text.ensures ∙ (λ i. import_text ((all ∙ ap (λ (fs : List ℕ). length fs) same) i) ((c.get.ensures.value ∙ is ∙ sym next_is) i)),
      tt,
    ))
