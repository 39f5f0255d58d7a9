use Rattle.shop_schema.proofs.Common.{◌≡◌, ◌∙◌, ◌+◌, ℕ, List, [], Option, length, map, filter, ap, sym, subst, IfSome, state, and_then, some_calls, between}
use Rattle.shop_schema.proofs.Common.{is_consignment, ParcelLine, seen_parcel_line, add_pair, counts_of, Holds, CopyRows}
use Rattle.sql_rows.proofs.Chaining.{one_call}
use Rattle.shop_ledger.proofs.CountsOf.{beside}
use Rattle.consign_store.proofs.PairCounts.{next_is_new, pair_last, pairs_once}
use Rattle.branch_core.specs.Marked.{parts_at}
use Rattle.branch_core.specs.Consigned.{dispatch_text}
use Rattle.branch_core.proofs.ConsignedBooks.{dispatch_acted, dispatch_told}
use Rattle.branch_work.proofs.Acted.{carried_out}
use Rattle.branch_work.proofs.ConsignLemmas.{dispatch_added}
use Rattle.branch_work.proofs.consigning.dispatch.Goals as goal

pub returns : goal.returns
returns g c = λ command. carried_out
    (and_then (one_call c.in_ok-last.ensures)
    (and_then (one_call c.in_ok-number.ensures)
    (and_then (one_call c.in_ok-put_consignment.ensures)
    (some_calls c.in_ok-set_sent.ensures))))
    (λ said rules books holds held agrees marked.
    let b = c.args.branch in
    let to = c.args.to in
    let xs = c.args.copies.now in
    let lines = c.in-Some.lines in
    let n = c.in_ok-number.number in
    let place = c.in_ok-place.place in
    let s = state g.S.Store c.set_sent.new.tx.conn.now in
    let last = said.0 books holds held in
    let taken = said.1.0 (counts_of books) books (beside _ books last.0) (pairs_once b to books held) in
    let next : n ≡ length (between b to books.consignments) + 1 = taken.1 ∙ ap (λ (k : ℕ). k + 1) (pair_last b to books) in
    let behind : place ≡ length books.consignments + 1 = c.in_ok-place.ensures ∙ ap (λ (k : ℕ). k + 1) last.1 in
    let counts = add_pair b to (counts_of books) in
    let new : filter (is_consignment b to n) books.consignments ≡ [] =
    subst (λ (k : ℕ). filter (is_consignment b to k) books.consignments ≡ []) (sym next) (next_is_new b to books held) in
    let set = said.1.1.1 counts _ (said.1.1.0 counts books taken.0 new) (held.numbers.rows CopyRows b) in
    let are : map seen_parcel_line lines ≡ parts_at b xs books =
    subst (λ (it : Option (List ParcelLine)). IfSome it (λ ls. map seen_parcel_line ls ≡ parts_at b xs books)) c.in-Some.is marked in (
      subst (Holds s) (dispatch_acted rules b command to xs lines books held.numbers are)
          (dispatch_added s b to xs lines n place books next behind holds.stands.more.termed set),
      c.in_ok-object_text.ensures ∙ (λ i. dispatch_text ((c.get.ensures.value ∙ next) i) (c.get-2.ensures.value i)) ∙ dispatch_told rules b to xs books,
      tt,
    ))
