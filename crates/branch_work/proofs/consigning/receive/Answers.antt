use Rattle.shop_schema.proofs.Common.{◌≡◌, ◌∙◌, ◌≤◌, ◌++◌, ◌∷◌, [], ℕ, List, Option, Some, length, map, filter, ap, sym, subst, arith, IfSome, state, and_then}
use Rattle.shop_schema.proofs.Common.{some_calls, arrived, next, Consignment, checked, is_consignment, length_map, ParcelLine, counts_of, raise, Holds}
use Rattle.shop_schema.proofs.Common.{HoldsWith}
use Rattle.sql_rows.proofs.Chaining.{one_call}
use Rattle.shop_model.specs.Rows.{update_where}
use Rattle.shop_ledger.specs.declared.counts.CountKind.TheVariants as kind
use Rattle.shop_ledger.proofs.CountsOf.{beside, held_once, told_more}
use Rattle.branch_core.specs.declared.found.ArrivalFound.{ArrivalFound}
use Rattle.branch_core.specs.Marked.{IsArrival}
use Rattle.branch_core.specs.Consigned.{receipt_text}
use Rattle.branch_core.proofs.ConsignedBooks.{receipt_acted, receipt_told}
use Rattle.branch_work.proofs.Acted.{carried_out}
use Rattle.branch_work.proofs.ConsignLemmas.{come_rows, few_arrive, receipt_added, so_many}
use Rattle.branch_work.proofs.consigning.receive.Goals as goal
use Rattle.shop_schema.specs.Counts.{copies_kind}

-- as many lines as were read are at most 100
few_lines : (read lines : List ParcelLine) → read ≡ lines → length read ≤ 100 → length lines ≤ 100
few_lines read lines is few = subst (λ (ls : List ParcelLine). length ls ≤ 100) is few

-- at most as many lines come as were found
few_read : (missing : List ℕ) (read come lines : List ParcelLine) → come ≡ arrived missing lines → read ≡ lines → length read ≤ 100 → length come ≤ 100
few_read missing read come lines come_is is few =
    let less = few_arrive missing lines in
    let same = ap (λ (ls : List ParcelLine). length ls) come_is in
    let short = few_lines read lines is few in
    omega (arith, less, same, short)

pub returns : goal.returns
returns g c = λ command. carried_out
    (and_then (one_call c.in_ok-last.ensures.does)
    (and_then (some_calls c.in_ok-put_come.ensures)
    (some_calls c.in_ok-mark_received.ensures)))
    (λ said rules books holds held agrees marked.
    let b = c.args.branch in
    let low : 1 ≤ b = omega arith in
    let source = c.args.from in
    let n = c.args.number in
    let missing = c.args.missing.now in
    let it = c.in-Some.arrival in
    let come = arrived missing it.lines in
    let first = c.in_ok-first.first in
    let m = length c.as_slice-come.result.now in
    let s = state g.S.Store c.mark_received.new.tx.conn.now in
    let counts = raise b copies_kind m (counts_of books) in
    let slice : c.as_slice-come.result.now ≡ come = c.as_slice-come.ensures.value ∙ c.in-Ok.ensures in
    let all : m ≡ length come = ap (λ (ls : List ParcelLine). length ls) slice in
    let known : IsArrival b source n (Some it) books = subst (λ (o : Option ArrivalFound). IsArrival b source n o books) c.in-Some.is marked in
    let taken = said.0 (counts_of books) books (beside _ books holds) (held_once books held kind.Copies b low) in
    let last = told_more b 1 m books c.in_ok-last.last low taken.1 in
    let is : first ≡ next b books.copies = omega (arith, last, c.in_ok-first.ensures.first) in
    let many : map (λ (it : Consignment). length it.lines) (filter (is_consignment source b n) books.consignments) ≡ length c.as_slice-lines.result.now ∷ [] =
    so_many b source n it books known ∙ ap (λ (ls : List ParcelLine). length ls ∷ []) (sym c.as_slice-lines.ensures.value) in
    let received = said.1.1 counts _ (said.1.0 counts books taken.0 tt) many in
    let rows =
    subst (λ (ls : List ParcelLine).
    HoldsWith counts s
    (record books {
      copies = books.copies ++ come_rows b first ls;
      consignments = update_where (is_consignment source b n) (checked missing) books.consignments;
    }))
    slice received in
    let films : List ℕ = map (λ (line : ParcelLine). line.film) come in
    let films_many : length films ≡ length come = length_map (λ (line : ParcelLine). line.film) come in (
      subst (Holds s) (receipt_acted rules b source n missing books it known command)
          (receipt_added b books low s source n first m it.lines missing is all holds.stands.more.termed rows),
      c.in_ok-counted_text.ensures films (films_many ∙ sym all) ∙ ap (λ (k : ℕ). receipt_text k films) (c.get.ensures.value ∙ is)
          ∙ receipt_told rules b source n missing books it known held.numbers films films_many,
      subst (λ (o : Option ArrivalFound). IfSome o (λ it. length it.lines ≤ 100)) (sym c.in-Some.is)
          (few_lines c.as_slice-lines.result.now it.lines c.as_slice-lines.ensures.value c.as_slice-lines.ensures.few),
    ))

pub overflow_cast-count : goal.overflow_cast-count
overflow_cast-count g c =
    let few =
    few_read c.args.missing.now c.as_slice-lines.result.now c.as_slice-come.result.now c.in-Some.arrival.lines
    (c.as_slice-come.ensures.value ∙ c.in-Ok.ensures) c.as_slice-lines.ensures.value c.as_slice-lines.ensures.few in
    omega (arith, few)

pub put_come-requires-clause-few : goal.put_come-requires-clause-few
put_come-requires-clause-few g c =
    few_read c.args.missing.now c.as_slice-lines.result.now c.as_slice-come.result.now c.in-Some.arrival.lines
    (c.as_slice-come.ensures.value ∙ c.in-Ok.ensures) c.as_slice-lines.ensures.value c.as_slice-lines.ensures.few
