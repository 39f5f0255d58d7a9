use Rattle.std.proofs.Common.{◌∙◌, ◌<◌, ◌^◌, arith, ap, sym, map, length, true≢false}
use Rattle.audit_rows.specs.Lists.{counts_from}
use Rattle.books_audit.proofs.lists.read_shared.Goals as goal
use Rattle.audit_rows.proofs.Tests.{counted_is, is_counted}

pub returns-then-not-are_placed-clause-none : goal.returns-then-not-are_placed-clause-none
returns-then-not-are_placed-clause-none g c e h =
    let is = c.are_placed.ensures ∙ ap (λ xs. counts_from 1 (map g.T.Shared.place xs)) c.as_slice.ensures.value in
    true≢false (sym (is_counted 1 _
    (h.counted c.in-Some.all.items _ (rw (c.of-rows.ensures, c.in-Some.is) at c.in_ok-all.ensures.found)
    c.sort_places.ensures.permutation c.sort_places.ensures.sorted))
    ∙ sym is ∙ c.if-not-are_placed.true)

pub returns-clause-read : goal.returns-clause-read
returns-clause-read g c =
    let is = c.are_placed.ensures ∙ ap (λ xs. counts_from 1 (map g.T.Shared.place xs)) c.as_slice.ensures.value in
    let low = c.if-rows-gt4294967295.false in
    let few : length c.of-rows.result.now < 2 ^ 32 = omega (arith, low) in record {
      found = c.in-Some.all.items;
      are_rows = rw (c.of-rows.ensures, c.in-Some.is) at c.in_ok-all.ensures.found;
      few = rw c.of-rows.ensures at few;
      sorted = c.sort_places.new.rows.items;
      same = c.sort_places.ensures.permutation;
      counted = counted_is 1 _ (sym is ∙ c.if-not-are_placed.false);
      keeps = c.in_ok-keep_all.ensures;
    }
