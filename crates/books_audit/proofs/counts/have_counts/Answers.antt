use Rattle.std.proofs.Common.{Bool, ◌∙◌, sym, true≢false}
use Rattle.books_audit.proofs.CustodyAudits.{if_ok_then}
use Rattle.books_audit.proofs.TripleLemmas.{pair_rows}
use Rattle.books_audit.proofs.counts.have_counts.Goals as goal

pub returns-then-not-are_termed : goal.returns-then-not-are_termed
returns-then-not-are_termed c =
    let termed = rw (c.as_slice-terms.ensures.value, c.as_slice-rentals.ensures.value) at c.are_termed.ensures in
    (λ h. absurd (true≢false (sym h)), λ h. absurd (true≢false (sym (termed ∙ h.terms) ∙ c.if-not-are_termed.true)))

pub returns-then-not-branch-2 : goal.returns-then-not-branch-2
returns-then-not-branch-2 c =
    let pairs = rw (c.of-2.ensures, pair_rows c.in_ok-pairs.pairs.items _ c.in_ok-pairs.ensures, c.as_slice.ensures.value) at c.in_ok-has_rows-2.ensures in
    (λ h. absurd (true≢false (sym h)), λ h. absurd (true≢false (sym (pairs.1 h.pairs) ∙ c.if-not-branch-2.true)))

pub returns : goal.returns
returns c =
    let termed = rw (c.as_slice-terms.ensures.value, c.as_slice-rentals.ensures.value) at c.are_termed.ensures in
    let outs = rw (c.of.ensures, c.in_ok-outs.ensures, c.as_slice-rentals.ensures.value) at c.in_ok-has_rows.ensures in
    let pairs = rw (c.of-2.ensures, pair_rows c.in_ok-pairs.pairs.items _ c.in_ok-pairs.ensures, c.as_slice.ensures.value) at c.in_ok-has_rows-2.ensures in
    if_ok_then c.has_rows-3.result (λ (b : Bool) is.
    let counters = rw (c.of-3.ensures, c.in_ok-counters.ensures) at is in (
      λ h.
          record {
            counters = counters.0 h;
            outs = outs.0 c.if-not-branch.false;
            pairs = pairs.0 c.if-not-branch-2.false;
            terms = sym termed ∙ c.if-not-are_termed.false;
          },
      λ h. counters.1 h.counters,
    )) c.has_rows-3.ensures
