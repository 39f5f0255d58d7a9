use Rattle.std.proofs.Common.{sym, true≢false}
use Rattle.books_audit.proofs.TripleLemmas.{not_wanted, rows_from_counts, counts_from_rows}
use Rattle.books_audit.proofs.counts.has_rows.Goals as goal

pub returns-in_default : goal.returns-in_default
returns-in_default c =
    (λ h. absurd (true≢false (sym h)), λ h. absurd (not_wanted c.args.rows.now c.args.wanted.items (rw c.in_default.is at c.in_ok-found.ensures.none) h))

pub returns : goal.returns
returns c =
    let are = rw c.in-Some.is at c.in_ok-found.ensures.found in (
      λ h. rows_from_counts c.args.rows.now c.in-Some.found.items c.args.wanted.items are (c.same_bag.ensures.0 h),
      λ h. c.same_bag.ensures.1 (counts_from_rows c.args.rows.now c.in-Some.found.items c.args.wanted.items are h),
    )
