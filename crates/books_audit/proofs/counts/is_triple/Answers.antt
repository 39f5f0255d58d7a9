use Rattle.std.proofs.Common.{◌∙◌, sym, arith, true≢false}
use Rattle.books_audit.proofs.TripleLemmas.{triple_row, as_wide, whole_first, whole_second, whole_third}
use Rattle.books_audit.proofs.counts.is_triple.Goals as goal

pub returns-then-column_count-ne3 : goal.returns-then-column_count-ne3
returns-then-column_count-ne3 c =
    (λ h. absurd (true≢false (sym h)), λ it. absurd (c.if-column_count-ne3.true (c.column_count.ensures ∙ as_wide c.args.row.now it)))

pub returns-then-not-is_number_at : goal.returns-then-not-is_number_at
returns-then-not-is_number_at c = (
  λ h. absurd (true≢false (sym h)),
  λ it.
      let wide = as_wide c.args.row.now it in
      absurd (true≢false (sym (c.is_number_at.ensures.1 (omega (arith, wide), whole_first c.args.row.now it)) ∙ c.if-not-is_number_at.true)),
)

pub returns-then-not-is_number_at-2 : goal.returns-then-not-is_number_at-2
returns-then-not-is_number_at-2 c = (
  λ h. absurd (true≢false (sym h)),
  λ it.
      let wide = as_wide c.args.row.now it in
      absurd (true≢false (sym (c.is_number_at-2.ensures.1 (omega (arith, wide), whole_second c.args.row.now it)) ∙ c.if-not-is_number_at-2.true)),
)

pub returns : goal.returns
returns c =
    let first = (c.is_number_at.ensures.0 c.if-not-is_number_at.false).1 in
    let second = (c.is_number_at-2.ensures.0 c.if-not-is_number_at-2.false).1 in (
      λ h.
          let third = (c.is_number_at-3.ensures.0 h).1 in (
            record { first = first.0; second = second.0; third = third.0 },
            triple_row c.args.row.now first.0 second.0 third.0 (sym c.column_count.ensures ∙ c.if-column_count-ne3.false) first.1 second.1 third.1,
          ),
      λ it. let wide = as_wide c.args.row.now it in c.is_number_at-3.ensures.1 (omega (arith, wide), whole_third c.args.row.now it),
    )
