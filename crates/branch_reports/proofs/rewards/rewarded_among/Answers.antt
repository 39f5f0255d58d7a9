use Rattle.std.proofs.Common.{◌≡◌, ◌∙◌, ◌+◌, sym, ap, arith, ℕ, List, [], ◌∷◌, ◌++◌}
use Rattle.branch_reports.specs.Rewards.{payments_of, rewarded_numbers}
use Rattle.branch_reports.proofs.RewardLemmas.{number_is, rewarded_more, rewarded_same}
use Rattle.branch_reports.proofs.rewards.rewarded_among.Goals as goal
use Rattle.branch_reports.proofs.rewards.rewarded_among.Goals.{then-passes_for+in_ok-push, else-passes_for}

pub loop-index-preserved : goal.loop-index-preserved
loop-index-preserved c =
    let i = c.loop-index.index in
    let customer = c.unwrap-customer.result in
    let payments = payments_of c.args.rows.now in
    let before = c.loop-index.invariant in
    let number : customer ≡ i + 1 = number_is i customer c.new.result c.new.ensures c.unwrap-customer.ensures in
    let told = c.passes_for.ensures c.args.month payments c.in_ok-sums.ensures in
    elim c.if-passes_for.branch [
      | then-passes_for+in_ok-push w ↦
          rw w.numbers-is (w.in_ok-push.ensures.items ∙ ap (λ (ns : List ℕ). ns ++ customer ∷ []) before
          ∙ sym (rewarded_more c.args.month c.args.purchases c.args.cents i customer payments number (sym told ∙ w.if-passes_for.true)))
      | else-passes_for w ↦
          rw w.numbers-is
          (before ∙ sym (rewarded_same c.args.month c.args.purchases c.args.cents i customer payments number (sym told ∙ w.if-passes_for.false)))
    ]

pub returns : goal.returns
returns c =
    let all : c.loop-index.index ≡ c.args.customers = omega (arith, c.loop-index-test.false, c.loop-index.auto.index-end) in
    c.loop-index.invariant ∙ ap (λ (n : ℕ). rewarded_numbers c.args.month c.args.purchases c.args.cents n (payments_of c.args.rows.now)) all
