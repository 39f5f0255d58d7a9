use Rattle.shop_schema.proofs.Common.{◌≡◌, ◌≤◌, ◌∙◌, refl, ap, subst, arith, string_bytes, state, and_then, done, some_calls, accepted_answer, seen_command}
use Rattle.shop_schema.proofs.Common.{Holds}
use Rattle.branch_work.specs.Rules.{rules_of}
use Rattle.branch_work.proofs.Acted.{acted_done, out_calls}
use Rattle.branch_work.proofs.Counting.{acted_once}
use Rattle.branch_reports.proofs.Decisions.{accepted_told}
use Rattle.branch_work.proofs.requests.add.Goals as goal

pub returns-clause-does : goal.returns-clause-does
returns-clause-does g c = done (and_then (out_calls c.in_ok-text.ensures) (some_calls c.in_ok-keep.ensures)) (λ said. (
  refl,
  λ limits books holds held agrees marked.
      let b = c.args.branch in
      let low : 1 ≤ b = omega arith in
      let command = seen_command c.args.command.now in
      let acted = said.0 (rules_of limits) books holds held agrees marked in
      let kept = said.1 _ acted.0 (acted_once limits b command c.args.command.now.act c.args.rows.now books low held marked acted.2) in
      let reply : c.as_str.result.now ≡ string_bytes c.in_ok-text.text = c.as_str.ensures.value in (
        subst (Holds (state g.S.Store c.keep.new.tx.conn.now)) (acted_done (rules_of limits) b command c.as_str.result.now books (reply ∙ acted.1)) kept,
        c.accepted.ensures ∙ ap accepted_answer acted.1,
      ),
))

pub returns-clause-decided : goal.returns-clause-decided
returns-clause-decided g c = accepted_told _ _ c.accepted.ensures
