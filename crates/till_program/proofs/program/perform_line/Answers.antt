use Rattle.std.proofs.Common.{◌≡◌, ◌∙◌, List, ℕ, inl, inr, refl, rules, subst}
use Rattle.till_words.specs.declared.words.TillAct.TheVariants as typed
use Rattle.till_program.specs.Lines.{DoesZone, IsHelp, about, ready_text, sent_file}
use Rattle.till_program.proofs.LineLaws.{act_as, act_done, helped, not_begun}
use Rattle.till_program.proofs.OutputLaws.{said_done, said_greeting, said_more, shows_more}
use Rattle.till_program.proofs.program.perform_line.Goals.{in-Prompt+else-eq, in-Help-1}
use Rattle.till_program.proofs.program.perform_line.Goals as goal

pub returns-in-Init-clause-done : goal.returns-in-Init-clause-done
returns-in-Init-clause-done g c =
    let line = about c.args.given.now.standing.staff (sent_file c.args.given.now.stock) c.args.line in
    act_as line _ _ _ c.args.held.now c.close_held.new.held c.args.line.act (typed.Init c.in-Init.beginning) _ c.in-Init.is c.at.ensures
    (c.close_held.ensures, said_done c.begin.result (λ text. text ≡ ready_text) _ _ _ c.begin.ensures c.print-status.ensures.shown)

pub returns-in-Init-clause-grows : goal.returns-in-Init-clause-grows
returns-in-Init-clause-grows g c = said_more c.begin.result _ _ _ c.print-status.ensures.shown

pub returns-in-Prompt-clause-done : goal.returns-in-Prompt-clause-done
returns-in-Prompt-clause-done g c =
    let line = about c.args.given.now.standing.staff (sent_file c.args.given.now.stock) c.args.line in
    act_as line _ _ _ c.args.held.now c.args.held.now c.args.line.act typed.Prompt _ c.in-Prompt.is c.at-in-Prompt.ensures
    (refl, said_greeting c.greeted-said.result _ _ _ c.greeted-said.ensures c.print.ensures.shown)

pub returns-in-Prompt-clause-grows : goal.returns-in-Prompt-clause-grows
returns-in-Prompt-clause-grows g c = said_more c.greeted-said.result _ _ _ c.print.ensures.shown

pub returns-in-Help-clause-done : goal.returns-in-Help-clause-done
returns-in-Help-clause-done g c =
    let line = about c.args.given.now.standing.staff (sent_file c.args.given.now.stock) c.args.line in
    helped line _ _ _ c.args.held.now c.args.held.now c.args.line.act _ (elim c.in-Help-1.branch [
      | in-Prompt+else-eq w ↦ inr w.in-Prompt.is
      | in-Help-1 w ↦ inl (search rules)
    ]) c.at-in-Help.ensures refl
    (said_done c.help.result IsHelp _ _ _ c.help.ensures c.print-in-Help.ensures.shown)

pub returns-in-Help-clause-grows : goal.returns-in-Help-clause-grows
returns-in-Help-clause-grows g c = said_more c.help.result _ _ _ c.print-in-Help.ensures.shown

pub returns-in-Zone-clause-done : goal.returns-in-Zone-clause-done
returns-in-Zone-clause-done g c =
    let line = about c.args.given.now.standing.staff (sent_file c.args.given.now.stock) c.args.line in
    let named = c.as_str-in-Zone.ensures.value ∙ c.in_ok-book.ensures in
    let done = subst (λ (name : List ℕ). DoesZone name c.in-Zone.zone c.perform_zone-status.result c.args.held.now c.perform_zone-status.new.held) named
    c.perform_zone-status.ensures.done in
    act_as line _ _ _ c.args.held.now c.perform_zone-status.new.held c.args.line.act (typed.Zone c.in-Zone.zone) _ c.in-Zone.is c.at-in-Zone.ensures
    (done, c.perform_zone-status.ensures.shown)

pub returns-in-Zone-clause-grows : goal.returns-in-Zone-clause-grows
returns-in-Zone-clause-grows g c = shows_more _ _ _ _ c.perform_zone-status.ensures.shown

pub returns : goal.returns
returns g c =
    let line = about c.args.given.now.standing.staff (sent_file c.args.given.now.stock) c.args.line in
    record {
      ended = c.at_book.ensures.ended;
      done = act_done c.as_str-in_default-2.result.now line _ _ c.args.held.now c.at_book.new.held c.at_book.result c.args.line.act
          c.in_ok-act-in_default.act c.or-in_default.result (c.as_str-in_default-2.ensures.value ∙ c.in_ok-book.ensures) c.or-in_default.ensures
          c.in_default.not-Init c.in_default.not-Zone c.in_default.not-Help c.in_default.not-Prompt c.in_ok-act-in_default.ensures
          c.at_book.ensures.attempted;
      stopped = not_begun c.args.held.now c.at_book.new.held c.at_book.result c.at_book.ensures.closed;
      silent = c.at_book.ensures.silent;
      grows = c.at_book.ensures.grows;
    }
