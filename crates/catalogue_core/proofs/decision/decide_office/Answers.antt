use Rattle.shop_types.proofs.Common.{◌∙◌, refl, sym, ap, Some, Verdict, first, seen_office}
use Rattle.catalogue_core.specs.Decided.{fresh_refusals}
use Rattle.catalogue_core.proofs.ActLemmas.{fresh, accepted}
use Rattle.catalogue_core.proofs.decision.decide_office.Goals as goal

pub returns-in-Some-first_refusal : goal.returns-in-Some-first_refusal
returns-in-Some-first_refusal c = λ rules catalogue commands shares.
    let command = seen_office c.args.command.now in
    let said = c.in-Some-first_refusal.ensures rules catalogue command refl commands shares in
    let new = fresh rules catalogue command c.args.shared.now.kept c.in-None.is shares.kept in
    ap (λ (v : Verdict). Some v) new ∙ sym said

pub returns-in-None-first_refusal : goal.returns-in-None-first_refusal
returns-in-None-first_refusal c = λ rules catalogue commands shares.
    let command = seen_office c.args.command.now in
    let said = c.in-None-first_refusal.ensures rules catalogue command refl commands shares in
    let new = fresh rules catalogue command c.args.shared.now.kept c.in-None.is shares.kept in
    new ∙ accepted (first (fresh_refusals rules catalogue command)) said
