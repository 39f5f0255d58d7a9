use Rattle.sql_rows.proofs.Common.{◌≡◌, ◌∙◌, List, ℕ, sym, ap, subst, false≢true}
use Rattle.std.proofs.lemmas.Slice.Eq.{bytes_eq-Decides}
use Rattle.shop_model.specs.Values.{Command}
use Rattle.shop_types.specs.Seen.{seen_command}
use Rattle.till_model.specs.Numbered.{key_of}
use Rattle.till_client.specs.Sealing.{SaysCommand}
use Rattle.till_client.proofs.SoleMessages.{one_command}
use Rattle.till_work.proofs.entering.fit.Goals as goal

pub returns-in-Ok-false-clause-err : goal.returns-in-Ok-false-clause-err
returns-in-Ok-false-clause-err c command says key =
    let own = c.in-Ok.ensures.ok in
    let sealed = seen_command c.in-Ok.sealed.command in
    let said : SaysCommand c.args.request.items c.args.token.now sealed =
    subst (λ (l : List ℕ). SaysCommand l c.args.token.now sealed) (ap (λ v. v.items) own.0) own.1 in
    let same : command ≡ sealed = one_command c.args.request.items c.args.token.now c.args.token.now command sealed says said in
    let is : sealed.key ≡ key_of c.args.mark.now c.args.number = ap (λ (it : Command). it.key) (sym same) ∙ key in
    false≢true (sym c.in-Ok-false.field-0-test ∙ c.in-Ok-false.ensures ∙ (bytes_eq-Decides sealed.key (key_of c.args.mark.now c.args.number)).1 is)
