use Rattle.std.proofs.Common.{◌≡◌, ◌∙◌, ◌<◌, List, ℕ, Some, sym, ap, subst, arith}
use Rattle.shop_types.specs.Seen.{seen_command}
use Rattle.till_client.specs.Sealing.{IsUnsealed}
use Rattle.till_client.specs.declared.sealed.NotSealed.{NotSealed}
use Rattle.till_work.proofs.Saying.{none_last, last_said, is_last}
use Rattle.till_work.proofs.entering.last_moment.Goals as goal

pub returns-in-Ok-None-clause-fault : goal.returns-in-Ok-None-clause-fault
returns-in-Ok-None-clause-fault g c clean =
    let low : 1 < c.args.number = omega (arith, c.if-number-le1.false) in
    let found = c.in-Ok-None.ensures.found clean in (
      λ journal rests. (found journal rests).0,
      λ journal commands rests next say. none_last c.args.number journal c.in-Ok-None.field-0 low next (found journal rests).1 c.in-Ok-None.field-0-is,
    )

pub returns-in-Ok-clause-found : goal.returns-in-Ok-clause-found
returns-in-Ok-clause-found g c clean =
    let low : 1 < c.args.number = omega (arith, c.if-number-le1.false) in
    let found = c.in-Ok-Some.ensures.found clean in
    let bytes = c.as_slice.result.now in
    let is : c.in-Ok-Some.field-0 ≡ Some bytes = c.in-Ok-Some.field-0-is ∙ ap (λ (l : List ℕ). Some l) (sym c.as_slice.ensures) in (
      λ journal rests. (found journal rests).0,
      λ journal commands rests next say.
          is_last c.args.number journal commands c.in-Ok-Some.field-0 bytes
          (seen_command c.in-Ok.command) low next say (found journal rests).1 is c.in-Ok.ensures.ok,
    )

pub returns-in-Err-Other-clause-fault : goal.returns-in-Err-Other-clause-fault
returns-in-Err-Other-clause-fault g c clean =
    let low : 1 < c.args.number = omega (arith, c.if-number-le1.false) in
    let found = c.in-Ok-Some.ensures.found clean in
    let bytes = c.as_slice.result.now in
    let is : c.in-Ok-Some.field-0 ≡ Some bytes = c.in-Ok-Some.field-0-is ∙ ap (λ (l : List ℕ). Some l) (sym c.as_slice.ensures) in (
      λ journal rests. (found journal rests).0,
      λ journal commands rests next say.
          let said = last_said c.args.number journal commands c.in-Ok-Some.field-0 bytes low next say (found journal rests).1 is in
          subst (λ (fault : NotSealed). IsUnsealed fault bytes said.2.0) c.in-Err-Other.field-0-is (c.in-Err-Other.ensures.err said.2.0) said.0 said.2.1,
    )
