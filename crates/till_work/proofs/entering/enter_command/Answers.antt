use Rattle.sql_rows.proofs.Common.{◌≡◌, ◌∙◌, ◌<◌, ◌^◌, List, ℕ, refl, ap, subst, arith, state, HasCleanDisk}
use Rattle.shop_model.specs.Values.{Command}
use Rattle.shop_types.specs.Seen.{seen_command}
use Rattle.till_model.specs.Numbered.{IsAfterLast}
use Rattle.till_client.proofs.SoleMessages.{one_command}
use Rattle.till_book.specs.Steps.{IsEntered}
use Rattle.till_work.proofs.Saying.{keeps_book}
use Rattle.till_work.specs.Entering.{LeavesCommand}
use Rattle.till_work.proofs.Stops.{nothing_left, command_left}
use Rattle.till_work.proofs.entering.enter_command.Goals as goal

pub returns-then-not-is_later-clause-fault : goal.returns-then-not-is_later-clause-fault
returns-then-not-is_later-clause-fault g c clean =
    let found = c.in-Ok-last_moment.ensures.found clean in
    let sealed = seen_command c.in-Ok.sealed.command in (
      found.0,
      λ journal commands command rests next say says after.
          let same : command ≡ sealed = one_command c.args.request.items c.args.token.now c.args.token.now command sealed says c.in-Ok.ensures.ok.1 in
          c.if-not-is_later.ensures.no commands (found.1 journal commands rests next say) refl
          (subst (λ (it : Command). IsAfterLast commands it.moment) same after),
    )

pub returns-then-not-is_later-clause-crash : goal.returns-then-not-is_later-clause-crash
returns-then-not-is_later-clause-crash g c =
    nothing_left (state g.S.Store c.args.conn.now) (state g.S.Store c.last_moment.new.conn)
    (LeavesCommand c.args.mark.now c.args.token.now c.args.number c.args.request.items (state g.S.Store c.args.conn.now)) c.last_moment.ensures.crash

pub returns-in-Ok-enter-clause-entered : goal.returns-in-Ok-enter-clause-entered
returns-in-Ok-enter-clause-entered g c clean =
    let own = c.in-Ok.ensures.ok in
    let command = seen_command c.in-Ok.sealed.command in
    let request = c.args.request.items in
    let small : c.args.number < 2 ^ 32 = omega (arith, c.ranges.number.fits) in
    let clean_mid : HasCleanDisk (state g.S.Store c.last_moment.new.conn) = omega (arith, clean, c.enter.ensures.crash.clean) in
    let found = c.in-Ok-last_moment.ensures.found clean_mid in
    let bytes : c.as_slice.result.now ≡ request = c.as_slice.ensures.value ∙ ap (λ v. v.items) own.0 in
    let made =
    subst (λ (l : List ℕ). IsEntered c.args.number l (state g.S.Store c.last_moment.new.conn) (state g.S.Store c.enter.new.conn)) bytes
    (c.in-Ok-enter.ensures.made clean) in
    record {
      says = own.1;
      key = own.2;
      entered = λ journal rests next. made journal (found.0 journal rests) next;
      keeps = λ journal commands rests next book.
          keeps_book c.args.mark.now c.args.number journal commands request command small next book (c.args.token.now, own.1) own.2
          (c.if-not-is_later.ensures.yes commands (found.1 journal commands rests next book.says) refl);
    }

pub returns-clause-crash : goal.returns-clause-crash
returns-clause-crash g c =
    let own = c.in-Ok.ensures.ok in
    let command = seen_command c.in-Ok.sealed.command in
    let request = c.args.request.items in
    let small : c.args.number < 2 ^ 32 = omega (arith, c.ranges.number.fits) in
    command_left c.args.mark.now c.args.token.now c.args.number c.as_slice.result.now request command (state g.S.Store c.args.conn.now)
    (state g.S.Store c.last_moment.new.conn) (state g.S.Store c.enter.new.conn)
    (c.as_slice.ensures.value ∙ ap (λ v. v.items) own.0) own.1 c.last_moment.ensures.crash
    (λ clean. (c.in-Ok-last_moment.ensures.found clean).0)
    (λ clean journal commands rests next book.
    keeps_book c.args.mark.now c.args.number journal commands request command small next book (c.args.token.now, own.1) own.2
    (c.if-not-is_later.ensures.yes commands ((c.in-Ok-last_moment.ensures.found clean).1 journal commands rests next book.says) refl))
    c.enter.ensures.crash

pub returns-in-Ok-enter-clause-crash : goal.returns-in-Ok-enter-clause-crash
returns-in-Ok-enter-clause-crash g c =
    let own = c.in-Ok.ensures.ok in
    let command = seen_command c.in-Ok.sealed.command in
    let request = c.args.request.items in
    let small : c.args.number < 2 ^ 32 = omega (arith, c.ranges.number.fits) in
    command_left c.args.mark.now c.args.token.now c.args.number c.as_slice.result.now request command (state g.S.Store c.args.conn.now)
    (state g.S.Store c.last_moment.new.conn) (state g.S.Store c.enter.new.conn)
    (c.as_slice.ensures.value ∙ ap (λ v. v.items) own.0) own.1 c.last_moment.ensures.crash
    (λ clean. (c.in-Ok-last_moment.ensures.found clean).0)
    (λ clean journal commands rests next book.
    keeps_book c.args.mark.now c.args.number journal commands request command small next book (c.args.token.now, own.1) own.2
    (c.if-not-is_later.ensures.yes commands ((c.in-Ok-last_moment.ensures.found clean).1 journal commands rests next book.says) refl))
    c.enter.ensures.crash
