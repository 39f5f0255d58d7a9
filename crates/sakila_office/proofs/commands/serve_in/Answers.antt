use Rattle.shop_schema.proofs.Common.{◌≡◌, ◌∙◌, ℕ, Bool, true, false, refl, arith, Keeps-refl}
use Rattle.chain_requests.specs.Holding.{holding}
use Rattle.sakila_office.specs.Commands.{served}
use Rattle.sakila_office.proofs.Books.{is_opened}
use Rattle.sakila_office.proofs.commands.serve_in.Goals as goal

is_sound : (failed : Bool) (status : ℕ) → (failed ≡ true → status ≡ 3) → status ≡ 0 → failed ≡ false
is_sound false status told none = refl
is_sound true status told none = absurd (omega (arith, told refl))

pub returns-in-Ok-clause-serves : goal.returns-in-Ok-clause-serves
returns-in-Ok-clause-serves g c output =
    let opened = c.in-Ok.ensures.opened in
    let found = opened.3 in
    let ran = c.serve_port-status.ensures.ran in
    let chain = c.serve_port-status.new.chain in
    let fine = is_sound chain.is_failed c.serve_port-status.result c.serve_port-status.ensures.failed in
    served (record {
      files = opened.0;
      left = c.close.result;
      exchanges = ran.0;
      this = λ honest. found.this (ran.1.takes.clean (c.close.ensures.clean honest));
      sound = λ honest.
          let disk = c.close.ensures.clean honest in
          let it = found.sound (ran.1.takes.clean disk) in
          let went = ran.1.takes.goes disk it.0 it.0 it.2 in (
            it.0,
            it.1,
            rw (← is_opened c.in-Ok.chain it.0 (found.limits ∙ c.default.ensures) found.live)
                (holding chain went.0 went.1, went.2, (λ live. c.close.ensures.keeps live went.0 went.1 went.3), fine),
          );
      runs = λ honest books holds.
          let disk = c.close.ensures.clean honest in
          let went = ran.1.takes.goes disk books books (found.found (ran.1.takes.clean disk) books holds) in
          rw (← is_opened c.in-Ok.chain books (found.limits ∙ c.default.ensures) found.live)
          (holding chain went.0 went.1, went.2, (λ live. c.close.ensures.keeps live went.0 went.1 went.3), fine);
    }) c.serve_port-status.ensures.status (Keeps-refl output) (Keeps-refl _)
