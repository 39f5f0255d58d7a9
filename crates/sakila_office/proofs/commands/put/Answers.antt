use Rattle.shop_schema.proofs.Common.{◌∙◌, seen_reply}
use Rattle.chain_requests.specs.Holding.{holding}
use Rattle.sakila_office.specs.Commands.{answered}
use Rattle.sakila_office.proofs.Books.{is_opened}
use Rattle.sakila_office.proofs.commands.put.Goals as goal

pub returns-in-Ok-clause-puts : goal.returns-in-Ok-clause-puts
returns-in-Ok-clause-puts g c =
    let opened = c.in-Ok.ensures.opened in
    let files = opened.0 in
    let found = opened.3 in
    let taken = c.answer-reply.ensures.taken in
    answered (seen_reply c.answer-reply.result) (record {
      files = files;
      left = c.close.result;
      this = λ honest. found.this (taken.clean (c.close.ensures.clean honest));
      sound = λ honest.
          let disk = c.close.ensures.clean honest in
          let it = found.sound (taken.clean disk) in
          let went = taken.goes disk it.0 it.0 it.2 in (
            it.0,
            it.1,
            rw (← is_opened c.in-Ok.chain it.0 (found.limits ∙ c.default.ensures) found.live)
                (holding c.answer-reply.new.self went.0 went.1, went.2, λ live. c.close.ensures.keeps live went.0 went.1 went.3),
          );
      answers = λ honest books holds.
          let disk = c.close.ensures.clean honest in
          let went = taken.goes disk books books (found.found (taken.clean disk) books holds) in
          rw (← is_opened c.in-Ok.chain books (found.limits ∙ c.default.ensures) found.live)
          (holding c.answer-reply.new.self went.0 went.1, went.2, λ live. c.close.ensures.keeps live went.0 went.1 went.3);
    }) c.tell.ensures.told
