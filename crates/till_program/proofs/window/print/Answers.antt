use Rattle.till_program.proofs.window.print.Goals as goal

pub returns-in-Ok-clause-shown : goal.returns-in-Ok-clause-shown
returns-in-Ok-clause-shown g c =
    (c.in-Ok.reply.status, c.in-Ok.reply.out.now, c.in-Ok.reply.err.now, c.in-Ok.ensures.found, c.relay.ensures)
