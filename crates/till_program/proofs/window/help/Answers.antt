use Rattle.till_program.proofs.window.help.Goals as goal

pub returns-clause-done : goal.returns-clause-done
returns-clause-done g c =
    rw (c.as_slice.ensures.value, c.in_ok-push.ensures.items, c.new-words.ensures.items, c.in_ok-from_str.ensures.ok) at c.run_till.ensures
