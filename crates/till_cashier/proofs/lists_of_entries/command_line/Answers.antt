use Rattle.till_cashier.proofs.lists_of_entries.command_line.Goals as goal

pub returns : goal.returns
returns g c = (c.on_wall-command.result, c.on_wall-command.ensures, c.in_ok-what.ensures)
