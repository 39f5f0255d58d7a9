use Rattle.std.proofs.Common.{◌≡◌, false, map, string_bytes, inl, inr}
use Rattle.till_program.specs.Prompting.{is_idle}
use Rattle.till_program.proofs.prompt.perform_line.Goals as goal

pub returns-clause-done : goal.returns-clause-done
returns-clause-done g c =
    let said : is_idle (map string_bytes c.in-Ok.more.items) ≡ false = cc in
    inr (map string_bytes c.in-Ok.more.items, c.in-Ok.ensures.ok, inr (said, c.in_ok-perform_said.ensures.done))
