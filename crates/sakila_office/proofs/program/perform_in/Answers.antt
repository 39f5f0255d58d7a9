use Rattle.std.proofs.KnownBytes.{Keeps-refl}
use Rattle.sakila_office.proofs.program.perform_in.Goals as goal

pub returns-in-Office-clause-performs : goal.returns-in-Office-clause-performs
returns-in-Office-clause-performs g c input = rw c.in-Office.is (c.put_request.ensures.puts, Keeps-refl input)

pub returns-in-OfficeLook-clause-performs : goal.returns-in-OfficeLook-clause-performs
returns-in-OfficeLook-clause-performs g c input = rw c.in-OfficeLook.is (c.put_request-in-OfficeLook.ensures.puts, Keeps-refl input)

pub returns-in-Serve-clause-performs : goal.returns-in-Serve-clause-performs
returns-in-Serve-clause-performs g c input = rw c.in-Serve.is (c.serve_in.ensures.serves _, Keeps-refl input)
