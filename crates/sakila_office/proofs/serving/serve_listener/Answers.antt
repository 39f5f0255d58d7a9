use Rattle.counter_http.proofs.Following.{some_start}
use Rattle.sakila_office.proofs.serving.serve_listener.Goals as goal

pub returns-in_default-clause-ran : goal.returns-in_default-clause-ran
returns-in_default-clause-ran g c = some_start
