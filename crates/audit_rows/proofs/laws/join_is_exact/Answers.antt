use Rattle.audit_rows.proofs.JoinLemmas.{join_sound}
use Rattle.audit_rows.proofs.laws.join_is_exact.Goals as goal

pub returns-clause-sound : goal.returns-clause-sound
returns-clause-sound c = join_sound
