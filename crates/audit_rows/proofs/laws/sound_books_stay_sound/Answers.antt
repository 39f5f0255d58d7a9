use Rattle.audit_rows.proofs.Transfer.{stays_sound}
use Rattle.audit_rows.proofs.laws.sound_books_stay_sound.Goals as goal

pub returns : goal.returns
returns c = stays_sound
