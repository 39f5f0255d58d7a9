-- What an audit says of sound books.
use Rattle.shop_schema.proofs.Common.{refl, IsTrue, State, Books, IsSound, Audit, AreValues}
use Rattle.books_audit.proofs.SoundKeys.{keys_of_sound}
use Rattle.chain_requests.specs.Chains.{Rests, widest_rules}
use Rattle.chain_requests.specs.Audits.{AuditsState, IsAuditOfBooks, TellsSoundness}

-- if the tables stand for sound books, an audit says so, and counts their copies
pub audit_of_books : (s : State) (audit : Audit) → AuditsState s audit → (books : Books)
    → Rests s books → AreValues books → IsSound widest_rules books → IsAuditOfBooks audit books
audit_of_books s audit says books rests values sound =
    let holds = rests.now says.is_open in
    let audits = (says.audits holds.schema_is).books in
    let counts = audits.counts books holds.stands values (keys_of_sound widest_rules books sound) in
    let is : IsTrue audit.sound = (audits.sound widest_rules).1 (books, holds.stands, values, sound) in
    rw (is, counts.made, counts.here, counts.transit, counts.gone) refl

-- the audit says sound exactly if the tables stand for sound books
pub tells_soundness : (s : State) (audit : Audit) → AuditsState s audit → TellsSoundness audit.sound s
tells_soundness s audit says = (says.is_open, λ shop. (says.audits shop).books.sound widest_rules)
