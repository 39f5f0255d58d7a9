-- Head office's requests, as requests of a caller.
use Rattle.shop_schema.proofs.Common.{◌≡◌, ◌≢◌, refl, inl, State, Limits, OfficeCommand, Verdict, Again, Refused, Accepted, office_verdict, Office, OfficeLook}
use Rattle.shop_schema.proofs.Common.{office_text, office_done, if_accepted, Answer, Books, HeadOffice, IsSound, seen_office_ask, StoreFault, Failed}
use Rattle.shop_types.specs.declared.request.OfficeAsk.{OfficeAsk}
use Rattle.chain_caches.specs.Films.{AreRows, KnownFilms}
use Rattle.branch_work.specs.Rules.{rules_of}
use Rattle.branch_work.specs.Works.{GoesBy, told_to, left_by, IsHeldWith}
use Rattle.chain_requests.specs.OfficeReads.{TellsOffice}
use Rattle.chain_requests.specs.Chains.{Rests, widest_rules}
use Rattle.chain_requests.specs.Steps.{IsUndone, LeavesEitherOf}

-- head office's command has the reply and the books that its verdict requires
pub office_goes : (limits : Limits) (command : OfficeCommand) (books : Books)
    → GoesBy limits HeadOffice (Office command) (office_verdict (rules_of limits) books.catalogue command)
    (office_text command books.catalogue) (record books { catalogue = office_done command books.catalogue }) books
office_goes limits command books = record { told = refl; left = by (office_verdict (rules_of limits) books.catalogue command) }
  where
    by : (v : Verdict)
        → record books { catalogue = if_accepted v (office_done command books.catalogue) books.catalogue }
        ≡ if_accepted v (record books { catalogue = office_done command books.catalogue }) books
    by (Again text) = refl
    by (Refused refusal) = refl
    by Accepted = refl

-- a reading of head office, of sound books
pub office_read : (limits : Limits) (ask : OfficeAsk) (answer : Answer) (films : KnownFilms) (old new : State) → TellsOffice ask answer old → IsUndone old new
    → (books : Books) → Rests old books → IsHeldWith films books → IsSound widest_rules books
    → (answer ≡ told_to limits HeadOffice (OfficeLook (seen_office_ask ask)) books)
    × Rests new (left_by limits HeadOffice (OfficeLook (seen_office_ask ask)) books)
    × AreRows films (left_by limits HeadOffice (OfficeLook (seen_office_ask ask)) books).catalogue.films
office_read limits ask answer films old new told same books rests held sound = (told books rests held.0 sound, same books rests held.0, held.1)

pub office_unread : (limits : Limits) (ask : OfficeAsk) (fault : StoreFault) (films : KnownFilms) (old new : State) → IsUndone old new
    → (fault ≢ Failed → IsUndone old new) × LeavesEitherOf limits HeadOffice (OfficeLook (seen_office_ask ask)) (IsHeldWith films) old new
office_unread limits ask fault films old new same = (λ other. same, λ books rests held db may. inl ((same books rests held.0).left db may))
