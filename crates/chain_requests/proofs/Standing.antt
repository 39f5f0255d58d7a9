-- A request keeps what the chain knows of its books true.
use Rattle.shop_schema.proofs.Common.{◌≤◌, ℕ, inl, inr, refl, cases_Bool, Limits, lacks, Command, OfficeCommand, Verdict, Again, Refused, Accepted, verdict}
use Rattle.shop_schema.proofs.Common.{office_verdict, Request, Unread, Do, Look, Office, OfficeLook, if_accepted, office_done, Books, Caller, Counter}
use Rattle.shop_schema.proofs.Common.{HeadOffice, Nobody, shop_of, book_done, branch_after, office_after, known_caller, IsSound, after_sound, IsHeld, IsNumber}
use Rattle.shop_schema.proofs.Common.{IsCommand, IsKey, IsOfficeAct, AreValues}
use Rattle.shop_schema.proofs.Values.{held_by_sound, acts_fit}
use Rattle.shop_schema.proofs.OfficeActs.{office_values_done}
use Rattle.stock_csv.proofs.ReadingLemmas.{stock_fits}
use Rattle.branch_work.specs.Rules.{rules_of}
use Rattle.chain_requests.specs.Chains.{widest_rules}
use Rattle.chain_requests.specs.Steps.{IsAsker, IsAsked}
use Rattle.branch_work.specs.Works.{left_by}
use Rattle.chain_requests.proofs.ConsignValues.{accepted_values}

pub are_held : (books : Books) → IsSound widest_rules books → AreValues books → IsHeld books
are_held books sound values = held_by_sound widest_rules books refl refl sound values

pub sound_after : (limits : Limits) (caller : Caller) (request : Request) (books : Books)
    → limits.commands ≤ 1_000_000 → limits.copies ≤ 1_000_000 → IsSound widest_rules books
    → IsSound widest_rules (left_by limits caller request books)
sound_after limits caller request books most fit sound =
    after_sound (rules_of limits) widest_rules (known_caller books.catalogue caller) request books most fit sound

module _ (limits : Limits) (books : Books) (held : IsHeld books) (sound : IsSound widest_rules books) where
  done_values : (b : ℕ) → IsNumber b → (command : Command) → IsCommand command → (v : Verdict)
      → IsSound widest_rules (if_accepted v (book_done (rules_of limits) b command books) books)
      → AreValues (if_accepted v (book_done (rules_of limits) b command books) books)
  done_values b branch command is (Again text) after = held.values
  done_values b branch command is (Refused refusal) after = held.values
  done_values b branch command is Accepted after =
      accepted_values (rules_of limits) b command books branch is held sound after (acts_fit (rules_of limits) stock_fits command.act)

  branch_values : (b : ℕ) → IsNumber b → (request : Request) → IsAsked request → IsSound widest_rules (branch_after (rules_of limits) b request books)
      → AreValues (branch_after (rules_of limits) b request books)
  branch_values b branch (Do command) asked after =
      done_values b branch command asked (verdict (rules_of limits) b books.catalogue (shop_of b books) command) after
  branch_values b branch (Unread refusal) asked after = held.values
  branch_values b branch (Look ask) asked after = held.values
  branch_values b branch (Office command) asked after = held.values
  branch_values b branch (OfficeLook ask) asked after = held.values

  office_done_values : (command : OfficeCommand) → IsKey command.key → IsOfficeAct command.act → (v : Verdict)
      → AreValues (record books { catalogue = if_accepted v (office_done command books.catalogue) books.catalogue })
  office_done_values command key act (Again text) = held.values
  office_done_values command key act (Refused refusal) = held.values
  office_done_values command key act Accepted = office_values_done command books act key held.values held.few_shared

  office_request_values : (request : Request) → IsAsked request → AreValues (office_after (rules_of limits) request books)
  office_request_values (Office command) asked = office_done_values command asked.0 asked.1 (office_verdict (rules_of limits) books.catalogue command)
  office_request_values (Unread refusal) asked = held.values
  office_request_values (Do command) asked = held.values
  office_request_values (Look ask) asked = held.values
  office_request_values (OfficeLook ask) asked = held.values

  values_left : (caller : Caller) → IsAsker caller → (request : Request) → IsAsked request
      → IsSound widest_rules (left_by limits caller request books) → AreValues (left_by limits caller request books)
  values_left (Counter b) branch request asked after = elim (cases_Bool (lacks books.catalogue.branches b)) [
    | inl none ↦ rw none held.values
    | inr there ↦ rw there (branch_values b branch request asked (rw there at after))
  ]
  values_left HeadOffice who request asked after = office_request_values request asked
  values_left Nobody who request asked after = held.values

  pub values_after : (caller : Caller) → IsAsker caller → (request : Request) → IsAsked request
      → limits.commands ≤ 1_000_000 → limits.copies ≤ 1_000_000 → AreValues (left_by limits caller request books)
  values_after caller who request asked most fit = values_left caller who request asked (sound_after limits caller request books most fit sound)
