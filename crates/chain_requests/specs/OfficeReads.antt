-- Head office's readings of the books of a chain.
use Rattle.std.specs.Prelude.{◌≡◌}
use Rattle.sqlite.specs.State.{State}
use Rattle.shop_model.specs.Values.{Custody, Audit}
use Rattle.shop_model.specs.Answers.{Answer, answer_of}
use Rattle.shop_model.specs.Books.{Books, Mark}
use Rattle.shop_model.specs.Sound.{IsSound}
use Rattle.shop_model.specs.Office.{office_look}
use Rattle.shop_types.specs.declared.request.OfficeAsk.{OfficeAsk}
use Rattle.shop_types.specs.Seen.{seen_office_ask}
use Rattle.shop_schema.specs.Held.{IsHeld}
use Rattle.chain_requests.specs.Chains.{Rests, widest_rules}

-- the reply that says where the copy of a mark is, or why there is no such reply
abbrev pub custody_told : Mark → Books → Answer
custody_told mark books = answer_of (office_look (Custody mark.branch mark.copy) books)

-- the answer is right for the sound books that the chain has
abbrev pub TellsCustody : Mark → Answer → State → Type 0
TellsCustody mark answer old = (books : Books) → Rests old books → IsHeld books → IsSound widest_rules books → answer ≡ custody_told mark books

-- the answer is an audit of the sound books that the chain has
abbrev pub TellsAudit : Answer → State → Type 0
TellsAudit answer old = (books : Books) → Rests old books → IsHeld books → IsSound widest_rules books → answer ≡ answer_of (office_look Audit books)

abbrev pub TellsOffice : OfficeAsk → Answer → State → Type 0
TellsOffice ask answer old =
    (books : Books) → Rests old books → IsHeld books → IsSound widest_rules books → answer ≡ answer_of (office_look (seen_office_ask ask) books)
