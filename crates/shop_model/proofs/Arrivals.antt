-- A command reads of a shop's arrivals only the arrivals from the branch from which it receives one.
use Rattle.shop_model.proofs.Common.{◌≡◌, ℕ, ◌+◌, List, [], ◌∷◌, length, filter, Bool, not, refl, ap, ap₂, ⊤, ◌&&◌, ◌||◌, nat_lt, nat_le, codes, list_any}
use Rattle.shop_model.proofs.Common.{bytes_eq, at, is_empty, total, Moment, Text, Arrival, Act, Import, Receive, Command, Stock, Copies, BadLine, Rules}
use Rattle.shop_model.proofs.Common.{Refusal, Full, MomentBack, NoStaff, NoArrival, ArrivalReceived, BadLines, Catalogue, Shop, Kept, arrival, are_lines}
use Rattle.shop_model.proofs.Common.{new_copies, new_from, act_refusals, import_refusals, is_before, staff_is, verdict, first, resent, incoming, object, Option}
use Rattle.shop_model.proofs.Common.{None, Some, false, true≢false, View, CustomerList, Ask, Arrivals, OneView, Rewards, Reply, Shows, Sorry, CustomersAre}
use Rattle.shop_model.proofs.Common.{BadThreshold, look, rewarded_in, month_before, if◌then◌else◌}
use Rattle.shop_model.specs.Views.{view_rows}
use Rattle.shop_model.specs.Machine.{RowsAre}
use Rattle.shop_model.specs.Interleaved.{is_arrivals}
use Rattle.shop_model.specs.Acts.{told, numbers_from}
use Rattle.shop_model.specs.Json.{numbers_text}

-- in the shop with other arrivals the act finds what it did
abbrev pub FindsSame : Act → Shop → List Arrival → Type 0
FindsSame (Receive source number missing) shop arrivals = arrival source number shop ≡ arrival source number (record shop { arrivals = arrivals })
FindsSame act shop arrivals = ⊤

new_same : (rules : Rules) (act : Act) (shop : Shop) (arrivals : List Arrival) → FindsSame act shop arrivals
    → new_copies rules shop act ≡ new_copies rules (record shop { arrivals = arrivals }) act
new_same rules (Receive source number missing) shop arrivals same = ap (total (new_from missing)) same
new_same rules act shop arrivals same = refl

import_same : (catalogue : Catalogue) (lot : Text) (stock : Stock) (shop : Shop) (arrivals : List Arrival)
    → import_refusals catalogue shop lot stock ≡ import_refusals catalogue (record shop { arrivals = arrivals }) lot stock
import_same catalogue lot (Copies films) shop arrivals = refl
import_same catalogue lot (BadLine line) shop arrivals = refl

acts_same : (rules : Rules) (b : ℕ) (catalogue : Catalogue) (moment : Moment) (act : Act) (shop : Shop) (arrivals : List Arrival) → FindsSame act shop arrivals
    → act_refusals rules b catalogue shop moment act ≡ act_refusals rules b catalogue (record shop { arrivals = arrivals }) moment act
acts_same rules b catalogue moment (Receive source number missing) shop arrivals same =
    ap (λ (found : List Arrival).
    (NoArrival, is_empty found)
    ∷ (ArrivalReceived, list_any (λ (it : Arrival). it.received) found)
    ∷ (BadLines, list_any (λ (it : Arrival). not (are_lines 0 (length it.films) missing)) found)
    ∷ []) same
acts_same rules b catalogue moment (Import lot file) shop arrivals same = import_same catalogue lot (rules.stock_of file) shop arrivals
acts_same rules b catalogue moment act shop arrivals same = refl

pub verdict_same : (rules : Rules) (b : ℕ) (catalogue : Catalogue) (command : Command) (shop : Shop) (arrivals : List Arrival)
    → FindsSame command.act shop arrivals
    → verdict rules b catalogue shop command ≡ verdict rules b catalogue (record shop { arrivals = arrivals }) command
verdict_same rules b catalogue command shop arrivals same =
    ap₂ (λ (new : ℕ) (more : List (Refusal × Bool)).
    resent command (filter (λ (k : Kept). bytes_eq k.command.key command.key) shop.kept)
    (first ((Full, nat_le rules.commands (length shop.kept) || nat_lt 0 new && nat_lt rules.copies (length shop.copies + new))
    ∷ (MomentBack, is_before command.moment shop.last)
    ∷ (NoStaff, not (list_any (staff_is b) (at command.staff catalogue.staff)))
    ∷ more)))
    (new_same rules command.act shop arrivals same) (acts_same rules b catalogue command.moment command.act shop arrivals same)

pub text_same : (rules : Rules) (act : Act) (shop : Shop) (arrivals : List Arrival) → FindsSame act shop arrivals
    → object (told rules act shop) ≡ object (told rules act (record shop { arrivals = arrivals }))
text_same rules (Receive source number missing) shop arrivals same =
    ap (λ (found : List Arrival). object ((codes "copies", numbers_text (numbers_from (length shop.copies + 1) (incoming missing found))) ∷ [])) same
text_same rules act shop arrivals same = refl

-- ---- readings but that of arrivals

views_same : (b : ℕ) (catalogue : Catalogue) (shop : Shop) (arrivals : List Arrival) (view : View)
    → view_rows b catalogue shop view ≡ view_rows b catalogue (record shop { arrivals = arrivals }) view
views_same b catalogue shop arrivals CustomerList = refl
views_same b catalogue shop arrivals view = refl

rewarded_same : (days : Option (ℕ × ℕ)) (shop : Shop) (arrivals : List Arrival) (purchases cents : ℕ)
    → rewarded_in days shop purchases cents ≡ rewarded_in days (record shop { arrivals = arrivals }) purchases cents
rewarded_same None shop arrivals purchases cents = refl
rewarded_same (Some days) shop arrivals purchases cents = refl

pub look_same : (b : ℕ) (catalogue : Catalogue) (shop : Shop) (arrivals : List Arrival) (ask : Ask)
    → is_arrivals ask ≡ false → look b catalogue shop ask ≡ look b catalogue (record shop { arrivals = arrivals }) ask
look_same b catalogue shop arrivals Arrivals isnt = absurd (true≢false isnt)
look_same b catalogue shop arrivals (OneView view) isnt = ap (λ (rows : List Text). Shows (RowsAre rows)) (views_same b catalogue shop arrivals view)
look_same b catalogue shop arrivals (Rewards moment purchases cents) isnt =
    let told : List ℕ → Reply =
    λ customers. if nat_lt 0 purchases then (if nat_lt 0 cents then Shows (CustomersAre customers) else Sorry BadThreshold) else Sorry BadThreshold in
    ap told (rewarded_same (month_before moment) shop arrivals purchases cents)
look_same b catalogue shop arrivals ask isnt = refl
