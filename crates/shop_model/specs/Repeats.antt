-- Commands that come again in a history: which they are, and the history without them.
use Rattle.std.specs.Prelude.{Bool, true, false, not, if◌then◌else◌, List, [], ◌∷◌}
use Rattle.shop_model.specs.Values.{Rules}
use Rattle.shop_model.specs.Verdict.{Verdict, Again, verdict, office_verdict}
use Rattle.shop_model.specs.Machine.{Request, Do, Office}
use Rattle.shop_model.specs.Books.{Books, Event, Caller, Counter, HeadOffice, shop_of, caller_in, after}

abbrev pub is_again : Verdict → Bool
is_again (Again text) = true
is_again v = false

-- a command that its caller gave before, equal and under the same key
abbrev pub repeats : Rules → Caller → Request → Books → Bool
repeats rules (Counter b) (Do command) books = is_again (verdict rules b books.catalogue (shop_of b books) command)
repeats rules HeadOffice (Office command) books = is_again (office_verdict rules books.catalogue command)
repeats rules caller request books = false

-- of each event of a history, whether it is no repeat
abbrev pub are_new : Rules → List Event → Books → List Bool
are_new rules [] books = []
are_new rules (event ∷ events) books =
    not (repeats rules (caller_in event books) (event.request (caller_in event books)) books) ∷ are_new rules events (after rules event books)

-- the items at the places that are marked
abbrev pub marked_ones : {A : Type 0} → List Bool → List A → List A
marked_ones (mark ∷ marks) (x ∷ xs) = if mark then x ∷ marked_ones marks xs else marked_ones marks xs
marked_ones marks xs = []
