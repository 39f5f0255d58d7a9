-- The moment of a book's last entry.
use Rattle.std.proofs.Common.{◌≡◌, ◌∙◌, ◌<◌, ℕ, List, Option, Some, None, ap, subst}
use Rattle.std.specs.Prelude.{IfSome}
use Rattle.sqlite.specs.State.{State}
use Rattle.shop_model.specs.Calendar.{Moment, seconds_of}
use Rattle.shop_model.specs.Values.{Command}
use Rattle.till_client.proofs.SoleMessages.{one_command}
use Rattle.till_book.specs.Held.{last_or}
use Rattle.till_book.specs.Ends.{IsEndOf}
use Rattle.till_book.specs.declared.ends.BookEnd.{BookEnd}
use Rattle.till_book.specs.Steps as book
use Rattle.till_book.specs.Saying.{Says}
use Rattle.till_cashier.specs.LastMoment.{IsMomentOf, TellsMoment, PassesLast}
use Rattle.till_cashier.proofs.Marks.{SaysBoth, last_says, none_some, some_same}

-- the bytes say one command alone, with its moment
pub moment_said : (request : List ℕ) (one command : Command) → Says request one → Says request command
    → ◌≡◌ {A = Option Moment} (Some one.moment) (Some command.moment)
moment_said request one command first says = ap (λ (it : Command). Some it.moment) (one_command request first.0 says.0 one command first.1 says.1)

last_moment : (at : Option Moment) (entry : Option (List ℕ)) (last : Option Command) → SaysBoth entry last → IsMomentOf at entry
    → (command : Command) → last ≡ Some command → at ≡ Some command.moment
last_moment at None None both is command some = absurd (none_some command some)
last_moment at None (Some other) both is command some = absurd both
last_moment at (Some bytes) None both is command some = absurd both
last_moment at (Some bytes) (Some other) both is command some = is other both ∙ ap (λ (it : Command). Some it.moment) (some_same other command some)

-- what holds of the last entry holds of the book
pub tells_moment : (at : Option Moment) (end : BookEnd) (s new : State)
    → IsMomentOf at end.last → book.FindsAtRest (IsEndOf end) s new → TellsMoment at s
tells_moment at end s new is tells journal commands rests say last some =
    let there : IsEndOf end journal = (tells journal rests).1 in
    last_moment at (last_or None journal.entries) (last_or None commands) (last_says journal.entries commands None None say tt)
    (subst (λ (entry : Option (List ℕ)). IsMomentOf at entry) there.last is) last some

-- a second that is later than that moment is later than the last command's
pub passes_last : (at : Option Moment) (second : ℕ) (s : State) → TellsMoment at s
    → IfSome at (λ it. seconds_of it < second) → PassesLast second s
passes_last at second s tells past journal commands rests say last some =
    subst (λ (it : Option Moment). IfSome it (λ it. seconds_of it < second)) (tells journal commands rests say last some) past
