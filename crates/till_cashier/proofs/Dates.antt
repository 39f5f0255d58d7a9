-- Today's date was said at a book.
use Rattle.std.proofs.Common.{◌≡◌, ◌∷◌, [], ℕ, ℤ, Bool, true, false, List, Option, None, Some, length, inl, inr, subst, sym, refl}
use Rattle.std.specs.Prelude.{◌⊎◌, if◌then◌else◌, option_map}
use Rattle.sqlite.specs.State.{State}
use Rattle.jiff_tz.specs.declared.timezone.TimeZone.{TimeZone}
use Rattle.shop_model.specs.Calendar.{Moment}
use Rattle.shop_model.specs.Values.{Command}
use Rattle.till_book.specs.Held.{last_or}
use Rattle.till_book.specs.Saying.{Say}
use Rattle.till_work.specs.declared.place.Place.{Place}
use Rattle.till_cashier.specs.LastMoment.{TellsMoment}
use Rattle.till_cashier.specs.Today.{IsNear, HasDate, IsDatedBook, last_moment}
use Rattle.till_cashier.specs.Word.{IsPlaceOf}

last_some : (x : Command) (xs : List Command) → (y : Command) × (last_or (Some x) xs ≡ Some y)
last_some x [] = (x, refl)
last_some x (y ∷ ys) = last_some y ys

near_if : (b : Bool) (last : Option Moment) (now : Moment) → IsNear (if b then None else last) now → IsNear last now
near_if true last now near = absurd near
near_if false last now near = near

near_book :
    (entries : List (List ℕ)) (commands : List Command) (count : ℕ) (last : Option Moment) (now : Moment)
    → Say entries commands → count ≡ length entries → ((c : Command) → last_or None commands ≡ Some c → last ≡ Some c.moment)
    → IsNear (last_moment count last) now
    → IsNear (option_map (λ (it : Command). it.moment) (last_or None commands)) now
near_book [] [] count last now say counted tells near = absurd (subst (λ (n : ℕ). IsNear (last_moment n last) now) counted near)
near_book [] (c ∷ cs) count last now say counted tells near = absurd say
near_book (b ∷ bs) [] count last now say counted tells near = absurd say
near_book (b ∷ bs) (c ∷ cs) count last now say counted tells near =
    let it = last_some c cs in
    let there : IsNear (last_moment count (Some it.0.moment)) now =
    subst (λ (at : Option Moment). IsNear (last_moment count at) now) (tells it.0 it.1) near in
    subst (λ (at : Option Command). IsNear (option_map (λ (one : Command). one.moment) at) now) (sym it.1) (near_if _ (Some it.0.moment) now there)

near_or : {A B C : Type 0} → (A → B) → A ⊎ C → B ⊎ C
near_or follows (inl a) = inl (follows a)
near_or follows (inr c) = inr c

-- what was known of the last entry holds of the book
pub dated_book :
    (shows : ℕ → Type 0) (zone : TimeZone) (offset : ℤ) (said : Option ℤ) (last : Option Moment) (place : Place) (s : State)
    → IsPlaceOf place s → TellsMoment last s → HasDate shows zone offset said (last_moment place.entries last)
    → IsDatedBook shows zone offset said s
dated_book shows zone offset said last place s is tells has journal commands rests say = (
  has.0,
  has.1,
  has.2,
  has.3,
  near_or (near_book journal.entries commands place.entries last has.0 say (is journal rests).0 (tells journal commands rests say)) has.4,
)
