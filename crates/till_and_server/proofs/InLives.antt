-- The place of an exchange in a life of its chain.
use Rattle.shop_model.proofs.Common.{◌≡◌, ◌∙◌, ℕ, zero, suc, List, [], ◌∷◌, ◌++◌, length, map, Option, Some, refl, ap, slice_get, Text, caller_of}
use Rattle.shop_model.proofs.Resends.{same_some, same_none}
use Rattle.counter_http.specs.Events.{event_of, known_token}
use Rattle.counter_http.specs.Exchanges.{Exchange}
use Rattle.till_and_server.specs.ServedLives.{life_of}
use Rattle.till_and_server.specs.Lives.{books_then}
use Rattle.till_and_server.specs.Laws.{ExchangesAreAnswered, RunsAreLives}

pub at_front : {A : Type 0} (front : List A) (x : A) (back : List A) → slice_get (front ++ x ∷ back) (length front) ≡ Some x
at_front [] x back = refl
at_front (y ∷ front) x back = at_front front x back

pub mapped_at : {A B : Type 0} (f : A → B) (xs : List A) (i : ℕ) (x : A) → slice_get xs i ≡ Some x → slice_get (map f xs) i ≡ Some (f x)
mapped_at f [] i x e = absurd (same_none x e)
mapped_at {A} {B} f (y ∷ ys) zero x e = ap (λ (it : A). Some (f it)) (same_some y x e)
mapped_at f (y ∷ ys) (suc i) x e = mapped_at f ys i x e

pub unmapped_at : {A B : Type 0} (f : A → B) (xs : List A) (i : ℕ) (y : B) → slice_get (map f xs) i ≡ Some y → (x : A) × (slice_get xs i ≡ Some x) × (f x ≡ y)
unmapped_at f [] i y e = absurd (same_none y e)
unmapped_at f (x ∷ xs) zero y e = (x, refl, same_some (f x) y e)
unmapped_at f (x ∷ xs) (suc i) y e = unmapped_at f xs i y e

pub are_answered : ExchangesAreAnswered
are_answered rules b lives old request token command says answer stand own =
    let life = stand.life in
    let e : Exchange = record { message = says.message; answer = answer } in
    let place = length stand.front in
    let there : slice_get life.exchanges place ≡ Some e = ap (λ (es : List Exchange). slice_get es place) stand.parts ∙ at_front stand.front e stand.back in
    let books = books_then rules lives old stand.at_life life place in
    record {
      at_life = stand.at_life;
      at_place = place;
      life = life_of life;
      lived = mapped_at life_of lives stand.at_life life stand.lived;
      asked = record {
        event = event_of life.meaning says.message;
        stands = mapped_at (λ (it : Exchange). event_of life.meaning it.message) life.exchanges place e there;
        who = ap (λ (it : Option Text). caller_of (known_token it) books.catalogue) says.sole.token_is ∙ own;
        what = says.asks life.meaning b;
      };
      told = mapped_at (λ (it : Exchange). it.answer) life.exchanges place e there;
    }

pub are_lives : RunsAreLives
are_lives life old new ran = (new.books, ran.run, refl)
