-- Several connections, and one more turn of one of them.
use Rattle.shop_types.proofs.Common.{◌≡◌, ℕ, ◌-◌, List, [], ◌∷◌, ◌++◌, refl, ap, ◌∙◌, map, Option, All, map-append, All-nil, All-cons, All-head, All-tail}
use Rattle.shop_types.proofs.Common.{All-push}
use Rattle.sqlite_trees.specs.declared.store.Store.{Ghosts}
use Rattle.counter_routes.specs.Words.{Meaning}
use Rattle.chain_requests.specs.Holding.{Chained}
use Rattle.counter_http.specs.Exchanges.{Exchange, RunsOver}
use Rattle.counter_http.specs.Phases.{ConnectionState, opened, IsTurn}
use Rattle.counter_http.specs.Together.{Till, IsTill, Mixes, comes, goes, nothing, AreServed, AreServedTogether, till_opened, till_then}
use Rattle.counter_http.proofs.Turns.{opened_may_answer, turn_none, turn_then, turn_as}
use Rattle.counter_http.proofs.Runs.{run_starts}
use Rattle.counter_http.proofs.Following.{run_follows}

all_at : {X : Type 0} (P : X → Type 0) (front : List X) (x : X) (back : List X) → All P (front ++ x ∷ back) → P x
all_at P [] x back all = All-head P x back all
all_at P (y ∷ front) x back all = all_at P front x back (All-tail P y (front ++ x ∷ back) all)

all_replaced : {X : Type 0} (P : X → Type 0) (front : List X) (x y : X) (back : List X) → All P (front ++ x ∷ back) → P y → All P (front ++ y ∷ back)
all_replaced P [] x y back all p = All-cons P y back p (All-tail P x back all)
all_replaced P (z ∷ front) x y back all p =
    All-cons P z (front ++ y ∷ back) (All-head P z (front ++ x ∷ back) all) (all_replaced P front x y back (All-tail P z (front ++ x ∷ back) all) p)

joined : (es more one two : List Exchange) → one ≡ es → two ≡ more → one ++ two ≡ es ++ more
joined es more one two p q = ap (λ (l : List Exchange). l ++ two) p ∙ ap (λ (l : List Exchange). es ++ l) q

till_turn : (till : Till) (line : ConnectionState) (Ran : List Exchange → Type 0) (left written : Option (List ℕ))
    → IsTill till → (x : IsTurn till.line line Ran till.left left till.written written) → IsTill (till_then till x.exchanges line left written)
till_turn till line Ran left written is x =
    turn_then is (turn_as {Ran' = λ es. es ≡ x.exchanges} x refl) (λ one two p q. joined till.exchanges x.exchanges one two p q)

served_comes : {S : Type 0} {g : Ghosts S} {meaning : Meaning} {old new : Chained S} (tills : List Till) (most : ℕ) (input output : Option (List ℕ))
    → AreServed g meaning old new tills → AreServed g meaning old new (tills ++ till_opened most input output ∷ [])
served_comes {S} {g} {meaning} {old} {new} tills most input output served =
    let of : Till → List Exchange = λ t. t.exchanges in
    let till = till_opened most input output in
    record {
      whole = served.whole;
      mixed = rw (map-append of tills (till ∷ [])) (comes (map of tills) served.whole served.mixed);
      ran = served.ran;
      each = All-push IsTill tills till served.each (turn_none (opened most) (λ es. es ≡ []) input output (opened_may_answer most) refl);
    }

pub served_then : {S : Type 0} {g : Ghosts S} {meaning : Meaning} {old mid new : Chained S} (front : List Till) (till : Till) (back : List Till)
    (line : ConnectionState) (left written : Option (List ℕ))
    → AreServed g meaning old mid (front ++ till ∷ back)
    → (x : IsTurn till.line line (RunsOver g meaning mid new) till.left left till.written written)
    → AreServed g meaning old new (front ++ till_then till x.exchanges line left written ∷ back)
served_then {S} {g} {meaning} {old} {mid} {new} front till back line left written served x =
    let of : Till → List Exchange = λ t. t.exchanges in
    let next = till_then till x.exchanges line left written in
    let first : Mixes (map of front ++ till.exchanges ∷ map of back) served.whole = rw (map-append of front (till ∷ back)) at served.mixed in
    record {
      whole = served.whole ++ x.exchanges;
      mixed = rw (map-append of front (next ∷ back)) (goes (map of front) (map of back) till.exchanges x.exchanges served.whole first);
      ran = run_follows served.whole x.exchanges served.ran x.ran.ran;
      each = all_replaced IsTill front till next back served.each
          (till_turn till line (RunsOver g meaning mid new) left written (all_at IsTill front till back served.each) x);
    }

pub served_together : {S : Type 0} (g : Ghosts S) → AreServedTogether g
served_together {S} g = record {
  none = λ meaning chain. record { whole = []; mixed = nothing; ran = run_starts; each = All-nil IsTill };
  comes = λ meaning old new tills most input output served. served_comes tills most input output served;
  goes = λ meaning old mid new front till back line left written served turn. served_then front till back line left written served turn;
}
