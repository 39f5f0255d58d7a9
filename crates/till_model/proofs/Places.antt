-- The place in a history at which a command was served.
use Rattle.shop_model.proofs.Common.{◌≡◌, ◌⊎◌, inl, inr, ◌∙◌, ℕ, zero, suc, ◌<◌, List, [], ◌∷◌, ◌++◌, Bool, true, Some, refl, sym, subst, ap, arith, slice_get}
use Rattle.shop_model.proofs.Common.{cases_Bool, Text, Command, Rules, Do, Unread, Look, Office, OfficeLook, Input, FromOffice, Arrive, Own, State, reply_to}
use Rattle.shop_model.proofs.Common.{moved, state_after}
use Rattle.shop_model.proofs.Resends.{same_some, same_none}
use Rattle.till_model.specs.Tills.{Served, served_by, served_in}

-- ---- the place at which a command was served

-- an event brings either no command of the till, or one
serves : (has_mark : Text → Bool) (rules : Rules) (b : ℕ) (input : Input) (s : State) → (served_by has_mark rules b input s ≡ [])
    ⊎ ((command : Command) × (input ≡ Own (Do command)) × (has_mark command.key ≡ true)
    × (served_by has_mark rules b input s ≡ record { command = command; reply = reply_to rules b s.catalogue s.shop (Do command) } ∷ []))
serves has_mark rules b (FromOffice command) s = inl refl
serves has_mark rules b (Arrive source films) s = inl refl
serves has_mark rules b (Own (Unread refusal)) s = inl refl
serves has_mark rules b (Own (Look ask)) s = inl refl
serves has_mark rules b (Own (Office command)) s = inl refl
serves has_mark rules b (Own (OfficeLook ask)) s = inl refl
serves has_mark rules b (Own (Do command)) s = elim (cases_Bool (has_mark command.key)) [
  | inl is ↦ inr (command, refl, is, rw is refl)
  | inr isnt ↦ inl (rw isnt refl)
]

pub record Place (has_mark : Text → Bool) (rules : Rules) (b : ℕ) (inputs : List Input) (s : State) (n : ℕ) (it : Served) : Type 0 where
  pub front : List Input
  pub back : List Input
  pub split : inputs ≡ front ++ Own (Do it.command) ∷ back
  pub reply : it.reply ≡ reply_to rules b (state_after rules b front s).catalogue (state_after rules b front s).shop (Do it.command)
  pub owned : has_mark it.command.key ≡ true
  pub before : (m : ℕ) (x : Served) → slice_get (served_in has_mark rules b front s) m ≡ Some x → slice_get (served_in has_mark rules b inputs s) m ≡ Some x
  pub behind : (m : ℕ) (x : Served) → slice_get (served_in has_mark rules b back (moved rules b (Own (Do it.command)) (state_after rules b front s))) m ≡ Some x
      → (k : ℕ) × (n < k) × (slice_get (served_in has_mark rules b inputs s) k ≡ Some x)

module _ (has_mark : Text → Bool) (rules : Rules) (b : ℕ) (input : Input) (inputs : List Input) (s : State)
    (behind_it : (n : ℕ) (it : Served) → slice_get (served_in has_mark rules b inputs (moved rules b input s)) n ≡ Some it
    → Place has_mark rules b inputs (moved rules b input s) n it) where
  abbrev next : State
  next = moved rules b input s

  abbrev more : List Served
  more = served_in has_mark rules b inputs next

  nothing_came : (n : ℕ) (it : Served) → served_by has_mark rules b input s ≡ []
      → slice_get (served_in has_mark rules b (input ∷ inputs) s) n ≡ Some it → Place has_mark rules b (input ∷ inputs) s n it
  nothing_came n it none there =
      let at_n : slice_get more n ≡ Some it = subst (λ (l : List Served). slice_get (l ++ more) n ≡ Some it) none there in
      let p = behind_it n it at_n in
      record {
        front = input ∷ p.front;
        back = p.back;
        split = ap (λ (l : List Input). input ∷ l) p.split;
        reply = p.reply;
        owned = p.owned;
        before = λ m x at_m.
            let down : slice_get (served_in has_mark rules b p.front next) m ≡ Some x =
            subst (λ (l : List Served). slice_get (l ++ served_in has_mark rules b p.front next) m ≡ Some x) none at_m in
            subst (λ (l : List Served). slice_get (l ++ more) m ≡ Some x) (sym none) (p.before m x down);
        behind = λ m x at_m.
            let h = p.behind m x at_m in
            (h.0, h.1, subst (λ (l : List Served). slice_get (l ++ more) h.0 ≡ Some x) (sym none) h.2);
      }

  came_here : (it : Served) (command : Command) → input ≡ Own (Do command) → has_mark command.key ≡ true
      → served_by has_mark rules b input s ≡ record { command = command; reply = reply_to rules b s.catalogue s.shop (Do command) } ∷ []
      → slice_get (served_in has_mark rules b (input ∷ inputs) s) 0 ≡ Some it → Place has_mark rules b (input ∷ inputs) s 0 it
  came_here it command is owned one there =
      let me : Served = record { command = command; reply = reply_to rules b s.catalogue s.shop (Do command) } in
      let first : slice_get (me ∷ more) 0 ≡ Some it = subst (λ (l : List Served). slice_get (l ++ more) 0 ≡ Some it) one there in
      let same : me ≡ it = same_some me it first in
      let command_is : command ≡ it.command = ap (λ (x : Served). x.command) same in
      let input_is : input ≡ Own (Do it.command) = is ∙ ap (λ (c : Command). Own (Do c)) command_is in
      record {
        front = [];
        back = inputs;
        split = ap (λ (i : Input). i ∷ inputs) input_is;
        reply = sym (ap (λ (x : Served). x.reply) same) ∙ ap (λ (c : Command). reply_to rules b s.catalogue s.shop (Do c)) command_is;
        owned = subst (λ (c : Command). has_mark c.key ≡ true) command_is owned;
        before = λ m x at_m. absurd (same_none x at_m);
        behind = λ m x at_m.
            let at' : slice_get more m ≡ Some x =
            subst (λ (i : Input). slice_get (served_in has_mark rules b inputs (moved rules b i s)) m ≡ Some x) (sym input_is) at_m in
            (suc m, omega arith, subst (λ (l : List Served). slice_get (l ++ more) (suc m) ≡ Some x) (sym one) at');
      }

  came_on : (n : ℕ) (it : Served) (me : Served) → served_by has_mark rules b input s ≡ me ∷ []
      → slice_get (served_in has_mark rules b (input ∷ inputs) s) (suc n) ≡ Some it → Place has_mark rules b (input ∷ inputs) s (suc n) it
  came_on n it me one there =
      let rest : slice_get more n ≡ Some it = subst (λ (l : List Served). slice_get (l ++ more) (suc n) ≡ Some it) one there in
      let p = behind_it n it rest in
      record {
        front = input ∷ p.front;
        back = p.back;
        split = ap (λ (l : List Input). input ∷ l) p.split;
        reply = p.reply;
        owned = p.owned;
        before = before_on p;
        behind = λ m x at_m.
            let h = p.behind m x at_m in
            let low : n < h.0 = h.1 in
            (suc h.0, omega arith, subst (λ (l : List Served). slice_get (l ++ more) (suc h.0) ≡ Some x) (sym one) h.2);
      }
    where
      before_on : (p : Place has_mark rules b inputs next n it) (m : ℕ) (x : Served)
          → slice_get (served_in has_mark rules b (input ∷ p.front) s) m ≡ Some x → slice_get (served_in has_mark rules b (input ∷ inputs) s) m ≡ Some x
      before_on p zero x at_m =
          let here : slice_get (me ∷ served_in has_mark rules b p.front next) zero ≡ Some x =
          subst (λ (l : List Served). slice_get (l ++ served_in has_mark rules b p.front next) zero ≡ Some x) one at_m in
          subst (λ (l : List Served). slice_get (l ++ more) zero ≡ Some x) (sym one) here
      before_on p (suc m) x at_m =
          let down : slice_get (served_in has_mark rules b p.front next) m ≡ Some x =
          subst (λ (l : List Served). slice_get (l ++ served_in has_mark rules b p.front next) (suc m) ≡ Some x) one at_m in
          subst (λ (l : List Served). slice_get (l ++ more) (suc m) ≡ Some x) (sym one) (p.before m x down)

  place_in : (n : ℕ) (it : Served) → slice_get (served_in has_mark rules b (input ∷ inputs) s) n ≡ Some it → Place has_mark rules b (input ∷ inputs) s n it
  place_in zero it there = elim (serves has_mark rules b input s) [
    | inl none ↦ nothing_came 0 it none there
    | inr (command, is, owned, one) ↦ came_here it command is owned one there
  ]
  place_in (suc n) it there = elim (serves has_mark rules b input s) [
    | inl none ↦ nothing_came (suc n) it none there
    | inr (command, is, owned, one) ↦ came_on n it (record { command = command; reply = reply_to rules b s.catalogue s.shop (Do command) }) one there
  ]

pub place_of : (has_mark : Text → Bool) (rules : Rules) (b : ℕ) (inputs : List Input) (s : State) (n : ℕ) (it : Served)
    → slice_get (served_in has_mark rules b inputs s) n ≡ Some it → Place has_mark rules b inputs s n it
place_of has_mark rules b [] s n it there = absurd (same_none it there)
place_of has_mark rules b (input ∷ inputs) s n it there =
    place_in has_mark rules b input inputs s (λ n it there. place_of has_mark rules b inputs (moved rules b input s) n it there) n it there

pub state_append : (rules : Rules) (b : ℕ) (front back : List Input) (s : State)
    → state_after rules b (front ++ back) s ≡ state_after rules b back (state_after rules b front s)
state_append rules b [] back s = refl
state_append rules b (input ∷ front) back s = state_append rules b front back (moved rules b input s)
