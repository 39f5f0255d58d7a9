-- What a look adds to a text.
use Rattle.std.proofs.Common.{◌≡◌, ◌∙◌, ◌++◌, ℕ, Bool, true, false, Option, None, Some, IfSome, refl, sym, ap, subst, inl, inr, append-nil}
use Rattle.std.specs.Prelude.{option_map}
use Rattle.sqlite.specs.State.{State}
use Rattle.shop_model.specs.Answers.{Answer}
use Rattle.shop_model.specs.Calendar.{Moment}
use Rattle.shop_model.specs.Values.{Text, Ask, HeldBy}
use Rattle.till_shows.specs.Lists.{named_in}
use Rattle.till_shows.specs.Looks.{holder_in, holder_text}
use Rattle.till_cashier.specs.declared.stock.Whereabouts.{Whereabouts}
use Rattle.till_cashier.specs.Saying.{AddsAll, IsNoRefusal, SaysAll, ended}
use Rattle.till_cashier.specs.Looking.{Adds, AddsLook, AddsNobody, AddsPlace, AddsWhere, IsLines, IsNamed, IsPlace, SaysLooked, SaysPlace, ShowsHolder}
use Rattle.till_cashier.specs.Looking.{ShowsLines}
use Rattle.till_cashier.specs.Looking.{name_end, status_with}
use Rattle.till_cashier.specs.Whereabouts.{whereabouts_text}

-- what holds of the value that there may be holds of the value that there is
pub some_is : {A : Type 0} (P : A → Type 0) (o : Option A) (a : A) → o ≡ Some a → IfSome o P → P a
some_is P (Some b) a same holds = let one : b ≡ a = cc in subst P one holds
some_is P None a same holds = absurd (let none : None ≡ Some a = same in cc)

-- all of an answer says it
all_said : (json : Bool) (Shows : Text → Text → Type 0) (answer : Answer) (text : Text) → SaysAll json answer text → SaysLooked json Shows answer text
all_said true Shows answer text says = says
all_said false Shows answer text says = inl says

-- an answer that was said by itself
pub adds_whole : (Asks : Answer → Type 0) (json : Bool) (Shows : Text → Text → Type 0) (answer : Answer) (whole : Bool) (old new : Text) (was status : ℕ)
    → whole ≡ true → Asks answer → AddsAll json answer whole old new → status ≡ status_with answer was → AddsLook Asks json Shows old was new status
adds_whole Asks json Shows answer whole old new was status all asked adds done =
    let it : AddsAll json answer true old new = subst (λ (b : Bool). AddsAll json answer b old new) all adds in
    record { answer = answer; asked = asked; text = it.0; says = all_said json Shows answer it.0 it.1; added = it.2; done = done }

-- what an accepted answer's body shows says the answer
shown_said : (json : Bool) (Shows : Text → Text → Type 0) (answer : Answer) (text : Text)
    → json ≡ false → IsNoRefusal answer → Shows answer.body text → SaysLooked json Shows answer text
shown_said true Shows answer text plain accepted shows = absurd (let none : true ≡ false = plain in cc)
shown_said false Shows answer text plain accepted shows = inr (accepted, shows)

-- an answer that wasn't said by itself, and then what its body shows
pub adds_shown : (Asks : Answer → Type 0) (json : Bool) (Shows : Text → Text → Type 0) (answer : Answer) (whole : Bool) (old mid new : Text)
    (was half status : ℕ) → whole ≡ false → Asks answer → AddsAll json answer whole old mid → half ≡ status_with answer was
    → Adds (Shows answer.body) mid new → status ≡ half → AddsLook Asks json Shows old was new status
adds_shown Asks json Shows answer whole old mid new was half status more asked adds done shows same =
    let it : AddsAll json answer false old mid = subst (λ (b : Bool). AddsAll json answer b old mid) more adds in
    record {
      answer = answer;
      asked = asked;
      text = shows.0;
      says = shown_said json Shows answer shows.0 it.0 it.1 shows.1;
      added = shows.2 ∙ ap (λ (t : Text). t ++ shows.0) it.2;
      done = same ∙ done;
    }

-- the lines of a body, with the name of whoever is named
pub lines_shown : (ask : Ask) (name said body read old new : Text) → said ≡ name → read ≡ body → IsNamed ask name
    → Adds (IsLines ask said read) old new → Adds (ShowsLines ask body) old new
lines_shown ask name said body read old new same whole named adds =
    let lines = subst (λ (b : Text). IsLines ask name b adds.0) whole (subst (λ (n : Text). IsLines ask n read adds.0) same adds.1) in
    (adds.0, (name, named, lines), adds.2)

-- a name that was looked for in a list is in some list
pub named_some : {A : Type 0} (by : Text) (number : ℕ) (name list : Text) (bytes : A → Text) (it : Option A)
    → named_in by number name list ≡ Some (option_map bytes it)
    → IfSome it (λ a. (list : Text) × (named_in by number name list ≡ Some (Some (bytes a))))
named_some by number name list bytes (Some a) is = (list, is)
named_some by number name list bytes None is = tt

-- it was added that nobody has the copy
pub nobody_added : (Asks : Ask → Answer → Type 0) (ask : Ask) (copy : ℕ) (it : Option Whereabouts) (old : Text) (was : ℕ) (new : Text) (status : ℕ)
    → it ≡ None → new ≡ old ++ ended (holder_text copy None ++ name_end None) → status ≡ was → SaysPlace Asks ask copy it old was new status
nobody_added Asks ask copy it old was new status none same kept =
    subst (λ (o : Option Whereabouts). SaysPlace Asks ask copy o old was new status) (sym none)
    (inl (same ∙ ap (λ (line : Text). old ++ ended line) (append-nil (holder_text copy None)), kept))

-- a place that was added is one of the copy
pub place_added : (Asks : Ask → Answer → Type 0) (OnWall : Moment → Moment → Type 0) (s : State) (sheet : Text) (ask : Ask) (copy : ℕ)
    (it : Option Whereabouts) (old : Text) (was : ℕ) (new : Text) (status : ℕ)
    → IfSome it (IsPlace Asks OnWall s sheet copy) → SaysPlace Asks ask copy it old was new status
    → AddsPlace Asks OnWall s sheet ask copy old was new status
place_added Asks OnWall s sheet ask copy (Some place) old was new status is says = inl (whereabouts_text copy place, inl (place, is, refl), says.0, says.1)
place_added Asks OnWall s sheet ask copy None old was new status is (inl nobody) = inl (holder_text copy None, inr refl, nobody.0, nobody.1)
place_added Asks OnWall s sheet ask copy None old was new status is (inr look) = inr look

-- who has the copy, by the body as it was read
pub held_as : (read body : Text) (it who : Option ℕ) → read ≡ body → it ≡ who → holder_in read ≡ Some it → holder_in body ≡ Some who
held_as read body it who whole same is =
    subst (λ (o : Option ℕ). holder_in body ≡ Some o) same (subst (λ (b : Text). holder_in b ≡ Some it) whole is)

module _ (Asks : Ask → Answer → Type 0) (OnWall : Moment → Moment → Type 0) (s : State) (json : Bool) (sheet : Text) (ask : Ask) (copy : ℕ)
    (old mid new : Text) (was half status : ℕ) where
  -- who has the copy was added
  pub where_held : json ≡ false → AddsLook (Asks (HeldBy copy)) json (ShowsHolder copy) old was new status
      → AddsWhere Asks OnWall s json sheet ask copy old was new status
  where_held plain adds =
      let it : AddsLook (Asks (HeldBy copy)) false (ShowsHolder copy) old was new status =
      subst (λ (b : Bool). AddsLook (Asks (HeldBy copy)) b (ShowsHolder copy) old was new status) plain adds in
      subst (λ (b : Bool). AddsWhere Asks OnWall s b sheet ask copy old was new status) (sym plain) (inl it)

  -- where the copy is was added, since nobody has it
  pub where_nobody : (answer : Answer) (whole : Bool) → json ≡ false → whole ≡ false → Asks (HeldBy copy) answer → AddsAll json answer whole old mid
      → half ≡ status_with answer was → holder_in answer.body ≡ Some None → AddsPlace Asks OnWall s sheet ask copy mid half new status
      → AddsWhere Asks OnWall s json sheet ask copy old was new status
  where_nobody answer whole plain more asked adds done nobody place =
      let it : AddsAll json answer false old mid = subst (λ (b : Bool). AddsAll json answer b old mid) more adds in
      let there : AddsPlace Asks OnWall s sheet ask copy old (status_with answer was) new status =
      subst (λ (n : ℕ). AddsPlace Asks OnWall s sheet ask copy old n new status) done
      (subst (λ (t : Text). AddsPlace Asks OnWall s sheet ask copy t half new status) it.2 place) in
      let adds_nobody : AddsNobody Asks OnWall s sheet ask copy old was new status =
      record { answer = answer; asked = asked; accepted = it.1; nobody = nobody; place = there } in
      subst (λ (b : Bool). AddsWhere Asks OnWall s b sheet ask copy old was new status) (sym plain) (inr adds_nobody)
