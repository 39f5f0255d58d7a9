-- Kept rows under a key, and how a branch's kept rows grow.
use Rattle.shop_model.proofs.Common.{◌≡◌, ◌⊎◌, inl, inr, ◌∙◌, ℕ, List, [], ◌∷◌, ◌++◌, filter, Bool, true, false, refl, sym, ap, append-nil, append_assoc, ◌||◌}
use Rattle.shop_model.proofs.Common.{list_any, bytes_eq, cases_Bool, false≢true, bytes_eq-Decides, Text, Command, Rules, Kept, Verdict, Again, Refused}
use Rattle.shop_model.proofs.Common.{Accepted, verdict, Do, Unread, Look, Office, OfficeLook, Input, FromOffice, Arrive, Own, State, reply_text, if_accepted}
use Rattle.shop_model.proofs.Common.{done, moved, state_after}

-- ---- kept rows under a key

abbrev pub has : Text → List Kept → Bool
has key ks = list_any (λ (k : Kept). bytes_eq k.command.key key) ks

pub has_more : (key : Text) (ks : List Kept) (k : Kept) → has key (ks ++ k ∷ []) ≡ (has key ks || bytes_eq k.command.key key)
has_more key [] k = or_false (bytes_eq k.command.key key)
  where
    or_false : (b : Bool) → (b || false) ≡ b
    or_false true = refl
    or_false false = refl
has_more key (x ∷ ks) k = elim (cases_Bool (bytes_eq x.command.key key)) [ inl is ↦ rw is refl | inr isnt ↦ rw isnt (has_more key ks k) ]

pub none_has : (key : Text) (ks : List Kept) → filter (λ (k : Kept). bytes_eq k.command.key key) ks ≡ [] → has key ks ≡ false
none_has key [] none = refl
none_has key (k ∷ ks) none = elim (cases_Bool (bytes_eq k.command.key key)) [
  | inl is ↦ let no : k ∷ filter (λ (k : Kept). bytes_eq k.command.key key) ks ≡ [] = rw is at none in absurd (clash k _ no)
  | inr isnt ↦ rw isnt (none_has key ks (rw isnt at none))
] where
  clash : (k : Kept) (ks : List Kept) → k ∷ ks ≡ [] → ⊥
  clash k ks e = cc

pub other_mark : (has_mark : Text → Bool) (k : Kept) (key : Text) → has_mark k.command.key ≡ false → has_mark key ≡ true → bytes_eq k.command.key key ≡ false
other_mark has_mark k key isnt is = elim (cases_Bool (bytes_eq k.command.key key)) [
  | inr other ↦ other
  | inl same ↦ let e : k.command.key ≡ key = (bytes_eq-Decides k.command.key key).0 same in absurd (false≢true (sym isnt ∙ ap has_mark e ∙ is))
]

pub or_false : (a b : Bool) → b ≡ false → (a || b) ≡ a
or_false true b e = refl
or_false false b e = e

pub one_of : (a b : Bool) → (a || b) ≡ true → (a ≡ true) ⊎ (b ≡ true)
one_of true b e = inl refl
one_of false b e = inr e

-- ---- what is kept stays

abbrev pub Grows : List Kept → List Kept → Type 0
Grows old new = (more : List Kept) × (new ≡ old ++ more)

grows_by : (rules : Rules) (s : State) (command : Command) (v : Verdict) → Grows s.shop.kept (if_accepted v (done rules s.catalogue command s.shop) s.shop).kept
grows_by rules s command (Again text) = ([], sym (append-nil s.shop.kept))
grows_by rules s command (Refused refusal) = ([], sym (append-nil s.shop.kept))
grows_by rules s command Accepted = (record { command = command; reply = reply_text rules command s.shop } ∷ [], refl)

grows_once : (rules : Rules) (b : ℕ) (input : Input) (s : State) → Grows s.shop.kept (moved rules b input s).shop.kept
grows_once rules b (FromOffice command) s = ([], sym (append-nil s.shop.kept))
grows_once rules b (Arrive source films) s = ([], sym (append-nil s.shop.kept))
grows_once rules b (Own (Unread refusal)) s = ([], sym (append-nil s.shop.kept))
grows_once rules b (Own (Look ask)) s = ([], sym (append-nil s.shop.kept))
grows_once rules b (Own (Office command)) s = ([], sym (append-nil s.shop.kept))
grows_once rules b (Own (OfficeLook ask)) s = ([], sym (append-nil s.shop.kept))
grows_once rules b (Own (Do command)) s = grows_by rules s command (verdict rules b s.catalogue s.shop command)

pub grows : (rules : Rules) (b : ℕ) (inputs : List Input) (s : State) → Grows s.shop.kept (state_after rules b inputs s).shop.kept
grows rules b [] s = ([], sym (append-nil s.shop.kept))
grows rules b (input ∷ inputs) s =
    let one = grows_once rules b input s in
    let rest = grows rules b inputs (moved rules b input s) in
    (one.0 ++ rest.0, rest.1 ∙ ap (λ (l : List Kept). l ++ rest.0) one.1 ∙ append_assoc s.shop.kept one.0 rest.0)

abbrev pub under : Text → List Kept → List Kept
under key ks = filter (λ (k : Kept). bytes_eq k.command.key key) ks

-- the first row under the key has that reply

pub some_has : (key : Text) (ks : List Kept) (k : Kept) (rest : List Kept) → under key ks ≡ k ∷ rest → has key ks ≡ true
some_has key [] k rest e = absurd (clash e)
  where
    clash : ◌≡◌ {A = List Kept} [] (k ∷ rest) → ⊥
    clash e = cc
some_has key (x ∷ ks) k rest e = elim (cases_Bool (bytes_eq x.command.key key)) [
  | inl is ↦ rw is refl
  | inr isnt ↦ rw isnt (some_has key ks k rest (rw isnt at e))
]
