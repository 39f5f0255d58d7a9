-- The entries of a till that have acted did so in the order of entering, at any point of the branch's history.
use Rattle.shop_model.proofs.Common.{◌≡◌, inl, inr, ◌∙◌, ℕ, suc, ◌<◌, List, [], ◌∷◌, ◌++◌, map, filter, Bool, true, false, Some, None, Option, refl, sym, subst}
use Rattle.shop_model.proofs.Common.{ap, arith, slice_get, bytes_eq, cases_Bool, false≢true, nat_tests, Moment, is_earlier, is_by, Text, Command, Rules, Kept}
use Rattle.shop_model.proofs.Common.{is_within, Verdict, Again, Refused, Accepted, first, refusals, is_before, verdict, Do, Unread, Look, Office, OfficeLook}
use Rattle.shop_model.proofs.Common.{Input, FromOffice, Arrive, Own, State, reply_text, reply_to, if_accepted, done, moved, state_after}
use Rattle.shop_model.proofs.RowLemmas.{more_yes, more_no}
use Rattle.shop_model.proofs.Accepted.{accepted_holds, none_kept}
use Rattle.till_model.specs.Tills.{Entry, Served, served_by, served_in, are_marked, have_own_keys, ComeFrom, ComeInOrder}
use Rattle.till_model.proofs.KeptRows.{has, has_more, none_has, other_mark, one_of, or_false}
use Rattle.till_model.proofs.Entries.{NoneAbove, acted, acted_other, acted_own, marked_at, same_entry}

-- ---- what is known of the branch, as far as the till goes

-- an entry that is still to be served has an earlier moment than any later entry that has acted
abbrev Late : List Entry → List Kept → List Served → Type 0
Late es ks served =
    (i j n : ℕ) (x y : Entry) (late : Served) → i < j → slice_get es i ≡ Some x → slice_get es j ≡ Some y → has y.command.key ks ≡ true
    → slice_get served n ≡ Some late → late.command ≡ x.command → is_earlier x.command.moment y.command.moment ≡ true

pub record Knows (has_mark : Text → Bool) (es : List Entry) (ks : List Kept) (last : Option Moment) : Type 0 where
  pub rows : map (λ (k : Kept). k.command) (filter (λ (k : Kept). has_mark k.command.key) ks) ≡ map (λ (e : Entry). e.command) (acted es ks)
  pub within : (j : ℕ) (y : Entry) → slice_get es j ≡ Some y → has y.command.key ks ≡ true → is_within last y.command.moment ≡ true

moves_on : (last : Option Moment) (moment m : Moment) → is_before moment last ≡ false → is_within last m ≡ true → is_by m moment ≡ true
moves_on None moment m on by = absurd (false≢true by)
moves_on (Some last) moment m on by = grind (arith, nat_tests)

self_by : (moment : Moment) → is_by moment moment ≡ true
self_by moment = grind (arith, nat_tests)

-- a moment that is earlier than one up to the last moment is before the last moment
falls_back : (last : Option Moment) (x y : Moment) → is_within last y ≡ true → is_earlier x y ≡ true → is_before x last ≡ true
falls_back None x y by less = absurd (false≢true by)
falls_back (Some last) x y by less = grind (arith, nat_tests)

-- ---- one more accepted

-- a command without the till's mark
other_accepted : (has_mark : Text → Bool) (es : List Entry) (ks : List Kept) (last : Option Moment) (k : Kept)
    → are_marked has_mark es ≡ true → has_mark k.command.key ≡ false
    → is_before k.command.moment last ≡ false → Knows has_mark es ks last → Knows has_mark es (ks ++ k ∷ []) (Some k.command.moment)
other_accepted has_mark es ks last k all isnt on knows = record {
  rows =
      more_no (λ (k : Kept). k.command) (λ (k : Kept). has_mark k.command.key) ks k isnt ∙ knows.rows
      ∙ ap (map (λ (e : Entry). e.command)) (sym (acted_other has_mark k ks es isnt all));
  within = λ j y there is.
      let was : has y.command.key ks ≡ true =
      sym (has_more y.command.key ks k ∙ or_false (has y.command.key ks) _ (other_mark has_mark k y.command.key isnt (marked_at has_mark es j y all there)))
      ∙ is in
      moves_on last k.command.moment y.command.moment on (knows.within j y there was);
}

-- a command of the till
own_accepted : (has_mark : Text → Bool) (es : List Entry) (ks : List Kept) (last : Option Moment) (k : Kept) (i : ℕ) (x : Entry)
    → have_own_keys es ≡ true → has_mark k.command.key ≡ true
    → is_before k.command.moment last ≡ false → slice_get es i ≡ Some x → x.command ≡ k.command → has k.command.key ks ≡ false → NoneAbove es i ks
    → Knows has_mark es ks last → Knows has_mark es (ks ++ k ∷ []) (Some k.command.moment)
own_accepted has_mark es ks last k i x own is on there same fresh above knows = record {
  rows = more_yes (λ (k : Kept). k.command) (λ (k : Kept). has_mark k.command.key) ks k is
      ∙ ap (λ (l : List Command). l ++ k.command ∷ []) knows.rows
      ∙ ap (λ (c : Command). map (λ (e : Entry). e.command) (acted es ks) ++ c ∷ []) (sym same)
      ∙ sym (map_more (acted es ks) x)
      ∙ ap (map (λ (e : Entry). e.command)) (sym (acted_own k ks es i x own there same fresh above));
  within = λ j y at_j kept. elim (one_of (has y.command.key ks) _ (sym (has_more y.command.key ks k) ∙ kept)) [
    | inl was ↦ moves_on last k.command.moment y.command.moment on (knows.within j y at_j was)
    | inr new ↦
        let key : bytes_eq x.command.key y.command.key ≡ true = subst (λ (c : Command). bytes_eq c.key y.command.key ≡ true) (sym same) new in
        let it : k.command ≡ y.command = sym same ∙ ap (λ (e : Entry). e.command) (same_entry es i j x y own there at_j key) in
        subst (λ (c : Command). is_by c.moment k.command.moment ≡ true) it (self_by k.command.moment)
  ];
} where
  map_more : (xs : List Entry) (x : Entry) → map (λ (e : Entry). e.command) (xs ++ x ∷ []) ≡ map (λ (e : Entry). e.command) xs ++ x.command ∷ []
  map_more [] x = refl
  map_more (y ∷ ys) x = ap (λ (l : List Command). y.command ∷ l) (map_more ys x)

-- no later entry has acted
none_above :
    (has_mark : Text → Bool) (es : List Entry) (ks : List Kept) (last : Option Moment)
    (command : Command) (i : ℕ) (x : Entry) (it : Served) (more : List Served)
    → is_before command.moment last ≡ false → slice_get es i ≡ Some x → x.command ≡ command
    → it.command ≡ command → Late es ks (it ∷ more) → Knows has_mark es ks last → NoneAbove es i ks
none_above has_mark es ks last command i x it more on there same came late knows j y above at_j = elim (cases_Bool (has y.command.key ks)) [
  | inr isnt ↦ isnt
  | inl is ↦
      let early = late i j 0 x y it above there at_j is refl (came ∙ sym same) in
      let back : is_before x.command.moment last ≡ true = falls_back last x.command.moment y.command.moment (knows.within j y at_j is) early in
      let on' : is_before x.command.moment last ≡ false = subst (λ (c : Command). is_before c.moment last ≡ false) (sym same) on in
      absurd (false≢true (sym on' ∙ back))
]

-- ---- what holds of an accepted command

pub is_on : (rules : Rules) (b : ℕ) (s : State) (command : Command) → verdict rules b s.catalogue s.shop command ≡ Accepted
    → (is_before command.moment s.shop.last ≡ false) × (has command.key s.shop.kept ≡ false)
is_on rules b s command e =
    let tests = accepted_holds rules b s.catalogue s.shop command e in (
      tests.1.0,
      none_has command.key s.shop.kept
          (none_kept command (filter (λ (k : Kept). bytes_eq k.command.key command.key) s.shop.kept) (first (refusals rules b s.catalogue s.shop command)) e).0,
    )

-- ---- one event, and any number of events

come_on : (es : List Entry) (front more : List Served) → ComeFrom es (front ++ more) → ComeFrom es more
come_on es [] more h = h
come_on es (x ∷ front) more h = come_on es front more (λ n it there. h (suc n) it there)

order_on : (es : List Entry) (front more : List Served) → ComeInOrder es (front ++ more) → ComeInOrder es more
order_on es [] more h = h
order_on es (x ∷ front) more h =
    order_on es front more
    (λ i j m n x y first late low at_i at_j less at_m is at_n is'. h i j (suc m) (suc n) x y first late low at_i at_j (omega arith) at_m is at_n is')

late_on : (es : List Entry) (ks : List Kept) (front more : List Served) → Late es ks (front ++ more) → Late es ks more
late_on es ks [] more h = h
late_on es ks (x ∷ front) more h = late_on es ks front more (λ i j n x y late low at_i at_j is at_n same. h i j (suc n) x y late low at_i at_j is at_n same)

-- `Late` still holds after the till's command has acted
late_own : (es : List Entry) (ks : List Kept) (k : Kept) (i : ℕ) (x : Entry) (it : Served) (more : List Served)
    → have_own_keys es ≡ true → slice_get es i ≡ Some x → x.command ≡ k.command → it.command ≡ k.command
    → ComeInOrder es (it ∷ more) → Late es ks (it ∷ more) → Late es (ks ++ k ∷ []) more
late_own es ks k i x it more own there same came order late l j n p y one low at_l at_j kept at_n is =
    elim (one_of (has y.command.key ks) (bytes_eq k.command.key y.command.key) (sym (has_more y.command.key ks k) ∙ kept)) [
      | inl was ↦ late l j (suc n) p y one low at_l at_j was at_n is
      | inr new ↦
          let key : bytes_eq x.command.key y.command.key ≡ true = subst (λ (c : Command). bytes_eq c.key y.command.key ≡ true) (sym same) new in
          let that : it.command ≡ y.command = came ∙ sym same ∙ ap (λ (e : Entry). e.command) (same_entry es i j x y own there at_j key) in
          order l j 0 (suc n) p y it one low at_l at_j (omega arith) refl that at_n is
    ]

late_other : (has_mark : Text → Bool) (es : List Entry) (ks : List Kept) (k : Kept) (more : List Served)
    → are_marked has_mark es ≡ true → has_mark k.command.key ≡ false → Late es ks more → Late es (ks ++ k ∷ []) more
late_other has_mark es ks k more all isnt late i j n x y one low at_i at_j kept at_n same =
    let was : has y.command.key ks ≡ true =
    sym (has_more y.command.key ks k ∙ or_false (has y.command.key ks) _ (other_mark has_mark k y.command.key isnt (marked_at has_mark es j y all at_j)))
    ∙ kept in
    late i j n x y one low at_i at_j was at_n same

module _ (has_mark : Text → Bool) (rules : Rules) (b : ℕ) (es : List Entry) (all : are_marked has_mark es ≡ true) (own : have_own_keys es ≡ true) where
  abbrev Stands : State → List Served → Type 0
  Stands s served = Knows has_mark es s.shop.kept s.shop.last × Late es s.shop.kept served

  -- a command
  by_command : (command : Command) (s : State) (v : Verdict) → v ≡ verdict rules b s.catalogue s.shop command → (more : List Served)
      → ComeFrom es (served_by has_mark rules b (Own (Do command)) s ++ more) → ComeInOrder es (served_by has_mark rules b (Own (Do command)) s ++ more)
      → Knows has_mark es s.shop.kept s.shop.last → Late es s.shop.kept (served_by has_mark rules b (Own (Do command)) s ++ more)
      → Knows has_mark es (if_accepted v (done rules s.catalogue command s.shop) s.shop).kept
      (if_accepted v (done rules s.catalogue command s.shop) s.shop).last
      × Late es (if_accepted v (done rules s.catalogue command s.shop) s.shop).kept more
  by_command command s (Again text) is more come order knows late = (knows, late_on es s.shop.kept (served_by has_mark rules b (Own (Do command)) s) more late)
  by_command command s (Refused refusal) is more come order knows late =
      (knows, late_on es s.shop.kept (served_by has_mark rules b (Own (Do command)) s) more late)
  by_command command s Accepted is more come order knows late =
      let on = is_on rules b s command (sym is) in
      let k : Kept = record { command = command; reply = reply_text rules command s.shop } in
      let front = served_by has_mark rules b (Own (Do command)) s in
      elim (cases_Bool (has_mark command.key)) [
        | inr isnt ↦
            let rest : Late es s.shop.kept more = late_on es s.shop.kept front more late in
            (other_accepted has_mark es s.shop.kept s.shop.last k all isnt on.0 knows, late_other has_mark es s.shop.kept k more all isnt rest)
        | inl yes' ↦
            let it : Served = record { command = command; reply = reply_to rules b s.catalogue s.shop (Do command) } in
            let one : front ≡ it ∷ [] = rw yes' refl in
            let come' : ComeFrom es (it ∷ more) = subst (λ (l : List Served). ComeFrom es (l ++ more)) one come in
            let order' : ComeInOrder es (it ∷ more) = subst (λ (l : List Served). ComeInOrder es (l ++ more)) one order in
            let late' : Late es s.shop.kept (it ∷ more) = subst (λ (l : List Served). Late es s.shop.kept (l ++ more)) one late in
            let found = come' 0 it refl in
            let above = none_above has_mark es s.shop.kept s.shop.last command found.0 found.1 it more on.0 found.2 found.3 refl late' knows in (
              own_accepted has_mark es s.shop.kept s.shop.last k found.0 found.1 own yes' on.0 found.2 found.3 on.1 above knows,
              late_own es s.shop.kept k found.0 found.1 it more own found.2 found.3 refl order' late',
            )
      ]

  step : (input : Input) (s : State) (more : List Served) → ComeFrom es (served_by has_mark rules b input s ++ more)
      → ComeInOrder es (served_by has_mark rules b input s ++ more)
      → Knows has_mark es s.shop.kept s.shop.last → Late es s.shop.kept (served_by has_mark rules b input s ++ more) → Stands (moved rules b input s) more
  step (FromOffice command) s more come order knows late = (knows, late)
  step (Arrive source films) s more come order knows late = (knows, late)
  step (Own (Unread refusal)) s more come order knows late = (knows, late)
  step (Own (Look ask)) s more come order knows late = (knows, late)
  step (Own (Office command)) s more come order knows late = (knows, late)
  step (Own (OfficeLook ask)) s more come order knows late = (knows, late)
  step (Own (Do command)) s more come order knows late = by_command command s (verdict rules b s.catalogue s.shop command) refl more come order knows late

  pub through : (inputs : List Input) (s : State) → ComeFrom es (served_in has_mark rules b inputs s) → ComeInOrder es (served_in has_mark rules b inputs s)
      → Knows has_mark es s.shop.kept s.shop.last → Late es s.shop.kept (served_in has_mark rules b inputs s)
      → Knows has_mark es (state_after rules b inputs s).shop.kept (state_after rules b inputs s).shop.last
  through [] s come order knows late = knows
  through (input ∷ inputs) s come order knows late =
      let front = served_by has_mark rules b input s in
      let more = served_in has_mark rules b inputs (moved rules b input s) in
      let next = step input s more come order knows late in
      through inputs (moved rules b input s) (come_on es front more come) (order_on es front more order) next.0 next.1
