-- Commands that never act: those that aren't sent, and those whose moment is earlier than the branch's last.
use Rattle.shop_model.proofs.Common.{◌≡◌, inl, inr, ◌∙◌, ℕ, zero, suc, ◌<◌, List, [], ◌∷◌, ◌++◌, Bool, true, false, not, Some, None, Option, refl, sym, subst}
use Rattle.shop_model.proofs.Common.{ap, arith, slice_get, nat_lt, list_any, bytes_eq, cases_Bool, and_parts, false≢true, nat_tests, bytes_eq-Decides, at}
use Rattle.shop_model.proofs.Common.{Moment, Text, Command, Rules, Refusal, refusal_number, KeyUsed, Full, MomentBack, NoStaff, Kept, same_command, Verdict}
use Rattle.shop_model.proofs.Common.{Again, Refused, Accepted, first, resent, refusals, act_refusals, staff_is, is_before, is_full, verdict, Do, Unread, Look}
use Rattle.shop_model.proofs.Common.{Office, OfficeLook, Input, FromOffice, Arrive, Own, State, reply_text, reply_to, if_accepted, done, moved, state_after}
use Rattle.shop_model.proofs.Common.{rise_from}
use Rattle.shop_model.proofs.Resends.{same_none}
use Rattle.shop_model.proofs.Refusing.{in_order}
use Rattle.till_model.specs.Tills.{Served, served_by, served_in}
use Rattle.till_model.proofs.KeptRows.{has, has_more, none_has, other_mark, or_false, under}
use Rattle.till_model.proofs.InOrder.{is_on}

-- ---- what never acts

-- if no command with that key is served, none is kept
absent_by : (key : Text) (has_mark : Text → Bool) (rules : Rules) (b : ℕ) (s : State) (command : Command) (v : Verdict)
    → has_mark key ≡ true → has key s.shop.kept ≡ false
    → ((n : ℕ) (x : Served) → slice_get (served_by has_mark rules b (Own (Do command)) s) n ≡ Some x → bytes_eq x.command.key key ≡ false)
    → has key (if_accepted v (done rules s.catalogue command s.shop) s.shop).kept ≡ false
absent_by key has_mark rules b s command (Again text) owned none away = none
absent_by key has_mark rules b s command (Refused refusal) owned none away = none
absent_by key has_mark rules b s command Accepted owned none away =
    let k : Kept = record { command = command; reply = reply_text rules command s.shop } in
    let other : bytes_eq command.key key ≡ false = elim (cases_Bool (has_mark command.key)) [
      | inl is ↦ away 0 (record { command = command; reply = reply_to rules b s.catalogue s.shop (Do command) }) (rw is refl)
      | inr isnt ↦ other_mark has_mark k key isnt owned
    ] in
    has_more key s.shop.kept k ∙ or_false (has key s.shop.kept) (bytes_eq command.key key) other ∙ none

none_by : (key : Text) (has_mark : Text → Bool) (rules : Rules) (b : ℕ) (input : Input) (s : State) → has_mark key ≡ true → has key s.shop.kept ≡ false
    → ((n : ℕ) (x : Served) → slice_get (served_by has_mark rules b input s) n ≡ Some x → bytes_eq x.command.key key ≡ false)
    → has key (moved rules b input s).shop.kept ≡ false
none_by key has_mark rules b (FromOffice command) s owned none away = none
none_by key has_mark rules b (Arrive source films) s owned none away = none
none_by key has_mark rules b (Own (Unread refusal)) s owned none away = none
none_by key has_mark rules b (Own (Look ask)) s owned none away = none
none_by key has_mark rules b (Own (Office command)) s owned none away = none
none_by key has_mark rules b (Own (OfficeLook ask)) s owned none away = none
none_by key has_mark rules b (Own (Do command)) s owned none away =
    absent_by key has_mark rules b s command (verdict rules b s.catalogue s.shop command) owned none away

-- what holds for all of a list holds for all of its front and for all of the rest
in_front : (front behind_ : List Served) (P : Served → Type 0)
    → ((n : ℕ) (x : Served) → slice_get (front ++ behind_) n ≡ Some x → P x) → (n : ℕ) (x : Served) → slice_get front n ≡ Some x → P x
in_front [] behind_ P all n x there = absurd (same_none x there)
in_front (it ∷ front) behind_ P all zero x there = all 0 x there
in_front (it ∷ front) behind_ P all (suc n) x there = in_front front behind_ P (λ n x there. all (suc n) x there) n x there

in_more : (front behind_ : List Served) (P : Served → Type 0) → ((n : ℕ) (x : Served) → slice_get (front ++ behind_) n ≡ Some x → P x)
    → (n : ℕ) (x : Served) → slice_get behind_ n ≡ Some x → P x
in_more [] behind_ P all = all
in_more (it ∷ front) behind_ P all = in_more front behind_ P (λ n x there. all (suc n) x there)

pub absent : (key : Text) (has_mark : Text → Bool) (rules : Rules) (b : ℕ) (inputs : List Input) (s : State) → has_mark key ≡ true → has key s.shop.kept ≡ false
    → ((n : ℕ) (x : Served) → slice_get (served_in has_mark rules b inputs s) n ≡ Some x → bytes_eq x.command.key key ≡ false)
    → has key (state_after rules b inputs s).shop.kept ≡ false
absent key has_mark rules b [] s owned none away = none
absent key has_mark rules b (input ∷ inputs) s owned none away =
    let front = served_by has_mark rules b input s in
    let more = served_in has_mark rules b inputs (moved rules b input s) in
    let P : Served → Type 0 = λ x. bytes_eq x.command.key key ≡ false in
    absent key has_mark rules b inputs (moved rules b input s) owned
    (none_by key has_mark rules b input s owned none (in_front front more P away)) (in_more front more P away)

-- the branch keeps no command with that key, and the command's moment is earlier than the branch's last
pub record IsPast (command : Command) (s : State) : Type 0 where
  pub none : has command.key s.shop.kept ≡ false
  pub past : is_before command.moment s.shop.last ≡ true

later_past : (last : Option Moment) (a c : Moment) → is_before a last ≡ true → is_before c last ≡ false → is_before a (Some c) ≡ true
later_past None a c past on = absurd (false≢true past)
later_past (Some last) a c past on = grind (arith, nat_tests)

past_by : (it : Command) (has_mark : Text → Bool) (rules : Rules) (b : ℕ) (s : State) (command : Command) (v : Verdict)
    → v ≡ verdict rules b s.catalogue s.shop command → has_mark it.key ≡ true → IsPast it s
    → ((n : ℕ) (x : Served) → slice_get (served_by has_mark rules b (Own (Do command)) s) n ≡ Some x → bytes_eq x.command.key it.key ≡ true → x.command ≡ it)
    → IsPast it (record s { shop = if_accepted v (done rules s.catalogue command s.shop) s.shop })
past_by it has_mark rules b s command (Again text) is owned at only = record { none = at.none; past = at.past }
past_by it has_mark rules b s command (Refused refusal) is owned at only = record { none = at.none; past = at.past }
past_by it has_mark rules b s command Accepted is owned at only =
    let on = is_on rules b s command (sym is) in
    let k : Kept = record { command = command; reply = reply_text rules command s.shop } in
    let other : bytes_eq command.key it.key ≡ false = elim (cases_Bool (bytes_eq command.key it.key)) [
      | inr isnt ↦ isnt
      | inl same ↦
          let marked_too : has_mark command.key ≡ true = ap has_mark ((bytes_eq-Decides command.key it.key).0 same) ∙ owned in
          let this : command ≡ it = only 0 (record { command = command; reply = reply_to rules b s.catalogue s.shop (Do command) }) (rw marked_too refl) same in
          let on' : is_before it.moment s.shop.last ≡ false = subst (λ (c : Command). is_before c.moment s.shop.last ≡ false) this on.0 in
          absurd (false≢true (sym on' ∙ at.past))
    ] in
    record {
      none = has_more it.key s.shop.kept k ∙ or_false (has it.key s.shop.kept) (bytes_eq command.key it.key) other ∙ at.none;
      past = later_past s.shop.last it.moment command.moment at.past on.0;
    }

past_once : (it : Command) (has_mark : Text → Bool) (rules : Rules) (b : ℕ) (input : Input) (s : State) → has_mark it.key ≡ true → IsPast it s
    → ((n : ℕ) (x : Served) → slice_get (served_by has_mark rules b input s) n ≡ Some x → bytes_eq x.command.key it.key ≡ true → x.command ≡ it)
    → IsPast it (moved rules b input s)
past_once it has_mark rules b (FromOffice command) s owned at only = record { none = at.none; past = at.past }
past_once it has_mark rules b (Arrive source films) s owned at only = record { none = at.none; past = at.past }
past_once it has_mark rules b (Own (Unread refusal)) s owned at only = record { none = at.none; past = at.past }
past_once it has_mark rules b (Own (Look ask)) s owned at only = record { none = at.none; past = at.past }
past_once it has_mark rules b (Own (Office command)) s owned at only = record { none = at.none; past = at.past }
past_once it has_mark rules b (Own (OfficeLook ask)) s owned at only = record { none = at.none; past = at.past }
past_once it has_mark rules b (Own (Do command)) s owned at only =
    past_by it has_mark rules b s command (verdict rules b s.catalogue s.shop command) refl owned at only

pub past : (it : Command) (has_mark : Text → Bool) (rules : Rules) (b : ℕ) (inputs : List Input) (s : State) → has_mark it.key ≡ true → IsPast it s
    → ((n : ℕ) (x : Served) → slice_get (served_in has_mark rules b inputs s) n ≡ Some x → bytes_eq x.command.key it.key ≡ true → x.command ≡ it)
    → IsPast it (state_after rules b inputs s)
past it has_mark rules b [] s owned at only = at
past it has_mark rules b (input ∷ inputs) s owned at only =
    let front = served_by has_mark rules b input s in
    let more = served_in has_mark rules b inputs (moved rules b input s) in
    let P : Served → Type 0 = λ x. bytes_eq x.command.key it.key ≡ true → x.command ≡ it in
    past it has_mark rules b inputs (moved rules b input s) owned
    (past_once it has_mark rules b input s owned at (in_front front more P only)) (in_more front more P only)

-- ---- what holds at a refusal

above_all : (n : ℕ) (tests : List (Refusal × Bool)) (refusal : Refusal) → rise_from n tests ≡ true → first tests ≡ Refused refusal → n < refusal_number refusal
above_all n [] refusal rise e = absurd (clash e)
  where
    clash : Accepted ≡ Refused refusal → ⊥
    clash e = cc
above_all n (test ∷ tests) refusal rise e =
    let h = and_parts (nat_lt n (refusal_number test.0)) (rise_from (refusal_number test.0) tests) rise in
    let low : n < refusal_number test.0 = grind (arith, nat_tests) in
    elim (cases_Bool test.1) [
      | inl is ↦ let it : Refused test.0 ≡ Refused refusal = rw is at e in subst (λ (r : Refusal). n < refusal_number r) (same_refusal test.0 refusal it) low
      | inr isnt ↦ let more = above_all (refusal_number test.0) tests refusal h.1 (rw isnt at e) in omega arith
    ]
  where
    same_refusal : (r t : Refusal) → Refused r ≡ Refused t → r ≡ t
    same_refusal r t e = cc

clash_back : (k : Kept) (ks : List Kept) (command : Command) (v : Verdict) → resent command (k ∷ ks) v ≡ Refused MomentBack → ⊥
clash_back k ks command v e = elim (cases_Bool (same_command k.command command)) [
  | inl is ↦ let no : Again k.reply ≡ Refused MomentBack = rw is at e in again no
  | inr isnt ↦ let no : Refused KeyUsed ≡ Refused MomentBack = rw isnt at e in used no
] where
  again : Again k.reply ≡ Refused MomentBack → ⊥
  again e = cc

  used : Refused KeyUsed ≡ Refused MomentBack → ⊥
  used e = cc

none_back : (rows : List Kept) (command : Command) (v : Verdict) → resent command rows v ≡ Refused MomentBack → (rows ≡ []) × (v ≡ Refused MomentBack)
none_back [] command v e = (refl, e)
none_back (k ∷ rows) command v e = absurd (clash_back k rows command v e)

full_back : Refused Full ≡ Refused MomentBack → ⊥
full_back e = cc

pub is_past : (rules : Rules) (b : ℕ) (s : State) (command : Command) → verdict rules b s.catalogue s.shop command ≡ Refused MomentBack → IsPast command s
is_past rules b s command e =
    let tests = refusals rules b s.catalogue s.shop command in
    let h = none_back (under command.key s.shop.kept) command (first tests) e in
    let order = (in_order.branch rules b s.catalogue s.shop command).rise in
    let told = h.1 in
    record {
      none = none_has command.key s.shop.kept h.0;
      past = elim (cases_Bool (is_full rules s.shop command.act)) [
        | inl full ↦ let no : Refused Full ≡ Refused MomentBack = rw full at told in absurd (full_back no)
        | inr room ↦ elim (cases_Bool (is_before command.moment s.shop.last)) [
          | inl is ↦ is
          | inr isnt ↦
              let rest : List (Refusal × Bool) =
              (NoStaff, not (list_any (staff_is b) (at command.staff s.catalogue.staff)))
              ∷ act_refusals rules b s.catalogue s.shop command.moment command.act in
              let later : first rest ≡ Refused MomentBack = rw (room, isnt) at told in
              let low : refusal_number MomentBack < refusal_number MomentBack = above_all (refusal_number MomentBack) rest MomentBack order later in
              absurd (omega arith)
        ]
      ];
    }
