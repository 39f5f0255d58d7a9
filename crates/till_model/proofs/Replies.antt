-- A command whose reply was 200 is kept with that reply, in one row alone.
use Rattle.shop_model.proofs.Common.{◌≡◌, inl, inr, ◌∙◌, ℕ, List, [], ◌∷◌, ◌++◌, map, filter, Bool, true, Some, Option, refl, sym, ap, arith, slice_get}
use Rattle.shop_model.proofs.Common.{bytes_eq, cases_Bool, bytes_eq-Decides, Moment, Text, Command, Rules, Refusal, TooLong, NoCounter, NoRoute, BadBody}
use Rattle.shop_model.proofs.Common.{KeyUsed, Full, MomentBack, NoStaff, NoCustomer, CustomerInactive, NoCopy, CopyNotHere, CopyOut, FilmWithdrawn, SameMoment}
use Rattle.shop_model.proofs.Common.{NoRental, RentalReturned, WrongCustomer, NoFilm, LotIn, BadCsv, NoBranch, OwnBranch, NoArrival, ArrivalReceived, BadLines}
use Rattle.shop_model.proofs.Common.{BadThreshold, TokenTaken, NoSharedRow, Already, Usage, Kept, same_command, Verdict, Again, Refused, Accepted, first}
use Rattle.shop_model.proofs.Common.{resent, refusals, verdict, Sorry, Done, State, reply_text, reply_by, if_accepted, done, answer_of, filter-append}
use Rattle.shop_model.proofs.RowLemmas.{filter_map, filter_away}
use Rattle.shop_model.proofs.ActLaws.{bytes_same}
use Rattle.shop_model.proofs.Resends.{never_again}
use Rattle.shop_model.proofs.Accepted.{none_kept}
use Rattle.till_model.specs.Tills.{Entry, are_marked, have_own_keys}
use Rattle.till_model.proofs.KeptRows.{Grows, has, some_has, under}
use Rattle.till_model.proofs.Entries.{acted, acted_one, marked_at}
use Rattle.till_model.proofs.InOrder.{Knows}

pub record Says (key text : Text) (ks : List Kept) : Type 0 where
  pub row : Kept
  pub rest : List Kept
  pub rows : under key ks ≡ row ∷ rest
  pub reply : row.reply ≡ text

pub says_more : (key text : Text) (old new : List Kept) → Says key text old → Grows old new → Says key text new
says_more key text old new says more = record {
  row = says.row;
  rest = says.rest ++ under key more.0;
  rows = ap (under key) more.1 ∙ filter-append (λ (k : Kept). bytes_eq k.command.key key) old more.0 ∙ ap (λ (l : List Kept). l ++ under key more.0) says.rows;
  reply = says.reply;
}

again_row : (command : Command) (ks : List Kept) (v : Verdict) (text : Text) → (v ≡ Again text → ⊥)
    → resent command ks v ≡ Again text → (k : Kept) × (rest : List Kept) × (ks ≡ k ∷ rest) × (k.reply ≡ text)
again_row command [] v text fresh e = absurd (fresh e)
again_row command (k ∷ ks) v text fresh e = elim (cases_Bool (same_command k.command command)) [
  | inl is ↦ let it : Again k.reply ≡ Again text = rw is at e in (k, ks, refl, text_of k.reply text it)
  | inr isnt ↦ let no : Refused KeyUsed ≡ Again text = rw isnt at e in absurd (apart no)
] where
  text_of : (x y : Text) → Again x ≡ Again y → x ≡ y
  text_of x y e = cc

  apart : Refused KeyUsed ≡ Again text → ⊥
  apart e = cc

same_done : (x y : Text) → Done x ≡ Done y → x ≡ y
same_done x y e = cc

-- a command is kept with the text of its reply, if the reply is 200
pub said : (rules : Rules) (b : ℕ) (s : State) (command : Command) (text : Text) (v : Verdict)
    → v ≡ verdict rules b s.catalogue s.shop command → reply_by v (reply_text rules command s.shop) ≡ Done text
    → Says command.key text (if_accepted v (done rules s.catalogue command s.shop) s.shop).kept
said rules b s command text (Again t) is told =
    let tests = refusals rules b s.catalogue s.shop command in
    let found = again_row command (under command.key s.shop.kept) (first tests) t (never_again tests t) (sym is) in
    record { row = found.0; rest = found.1; rows = found.2; reply = found.3 ∙ same_done t text told }
said rules b s command text (Refused refusal) is told = absurd (apart told)
  where
    apart : Sorry refusal ≡ Done text → ⊥
    apart e = cc
said rules b s command text Accepted is told =
    let k : Kept = record { command = command; reply = reply_text rules command s.shop } in
    let none = (none_kept command (under command.key s.shop.kept) (first (refusals rules b s.catalogue s.shop command)) (sym is)).0 in
    let one : under command.key (k ∷ []) ≡ k ∷ [] = rw (bytes_same command.key) refl in
    record {
      row = k;
      rest = [];
      rows =
          filter-append (λ (k : Kept). bytes_eq k.command.key command.key) s.shop.kept (k ∷ [])
          ∙ ap (λ (l : List Kept). l ++ under command.key (k ∷ [])) none ∙ one;
      reply = same_done (reply_text rules command s.shop) text told;
    }

one_row : (command : Command) (rows : List Kept) → map (λ (k : Kept). k.command) rows ≡ command ∷ [] → (k : Kept) × (rows ≡ k ∷ []) × (k.command ≡ command)
one_row command [] e = absurd (clash e)
  where
    clash : ◌≡◌ {A = List Command} [] (command ∷ []) → ⊥
    clash e = cc
one_row command (k ∷ []) e = (k, refl, heads e)
  where
    heads : k.command ∷ [] ≡ command ∷ [] → k.command ≡ command
    heads e = cc
one_row command (k ∷ (other ∷ rows)) e = absurd (clash e)
  where
    clash : k.command ∷ (other.command ∷ map (λ (k : Kept). k.command) rows) ≡ command ∷ [] → ⊥
    clash e = cc

pub row_of : (has_mark : Text → Bool) (es : List Entry) (ks : List Kept) (last : Option Moment) (i : ℕ) (x : Entry)
    → are_marked has_mark es ≡ true → have_own_keys es ≡ true → Knows has_mark es ks last
    → slice_get es i ≡ Some x → has x.command.key ks ≡ true → (k : Kept) × (under x.command.key ks ≡ k ∷ []) × (k.command ≡ x.command)
row_of has_mark es ks last i x all own knows there kept =
    let key = x.command.key in
    let marked_key = marked_at has_mark es i x all there in
    let at_key : Kept → Bool = λ k. bytes_eq k.command.key key in
    let away = filter_away at_key (λ (k : Kept). has_mark k.command.key) ks (λ k is. ap has_mark ((bytes_eq-Decides k.command.key key).0 is) ∙ marked_key) in
    one_row x.command (under key ks)
    (ap (map (λ (k : Kept). k.command)) (sym away)
    ∙ sym (filter_map (λ (c : Command). bytes_eq c.key key) (λ (k : Kept). k.command) (filter (λ (k : Kept). has_mark k.command.key) ks))
    ∙ ap (filter (λ (c : Command). bytes_eq c.key key)) knows.rows
    ∙ filter_map (λ (c : Command). bytes_eq c.key key) (λ (e : Entry). e.command) (acted es ks)
    ∙ ap (map (λ (e : Entry). e.command)) (acted_one es ks i x own there kept))

pub kept_as : (has_mark : Text → Bool) (es : List Entry) (ks : List Kept) (last : Option Moment) (i : ℕ) (x : Entry) (text : Text)
    → are_marked has_mark es ≡ true → have_own_keys es ≡ true → Knows has_mark es ks last
    → slice_get es i ≡ Some x → Says x.command.key text ks → under x.command.key ks ≡ record { command = x.command; reply = text } ∷ []
kept_as has_mark es ks last i x text all own knows there says =
    let found = row_of has_mark es ks last i x all own knows there (some_has x.command.key ks says.row says.rest says.rows) in
    let same : says.row ≡ found.0 = head_of says.row found.0 says.rest (sym says.rows ∙ found.1) in
    let reply : found.0.reply ≡ text = ap (λ (k : Kept). k.reply) (sym same) ∙ says.reply in
    found.1 ∙ ap (λ (k : Kept). k ∷ []) (row_is found.0 x.command text found.2 reply)
  where
    head_of : (k l : Kept) (rest : List Kept) → k ∷ rest ≡ l ∷ [] → k ≡ l
    head_of k l rest e = cc

    row_is : (k : Kept) (command : Command) (text : Text) → k.command ≡ command → k.reply ≡ text → k ≡ record { command = command; reply = text }
    row_is k command text c r =
        ap (λ (it : Command). record { command = it; reply = k.reply }) c ∙ ap (λ (it : Text). record { command = command; reply = it }) r

sorry_status : (refusal : Refusal) → (answer_of (Sorry refusal)).status ≡ 200 → ⊥
sorry_status TooLong e = omega (arith, e)
sorry_status NoCounter e = omega (arith, e)
sorry_status NoRoute e = omega (arith, e)
sorry_status BadBody e = omega (arith, e)
sorry_status KeyUsed e = omega (arith, e)
sorry_status Full e = omega (arith, e)
sorry_status MomentBack e = omega (arith, e)
sorry_status NoStaff e = omega (arith, e)
sorry_status NoCustomer e = omega (arith, e)
sorry_status CustomerInactive e = omega (arith, e)
sorry_status NoCopy e = omega (arith, e)
sorry_status CopyNotHere e = omega (arith, e)
sorry_status CopyOut e = omega (arith, e)
sorry_status FilmWithdrawn e = omega (arith, e)
sorry_status SameMoment e = omega (arith, e)
sorry_status NoRental e = omega (arith, e)
sorry_status RentalReturned e = omega (arith, e)
sorry_status WrongCustomer e = omega (arith, e)
sorry_status NoFilm e = omega (arith, e)
sorry_status LotIn e = omega (arith, e)
sorry_status (BadCsv line) e = omega (arith, e)
sorry_status NoBranch e = omega (arith, e)
sorry_status OwnBranch e = omega (arith, e)
sorry_status NoArrival e = omega (arith, e)
sorry_status ArrivalReceived e = omega (arith, e)
sorry_status BadLines e = omega (arith, e)
sorry_status BadThreshold e = omega (arith, e)
sorry_status TokenTaken e = omega (arith, e)
sorry_status NoSharedRow e = omega (arith, e)
sorry_status Already e = omega (arith, e)
sorry_status Usage e = omega (arith, e)

-- a reply of status 200 to a command is a `Done`
pub good_reply : (v : Verdict) (new : Text) → (answer_of (reply_by v new)).status ≡ 200 → (text : Text) × (reply_by v new ≡ Done text)
good_reply (Again text) new is = (text, refl)
good_reply (Refused refusal) new is = absurd (sorry_status refusal is)
good_reply Accepted new is = (new, refl)
