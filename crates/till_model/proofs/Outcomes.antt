-- The outcome of a till's entries.
use Rattle.shop_model.proofs.Common.{◌≡◌, inl, inr, ◌∙◌, ℕ, List, [], ◌∷◌, map, filter, Bool, true, false, Some, refl, sym, subst, ap, slice_get, bytes_eq}
use Rattle.shop_model.proofs.Common.{cases_Bool, false≢true, bytes_eq-Decides, Text, Command, Rules, Refusal, MomentBack, Kept, Shop, same_command, Verdict}
use Rattle.shop_model.proofs.Common.{Again, Refused, Accepted, first, resent, refusals, is_before, verdict, Do, Sorry, Done, Input, Own, State, reply_text}
use Rattle.shop_model.proofs.Common.{reply_by, if_accepted, done, moved, state_after, Answer, answer_of}
use Rattle.shop_model.proofs.RowLemmas.{filter_away}
use Rattle.shop_model.proofs.ActLaws.{command_same}
use Rattle.till_model.specs.Tills.{Entry, Served, served_in, are_marked, have_own_keys, ComeFrom, ComeInOrder, IsBookOf}
use Rattle.till_model.specs.Outcomes.{IsKeptAs, NoneBehind}
use Rattle.till_model.specs.Laws.{ActsOnceInOrder}
use Rattle.till_model.proofs.KeptRows.{Grows, grows, has, none_has, under}
use Rattle.till_model.proofs.Entries.{marked_at, none_acted, same_entry}
use Rattle.till_model.proofs.InOrder.{Knows, through}
use Rattle.till_model.proofs.Places.{Place, place_of, state_append}
use Rattle.till_model.proofs.Replies.{Says, good_reply, kept_as, row_of, said, says_more}
use Rattle.till_model.proofs.Refused.{IsPast, absent, is_past, past}

-- ---- the outcome of the entries

not_sorry : (text : Text) (refusal : Refusal) → Done text ≡ Sorry refusal → ⊥
not_sorry text refusal e = cc

refused_is : (v : Verdict) (new : Text) (refusal : Refusal) → reply_by v new ≡ Sorry refusal → v ≡ Refused refusal
refused_is (Again text) new refusal e = absurd (not_sorry text refusal e)
refused_is (Refused other) new refusal e = ap Refused (same other refusal e)
  where
    same : (r t : Refusal) → Sorry r ≡ Sorry t → r ≡ t
    same r t e = cc
refused_is Accepted new refusal e = absurd (not_sorry new refusal e)

-- an entry that acted is never refused
never_refused : (command : Command) (k : Kept) (v : Verdict) (refusal : Refusal) → k.command ≡ command → resent command (k ∷ []) v ≡ Refused refusal → ⊥
never_refused command k v refusal same e =
    let is : same_command k.command command ≡ true = subst (λ (c : Command). same_command c command ≡ true) (sym same) (command_same command) in
    let no : Again k.reply ≡ Refused refusal = rw is at e in apart no
  where
    apart : Again k.reply ≡ Refused refusal → ⊥
    apart e = cc

fresh_has : (has_mark : Text → Bool) (key : Text) (ks : List Kept)
    → filter (λ (k : Kept). has_mark k.command.key) ks ≡ [] → has_mark key ≡ true → has key ks ≡ false
fresh_has has_mark key ks none owned =
    none_has key ks
    (sym (filter_away (λ (k : Kept). bytes_eq k.command.key key) (λ (k : Kept). has_mark k.command.key) ks
    (λ k is. ap has_mark ((bytes_eq-Decides k.command.key key).0 is) ∙ owned))
    ∙ ap (filter (λ (k : Kept). bytes_eq k.command.key key)) none)

module _ (has_mark : Text → Bool) (rules : Rules) (b : ℕ) (es : List Entry) (s : State)
    (fresh : filter (λ (k : Kept). has_mark k.command.key) s.shop.kept ≡ []) where
  begun : are_marked has_mark es ≡ true → Knows has_mark es s.shop.kept s.shop.last
  begun all = record {
    rows =
        ap (map (λ (k : Kept). k.command)) fresh
        ∙ sym (ap (map (λ (e : Entry). e.command))
        (none_acted es s.shop.kept (λ j y there. fresh_has has_mark y.command.key s.shop.kept fresh (marked_at has_mark es j y all there))));
    within = λ j y there is. absurd (false≢true (sym (fresh_has has_mark y.command.key s.shop.kept fresh (marked_at has_mark es j y all there)) ∙ is));
  }

  known : (inputs : List Input) → are_marked has_mark es ≡ true → have_own_keys es ≡ true
      → ComeFrom es (served_in has_mark rules b inputs s) → ComeInOrder es (served_in has_mark rules b inputs s)
      → Knows has_mark es (state_after rules b inputs s).shop.kept (state_after rules b inputs s).shop.last
  known inputs all own come order = through has_mark rules b es all own inputs s come order (begun all)
      (λ i j n x y late low at_i at_j is at_n same.
      absurd (false≢true (sym (fresh_has has_mark y.command.key s.shop.kept fresh (marked_at has_mark es j y all at_j)) ∙ is)))

  module _ (inputs : List Input) (book : IsBookOf has_mark es (served_in has_mark rules b inputs s)) where
    abbrev served : List Served
    served = served_in has_mark rules b inputs s

    abbrev last_state : State
    last_state = state_after rules b inputs s

    -- the invariant `Knows` holds for the state at a place
    known_at : (n : ℕ) (it : Served) (p : Place has_mark rules b inputs s n it)
        → Knows has_mark es (state_after rules b p.front s).shop.kept (state_after rules b p.front s).shop.last
    known_at n it p = known p.front book.marked book.keys (λ m x there. book.come m x (p.before m x there))
        (λ i j m k x y one late low at_i at_j less at_m is at_k is'.
        book.order i j m k x y one late low at_i at_j less (p.before m one at_m) is (p.before k late at_k) is')

    ends : (n : ℕ) (it : Served) (p : Place has_mark rules b inputs s n it)
        → last_state ≡ state_after rules b p.back (moved rules b (Own (Do it.command)) (state_after rules b p.front s))
    ends n it p = ap (λ (l : List Input). state_after rules b l s) p.split ∙ state_append rules b p.front (Own (Do it.command) ∷ p.back) s

    told_well : (i : ℕ) (e : Entry) → slice_get es i ≡ Some e → (n : ℕ) (it : Served) → slice_get served n ≡ Some it
        → it.command ≡ e.command → (answer : Answer) → answer ≡ answer_of it.reply → answer.status ≡ 200
        → (text : Text) × (answer ≡ answer_of (Done text)) × IsKeptAs e.command text last_state.shop
    told_well i e there n it at_n is_entry answer told good =
        let p = place_of has_mark rules b inputs s n it at_n in
        let sn = state_after rules b p.front s in
        let v = verdict rules b sn.catalogue sn.shop it.command in
        let same : answer ≡ answer_of (reply_by v (reply_text rules it.command sn.shop)) = told ∙ ap answer_of p.reply in
        let ok = good_reply v (reply_text rules it.command sn.shop) (ap (λ (a : Answer). a.status) (sym same) ∙ good) in
        let says = said rules b sn it.command ok.0 v refl ok.1 in
        let at_end = says_more it.command.key ok.0 (moved rules b (Own (Do it.command)) sn).shop.kept last_state.shop.kept says
        (subst (λ (st : State). Grows (moved rules b (Own (Do it.command)) sn).shop.kept st.shop.kept)
        (sym (ends n it p)) (grows rules b p.back (moved rules b (Own (Do it.command)) sn)))
        in
        let of_entry : Says e.command.key ok.0 last_state.shop.kept = subst (λ (c : Command). Says c.key ok.0 last_state.shop.kept) is_entry at_end in (
          ok.0,
          same ∙ ap answer_of ok.1,
          kept_as has_mark es last_state.shop.kept last_state.shop.last i e ok.0 book.marked book.keys
              (known inputs book.marked book.keys book.come book.order) there of_entry,
        )

    accepted : (i : ℕ) (e : Entry) → slice_get es i ≡ Some e → (answer : Answer) → e.reply ≡ Some answer → answer.status ≡ 200
        → (text : Text) × (answer ≡ answer_of (Done text)) × IsKeptAs e.command text last_state.shop
    accepted i e there answer is good = let told = book.told i e answer there is in told_well i e there told.0 told.1 told.2 told.3 answer told.4 good

    again : (i : ℕ) (e : Entry) → slice_get es i ≡ Some e → (n : ℕ) (it : Served) (text : Text) → slice_get served n ≡ Some it
        → it.command ≡ e.command → it.reply ≡ Done text → IsKeptAs e.command text last_state.shop
    again i e there n it text at_n is_entry done =
        let well = told_well i e there n it at_n is_entry (answer_of (Done text)) (ap answer_of (sym done)) refl in
        let body : text ≡ well.0 = ap (λ (a : Answer). a.body) well.1 in
        subst (λ (t : Text). IsKeptAs e.command t last_state.shop) (sym body) well.2

    -- a command that was served under an entry's key is that entry's
    of_key : (i : ℕ) (e : Entry) → slice_get es i ≡ Some e → (n : ℕ) (x : Served)
        → slice_get served n ≡ Some x → bytes_eq x.command.key e.command.key ≡ true → x.command ≡ e.command
    of_key i e there n x at_n same =
        let found = book.come n x at_n in
        let key : bytes_eq found.1.command.key e.command.key ≡ true = subst (λ (c : Command). bytes_eq c.key e.command.key ≡ true) (sym found.3) same in
        sym found.3 ∙ ap (λ (it : Entry). it.command) (same_entry es found.0 i found.1 e book.keys found.2 there key)

    -- a served command that isn't the entry's has another key
    other_keys : (i : ℕ) (e : Entry) → slice_get es i ≡ Some e → (n : ℕ) (x : Served)
        → slice_get served n ≡ Some x → (x.command ≡ e.command → ⊥) → bytes_eq x.command.key e.command.key ≡ false
    other_keys i e there n x at_n not_it = elim (cases_Bool (bytes_eq x.command.key e.command.key)) [
      | inr other ↦ other
      | inl same ↦ absurd (not_it (of_key i e there n x at_n same))
    ]

    unsent : (i : ℕ) (e : Entry) → slice_get es i ≡ Some e
        → ((m : ℕ) (x : Served) → slice_get served m ≡ Some x → x.command ≡ e.command → ⊥) → has e.command.key last_state.shop.kept ≡ false
    unsent i e there never =
        let owned = marked_at has_mark es i e book.marked there in
        absent e.command.key has_mark rules b inputs s owned (fresh_has has_mark e.command.key s.shop.kept fresh owned)
        (λ n x at_n. other_keys i e there n x at_n (never n x at_n))

    -- an entry has not acted before a place where it was refused
    not_yet : (i : ℕ) (e : Entry) → slice_get es i ≡ Some e
        → (n : ℕ) (it : Served) (refusal : Refusal) (p : Place has_mark rules b inputs s n it) → it.command ≡ e.command → it.reply ≡ Sorry refusal
        → (verdict rules b (state_after rules b p.front s).catalogue (state_after rules b p.front s).shop it.command ≡ Refused refusal)
        × (has e.command.key (state_after rules b p.front s).shop.kept ≡ false)
    not_yet i e there n it refusal p same sorry =
        let sn = state_after rules b p.front s in
        let v = verdict rules b sn.catalogue sn.shop it.command in
        let is = refused_is v (reply_text rules it.command sn.shop) refusal (sym p.reply ∙ sorry) in (
          is,
          elim (cases_Bool (has e.command.key sn.shop.kept)) [
            | inr isnt ↦ isnt
            | inl kept ↦
                let row = row_of has_mark es sn.shop.kept sn.shop.last i e book.marked book.keys (known_at n it p) there kept in
                let is' : resent e.command (under e.command.key sn.shop.kept) (first (refusals rules b sn.catalogue sn.shop e.command)) ≡ Refused refusal =
                subst (λ (c : Command). verdict rules b sn.catalogue sn.shop c ≡ Refused refusal) same is in
                let at_row : resent e.command (row.0 ∷ []) (first (refusals rules b sn.catalogue sn.shop e.command)) ≡ Refused refusal =
                subst (λ (rows : List Kept). resent e.command rows (first (refusals rules b sn.catalogue sn.shop e.command)) ≡ Refused refusal) row.1 is' in
                absurd (never_refused e.command row.0 (first (refusals rules b sn.catalogue sn.shop e.command)) refusal row.2 at_row)
          ],
        )

    -- a refused command leaves the shop
    same_shop : (sn : State) (command : Command) (refusal : Refusal)
        → verdict rules b sn.catalogue sn.shop command ≡ Refused refusal → (moved rules b (Own (Do command)) sn).shop ≡ sn.shop
    same_shop sn command refusal is = ap (λ (v : Verdict). if_accepted v (done rules sn.catalogue command sn.shop) sn.shop) is

    refused : (i : ℕ) (e : Entry) → slice_get es i ≡ Some e → (n : ℕ) (it : Served) (refusal : Refusal)
        → slice_get served n ≡ Some it → it.command ≡ e.command → it.reply ≡ Sorry refusal
        → NoneBehind n e.command served → has e.command.key last_state.shop.kept ≡ false
    refused i e there n it refusal at_n same sorry never =
        let p = place_of has_mark rules b inputs s n it at_n in
        let sn = state_after rules b p.front s in
        let h = not_yet i e there n it refusal p same sorry in
        let next = moved rules b (Own (Do it.command)) sn in
        let none : has e.command.key next.shop.kept ≡ false =
        subst (λ (shop : Shop). has e.command.key shop.kept ≡ false) (sym (same_shop sn it.command refusal h.0)) h.1 in
        let last = absent e.command.key has_mark rules b p.back next (marked_at has_mark es i e book.marked there) none
        (λ m x at_m. let k = p.behind m x at_m in other_keys i e there k.0 x k.2 (never k.0 x k.1 k.2)) in
        subst (λ (st : State). has e.command.key st.shop.kept ≡ false) (sym (ends n it p)) last

    back : (i : ℕ) (e : Entry) → slice_get es i ≡ Some e → (n : ℕ) (it : Served) → slice_get served n ≡ Some it
        → it.command ≡ e.command → it.reply ≡ Sorry MomentBack → has e.command.key last_state.shop.kept ≡ false
    back i e there n it at_n same sorry =
        let p = place_of has_mark rules b inputs s n it at_n in
        let sn = state_after rules b p.front s in
        let is = refused_is (verdict rules b sn.catalogue sn.shop it.command) (reply_text rules it.command sn.shop) MomentBack (sym p.reply ∙ sorry) in
        let here = is_past rules b sn it.command is in
        let next = moved rules b (Own (Do it.command)) sn in
        let shop_is = same_shop sn it.command MomentBack is in
        let later : IsPast it.command next = record {
          none = subst (λ (shop : Shop). has it.command.key shop.kept ≡ false) (sym shop_is) here.none;
          past = subst (λ (shop : Shop). is_before it.command.moment shop.last ≡ true) (sym shop_is) here.past;
        } in
        let last = past it.command has_mark rules b p.back next p.owned later
        (λ m x at_m key.
        let k = p.behind m x at_m in of_key i e there k.0 x k.2 (subst (λ (c : Command). bytes_eq x.command.key c.key ≡ true) same key) ∙ sym same)
        in
        subst (λ (c : Command). has c.key last_state.shop.kept ≡ false) same
        (subst (λ (st : State). has it.command.key st.shop.kept ≡ false) (sym (ends n it p)) last.none)

pub acts_once_in_order : ActsOnceInOrder
acts_once_in_order has_mark rules b es inputs s fresh book = record {
  acted = (known has_mark rules b es s fresh inputs book.marked book.keys book.come book.order).rows;
  each = λ i e there. record {
    accepted = accepted has_mark rules b es s fresh inputs book i e there;
    again = again has_mark rules b es s fresh inputs book i e there;
    unsent = unsent has_mark rules b es s fresh inputs book i e there;
    refused = refused has_mark rules b es s fresh inputs book i e there;
    back = back has_mark rules b es s fresh inputs book i e there;
  };
}
