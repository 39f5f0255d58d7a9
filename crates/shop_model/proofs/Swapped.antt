-- In books that are alike commands are answered alike and leave such books, so that commands that may change places make histories that are alike.
use Rattle.shop_model.proofs.Common.{◌≡◌, inl, inr, ℕ, zero, suc, List, [], ◌∷◌, ◌++◌, length, filter, map, Bool, true, false, not, refl, sym, ap, ap₂, subst}
use Rattle.shop_model.proofs.Common.{◌∙◌, ◌==◌, ◌&&◌, flat_map, cases_Bool, and_parts, not-true, false≢true, at, arrived, Row, Owned, Arrival, Act, Receive}
use Rattle.shop_model.proofs.Common.{Command, OfficeAsk, Rules, Catalogue, Shop, arrival, verdict, office_verdict, Verdict, object, reply_text, Request, Do}
use Rattle.shop_model.proofs.Common.{Office, is_nobody, Reply, reply_by, if_accepted, catalogue_after, office_text, Books, Line, Consignment, Event, Caller}
use Rattle.shop_model.proofs.Common.{Counter, HeadOffice, CopyRows, Customers, Rentals, TermRows, Payments, shop_of, unmarked, as_arrival, as_parcel, head}
use Rattle.shop_model.proofs.Common.{book_done, after_for, after, caller_in, caller_of, reply_for, reply_in, run, last_books, is_consignment, come, between}
use Rattle.shop_model.proofs.Common.{HasNumbers}
use Rattle.shop_model.specs.Acts.{told}
use Rattle.shop_model.specs.Interleaved.{is_arrivals, is_plain, placeless, sent_by, AreAlike, AlikeStayAlike, Commute, is_awaited, reads, are_apart, swapped}
use Rattle.shop_model.specs.Interleaved.{may_swap, are_plain, all_swapped, may_swap_all, OrderMayDiffer}
use Rattle.shop_model.specs.Reentered.{accepts, accepted_ones}
use Rattle.shop_model.proofs.Reentered.{others_leave, given}
use mathlib.Core.Path.{fun_ext}
use Rattle.shop_model.proofs.RowLemmas.{length_map, map_map, filter_map, filter_filter}
use Rattle.shop_model.proofs.NumberLemmas.{after_numbers}
use Rattle.shop_model.proofs.SameStates.{by_cases}
use Rattle.shop_model.proofs.Accepted.{catalogue_stays}
use Rattle.shop_model.proofs.Resends.{caller_after}
use Rattle.shop_model.proofs.Alike.{filter_swap, by_others, ComesSame, done_same, same_through, same_back}
use Rattle.shop_model.proofs.OfficeOrder.{office_commutes}
use Rattle.shop_model.proofs.Arrivals.{FindsSame, verdict_same, text_same, look_same}
use Rattle.shop_model.specs.Resends.{is_command}
use Rattle.shop_model.specs.Machine.{look, Look}
use Rattle.shop_model.specs.Values.{Ask}
use Rattle.shop_model.proofs.Interleaved.{sends_by, receipt, sends_acted, news_same, itself, commute}

-- ---- a branch's shop in books that are alike

module _ (c : ℕ) (one other : Books) (alike : AreAlike one other) where
  abbrev to : ℕ → Consignment → Bool
  to number it = it.addressee == number

  abbrev from : ℕ → Consignment → Bool
  from number it = it.source == number

  -- what passes a second test, of the sender's consignments
  found : (s : ℕ) (q : Consignment → Bool) → ((it : Consignment) → q (placeless it) ≡ q it)
      → map placeless (filter q (filter (from s) one.consignments)) ≡ map placeless (filter q (filter (from s) other.consignments))
  found s q keeps = by_sent one ∙ ap (filter q) (alike.sent s) ∙ sym (by_sent other) where
    by_sent : (books : Books) → map placeless (filter q (filter (from s) books.consignments)) ≡ filter q (sent_by s books)
    by_sent books =
        ap (λ (test : Consignment → Bool). map placeless (filter test (filter (from s) books.consignments))) (sym (fun_ext keeps))
        ∙ sym (filter_map q placeless (filter (from s) books.consignments))

  arrivals_found : (source number : ℕ) → arrival source number (shop_of c one) ≡ arrival source number (shop_of c other)
  arrivals_found source number =
      by_placeless one ∙ ap (λ (cs : List Consignment). at number (map as_arrival cs)) (found source (to c) (λ x. refl)) ∙ sym (by_placeless other) where
        by_placeless : (books : Books)
            → arrival source number (shop_of c books) ≡ at number (map as_arrival (map placeless (filter (to c) (filter (from source) books.consignments))))
        by_placeless books =
            ap (at number) (filter_map (λ (it : Arrival). it.source == source) as_arrival (filter (to c) books.consignments)
            ∙ ap (map as_arrival) (filter_swap (from source) (to c) books.consignments)
            ∙ sym (map_map as_arrival placeless (filter (to c) (filter (from source) books.consignments))))

  abbrev lines_in : List ℕ → List Consignment → List Line
  lines_in missing cs = flat_map (λ (it : Consignment). arrived missing it.lines) cs

  three : (x y z : Bool) → (x && y && z) ≡ (x && (y && z))
  three true y z = refl
  three false y z = refl

  come_same : (source number : ℕ) (missing : List ℕ) → come source c number missing one.consignments ≡ come source c number missing other.consignments
  come_same source number missing =
      by_placeless one ∙ ap (lines_in missing) (found source (λ (it : Consignment). it.addressee == c && it.number == number) (λ x. refl))
      ∙ sym (by_placeless other) where
        placeless_lines : (cs : List Consignment)
            → flat_map (λ (it : Consignment). arrived missing it.lines) cs ≡ flat_map (λ (it : Consignment). arrived missing it.lines) (map placeless cs)
        placeless_lines [] = refl
        placeless_lines (it ∷ cs) = ap (λ (rest : List Line). arrived missing it.lines ++ rest) (placeless_lines cs)

        by_test : (cs : List Consignment)
            → filter (is_consignment source c number) cs ≡ filter (λ (it : Consignment). it.addressee == c && it.number == number) (filter (from source) cs)
        by_test cs =
            ap (λ (test : Consignment → Bool). filter test cs)
            (fun_ext (λ (it : Consignment). three (it.source == source) (it.addressee == c) (it.number == number)))
            ∙ sym (filter_filter (from source) (λ (it : Consignment). it.addressee == c && it.number == number) cs)
            ∙ filter_swap (from source) (λ (it : Consignment). it.addressee == c && it.number == number) cs

        by_placeless : (books : Books)
            → come source c number missing books.consignments
            ≡ lines_in missing
            (map placeless (filter (λ (it : Consignment). it.addressee == c && it.number == number) (filter (from source) books.consignments)))
        by_placeless books = ap (flat_map (λ (it : Consignment). arrived missing it.lines)) (by_test books.consignments)
            ∙ placeless_lines (filter (λ (it : Consignment). it.addressee == c && it.number == number) (filter (from source) books.consignments))

  comes_same : (act : Act) → ComesSame c act one.consignments other.consignments
  comes_same (Receive source number missing) = come_same source number missing
  comes_same act = tt

  counts_same : (addressee : ℕ) → length (between c addressee one.consignments) ≡ length (between c addressee other.consignments)
  counts_same addressee = by_placeless one ∙ ap length (found c (to addressee) (λ x. refl)) ∙ sym (by_placeless other) where
    by_placeless : (books : Books)
        → length (between c addressee books.consignments) ≡ length (map placeless (filter (to addressee) (filter (from c) books.consignments)))
    by_placeless books =
        ap length (sym (filter_filter (from c) (to addressee) books.consignments) ∙ filter_swap (from c) (to addressee) books.consignments)
        ∙ sym (length_map placeless (filter (to addressee) (filter (from c) books.consignments)))

  abbrev its : {A : Type 0} → List (Row A) → List A
  its {A} rows = map (λ (row : Row A). row.it) rows

  abbrev owned : {A : Type 0} → List (Owned A) → List A
  owned {A} rows = map (λ (row : Owned A). row.it) rows

  parcels_same : (shop_of c one).sent ≡ (shop_of c other).sent
  parcels_same =
      sym (map_map as_parcel placeless (filter (from c) one.consignments))
      ∙ ap (map as_parcel) (alike.sent c) ∙ map_map as_parcel placeless (filter (from c) other.consignments)

  -- but for the arrivals the shop is the same
  shop_same : ◌≡◌ {A = Shop} (record (shop_of c one) { arrivals = (shop_of c other).arrivals }) (shop_of c other)
  shop_same =
      let mine = alike.rows c in
      λ i. record {
        customers = its (mine.rows Customers i);
        copies = map unmarked (its (mine.rows CopyRows i));
        rentals = its (mine.rows Rentals i);
        terms = its (mine.rows TermRows i);
        payments = its (mine.rows Payments i);
        lots = owned (mine.lots i);
        arrivals = (shop_of c other).arrivals;
        sent = parcels_same i;
        kept = owned (mine.kept i);
        last = head (owned (mine.lasts i));
      }

  finds_same : (act : Act) → FindsSame act (shop_of c one) (shop_of c other).arrivals
  finds_same (Receive source number missing) = arrivals_found source number
  finds_same act = tt

  verdict_alike : (rules : Rules) (command : Command)
      → verdict rules c one.catalogue (shop_of c one) command ≡ verdict rules c other.catalogue (shop_of c other) command
  verdict_alike rules command =
      verdict_same rules c one.catalogue command (shop_of c one) (shop_of c other).arrivals (finds_same command.act)
      ∙ ap₂ (λ (catalogue : Catalogue) (shop : Shop). verdict rules c catalogue shop command) alike.catalogue shop_same

  text_alike : (rules : Rules) (command : Command) → reply_text rules command (shop_of c one) ≡ reply_text rules command (shop_of c other)
  text_alike rules command =
      text_same rules command.act (shop_of c one) (shop_of c other).arrivals (finds_same command.act)
      ∙ ap (λ (shop : Shop). object (told rules command.act shop)) shop_same

  look_alike : (ask : Ask) → is_arrivals ask ≡ false → look c one.catalogue (shop_of c one) ask ≡ look c other.catalogue (shop_of c other) ask
  look_alike ask isnt =
      look_same c one.catalogue (shop_of c one) (shop_of c other).arrivals ask isnt
      ∙ ap₂ (λ (catalogue : Catalogue) (shop : Shop). look c catalogue shop ask) alike.catalogue shop_same

  done_alike : (rules : Rules) (command : Command) → AreAlike (book_done rules c command one) (book_done rules c command other)
  done_alike rules command = record {
    catalogue = catalogue_stays rules c command command.act one ∙ alike.catalogue ∙ sym (catalogue_stays rules c command command.act other);
    rows = λ b. done_same rules b c command one other alike.catalogue (alike.rows c) (alike.rows b) (comes_same command.act) (text_alike rules command);
    sent = λ s.
        sends_acted rules s c command command.act one
        ∙ ap₂ (sends_by s c (receipt command.act)) (news_same c command.act one other (alike.rows c) counts_same) (alike.sent s)
        ∙ sym (sends_acted rules s c command command.act other);
  }

-- ---- commands in books that are alike

with_catalogue : (one other : Books) (catalogue catalogue' : Catalogue) → catalogue ≡ catalogue'
    → AreAlike one other → AreAlike (record one { catalogue = catalogue }) (record other { catalogue = catalogue' })
with_catalogue one other catalogue catalogue' same alike = record {
  catalogue = same;
  rows = λ b. let mine = alike.rows b in record {
    rows =
        by_others b one other catalogue catalogue' one.lots other.lots one.consignments other.consignments one.kept other.kept one.lasts other.lasts mine.rows;
    lots = mine.lots;
    kept = mine.kept;
    lasts = mine.lasts;
  };
  sent = alike.sent;
}

pub stay_alike : AlikeStayAlike
stay_alike rules look (Counter c) (Do command) one other plain alike =
    let same = verdict_alike c one other alike rules command in
    let v = verdict rules c one.catalogue (shop_of c one) command in
    record {
      reply = ap₂ reply_by same (text_alike c one other alike rules command);
      leaves =
          subst (λ (now : Verdict). AreAlike (if_accepted v (book_done rules c command one) one) (if_accepted now (book_done rules c command other) other)) same
          (by_cases (λ now. AreAlike (if_accepted now (book_done rules c command one) one) (if_accepted now (book_done rules c command other) other)) v
          (λ _. done_alike c one other alike rules command) (λ _ _. alike) (λ _. alike));
    }
stay_alike rules look (Counter c) (Look ask) one other plain alike =
    record { reply = look_alike c one other alike ask (not-true (is_arrivals ask) plain); leaves = alike }
stay_alike rules look HeadOffice (Office command) one other plain alike = record {
  reply = ap (λ (catalogue : Catalogue). reply_by (office_verdict rules catalogue command) (office_text command catalogue)) alike.catalogue;
  leaves =
      with_catalogue one other (catalogue_after rules command one.catalogue)
      (catalogue_after rules command other.catalogue) (ap (catalogue_after rules command) alike.catalogue) alike;
}
stay_alike rules look HeadOffice (Do command) one other plain alike = absurd (false≢true plain)
stay_alike rules look HeadOffice request one other plain alike = absurd (false≢true plain)
stay_alike rules look caller request one other plain alike = record { reply = refl; leaves = alike }

-- ---- histories

pub through : (one other third : Books) → AreAlike one other → AreAlike other third → AreAlike one third
through one other third alike more = record {
  catalogue = alike.catalogue ∙ more.catalogue;
  rows = λ b. same_through b one other third (alike.rows b) (more.rows b);
  sent = λ b. alike.sent b ∙ more.sent b;
}

record RunsAlike (rules : Rules) (look : OfficeAsk → Books → Reply) (events : List Event) (one other : Books) : Type 0 where
  replies : run rules look events one ≡ run rules look events other
  leaves : AreAlike (last_books rules events one) (last_books rules events other)
  plain : are_plain rules events other ≡ true

runs_alike : (rules : Rules) (look : OfficeAsk → Books → Reply) (events : List Event) (one other : Books)
    → are_plain rules events one ≡ true → AreAlike one other → RunsAlike rules look events one other
runs_alike rules look [] one other all alike = record { replies = refl; leaves = alike; plain = refl }
runs_alike rules look (e ∷ events) one other all alike =
    let caller = caller_in e one in
    let h = and_parts (is_plain caller (e.request caller)) (are_plain rules events (after rules e one)) all in
    let who : caller ≡ caller_in e other = ap (caller_of e.token) alike.catalogue in
    let step = stay_alike rules look caller (e.request caller) one other h.0 alike in
    let then_other : after_for rules caller (e.request caller) other ≡ after rules e other = ap (λ (k : Caller). after_for rules k (e.request k) other) who in
    let more = runs_alike rules look events (after rules e one) (after rules e other) h.1 (subst (AreAlike (after rules e one)) then_other step.leaves) in
    let told : ◌≡◌ {A = Caller × Reply} (caller, reply_in rules look e one) (caller_in e other, reply_in rules look e other) =
    ap (λ (r : Reply). (caller, r)) step.reply ∙ ap (λ (k : Caller). (k, reply_for rules look k (e.request k) other)) who in
    record {
      replies = ap₂ (λ (a : Caller × Reply) (rest : List (Caller × Reply)). a ∷ rest) told more.replies;
      leaves = more.leaves;
      plain = rw (sym (ap (λ (k : Caller). is_plain k (e.request k)) who) ∙ h.0) more.plain;
    }

-- ---- two events that change places

pub alike_back : (one other : Books) → AreAlike one other → AreAlike other one
alike_back one other alike = record { catalogue = sym alike.catalogue; rows = λ b. same_back b one other (alike.rows b); sent = λ b. sym (alike.sent b) }

turn : (rules : Rules) (look : OfficeAsk → Books → Reply) (p q : Caller) (r s : Request) (books : Books)
    → Commute rules look p q r s books → Commute rules look q p s r books
turn rules look p q r s books law =
    record {
      first = law.second;
      second = law.first;
      leaves = alike_back (after_for rules q s (after_for rules p r books)) (after_for rules p r (after_for rules q s books)) law.leaves;
    }

-- requests that are apart commute, and their callers are known
abbrev pub Commuting : Rules → (OfficeAsk → Books → Reply) → Caller → Caller → Request → Request → Books → Type 0
Commuting rules look p q r s books = Commute rules look p q r s books × (is_nobody p ≡ false) × (is_nobody q ≡ false)

pub apart_commute : (rules : Rules) (look : OfficeAsk → Books → Reply) (p : Caller) (r : Request) (q : Caller) (s : Request) (books : Books)
    → HasNumbers books → are_apart p r q s ≡ true → Commuting rules look p q r s books
apart_commute rules look (Counter b) r (Counter c) s books has e =
    let h = and_parts (not (b == c) && not (is_awaited b c r s)) (not (is_awaited c b s r)) e in
    let g = and_parts (not (b == c)) (not (is_awaited b c r s)) h.0 in
    (commute rules look b c r s books has (not-true (b == c) g.0) (not-true (is_awaited b c r s) g.1) (not-true (is_awaited c b s r) h.1), refl, refl)
apart_commute rules look (Counter b) (Do k) HeadOffice (Office office) books has e =
    (office_commutes rules look b k office books (not-true (reads office.act k.act) e), refl, refl)
apart_commute rules look HeadOffice (Office office) (Counter b) (Do k) books has e = (
  turn rules look (Counter b) HeadOffice (Do k) (Office office) books (office_commutes rules look b k office books (not-true (reads office.act k.act) e)),
  refl,
  refl,
)
apart_commute rules look p r q s books has e = absurd (false≢true e)

-- two events, by their callers
module _ (rules : Rules) (look : OfficeAsk → Books → Reply) (p q : Caller) (e f : Event) (events : List Event) (books : Books)
    (who : caller_in e books ≡ p) (other : caller_in f books ≡ q) (known : is_nobody q ≡ false) where
  abbrev pub first_books : Books
  first_books = after_for rules p (e.request p) books

  abbrev pub both_books : Books
  both_books = after_for rules q (f.request q) first_books

  still : caller_in f first_books ≡ q
  still = caller_after rules p (e.request p) f.token q books known other

  pub two_run : run rules look (e ∷ f ∷ events) books
      ≡ (p, reply_for rules look p (e.request p) books) ∷ (q, reply_for rules look q (f.request q) first_books) ∷ run rules look events both_books
  two_run =
      ap (λ (k : Caller). (k, reply_for rules look k (e.request k) books) ∷ run rules look (f ∷ events) (after_for rules k (e.request k) books)) who
      ∙ ap (λ (k : Caller).
      (p, reply_for rules look p (e.request p) books) ∷ (k, reply_for rules look k (f.request k) first_books)
      ∷ run rules look events (after_for rules k (f.request k) first_books))
      still

  two_last : last_books rules (e ∷ f ∷ events) books ≡ last_books rules events both_books
  two_last =
      ap (λ (k : Caller). last_books rules (f ∷ events) (after_for rules k (e.request k) books)) who
      ∙ ap (λ (k : Caller). last_books rules events (after_for rules k (f.request k) first_books)) still

  two_plain : are_plain rules (e ∷ f ∷ events) books ≡ (is_plain p (e.request p) && (is_plain q (f.request q) && are_plain rules events both_books))
  two_plain =
      ap (λ (k : Caller). is_plain k (e.request k) && are_plain rules (f ∷ events) (after_for rules k (e.request k) books)) who
      ∙ ap
      (λ (k : Caller). is_plain p (e.request p) && (is_plain k (f.request k) && are_plain rules events (after_for rules k (f.request k) first_books))) still

pub record IsSwappedOnce (rules : Rules) (look : OfficeAsk → Books → Reply) (n : ℕ) (events : List Event) (books : Books) : Type 0 where
  pub replies : run rules look (swapped n events) books ≡ swapped n (run rules look events books)
  pub leaves : AreAlike (last_books rules events books) (last_books rules (swapped n events) books)
  pub plain : are_plain rules (swapped n events) books ≡ true

pub swap_two : (rules : Rules) (look : OfficeAsk → Books → Reply) (e f : Event) (events : List Event) (books : Books) (p q : Caller)
    → caller_in e books ≡ p → caller_in f books ≡ q
    → Commuting rules look p q (e.request p) (f.request q) books
    → are_plain rules (e ∷ f ∷ events) books ≡ true → IsSwappedOnce rules look zero (e ∷ f ∷ events) books
swap_two rules look e f events books p q who other commutes all =
    let x = e.request p in
    let y = f.request q in
    let law = commutes.0 in
    let one = after_for rules q y (after_for rules p x books) in
    let two = after_for rules p x (after_for rules q y books) in
    let h =
    and_parts (is_plain p x) (is_plain q y && are_plain rules events one) (sym (two_plain rules look p q e f events books who other commutes.2) ∙ all) in
    let g = and_parts (is_plain q y) (are_plain rules events one) h.1 in
    let more = runs_alike rules look events one two g.1 law.leaves in
    let second = sym law.second in
    let rest = sym more.replies in
    let told_so : ◌≡◌ {A = List (Caller × Reply)}
    ((q, reply_for rules look q y books) ∷ (p, reply_for rules look p x (after_for rules q y books)) ∷ run rules look events two)
    ((q, reply_for rules look q y (after_for rules p x books)) ∷ (p, reply_for rules look p x books) ∷ run rules look events one) =
    λ i. (q, second i) ∷ (p, law.first i) ∷ rest i in
    record {
      replies =
          two_run rules look q p f e events books other who commutes.1 ∙ told_so
          ∙ sym (ap (swapped zero) (two_run rules look p q e f events books who other commutes.2));
      leaves =
          subst (λ (last : Books). AreAlike last (last_books rules (f ∷ e ∷ events) books))
          (sym (two_last rules look p q e f events books who other commutes.2))
          (subst (AreAlike (last_books rules events one)) (sym (two_last rules look q p f e events books other who commutes.1)) more.leaves);
      plain = two_plain rules look q p f e events books other who commutes.1 ∙ rw (g.0, h.0, more.plain) refl;
    }

swap_once : (rules : Rules) (look : OfficeAsk → Books → Reply) (n : ℕ) (events : List Event) (books : Books)
    → HasNumbers books → are_plain rules events books ≡ true
    → may_swap rules n events books ≡ true → IsSwappedOnce rules look n events books
swap_once rules look zero [] books has all may = absurd (false≢true may)
swap_once rules look zero (e ∷ []) books has all may = absurd (false≢true may)
swap_once rules look (suc n) [] books has all may = absurd (false≢true may)
swap_once rules look zero (e ∷ f ∷ events) books has all may =
    let k = caller_in e books in
    let k' = caller_in f books in
    swap_two rules look e f events books k k' refl refl (apart_commute rules look k (e.request k) k' (f.request k') books has may) all
swap_once rules look (suc n) (e ∷ events) books has all may =
    let caller = caller_in e books in
    let h = and_parts (is_plain caller (e.request caller)) (are_plain rules events (after rules e books)) all in
    let more = swap_once rules look n events (after rules e books) (after_numbers rules caller (e.request caller) books has) h.1 may in
    record {
      replies = ap (λ (rest : List (Caller × Reply)). (caller, reply_in rules look e books) ∷ rest) more.replies;
      leaves = more.leaves;
      plain = rw h.0 more.plain;
    }

pub may_differ : OrderMayDiffer
may_differ rules look [] events books has all may = record { replies = refl; leaves = itself (last_books rules events books) }
may_differ rules look (n ∷ ns) events books has all may =
    let h = and_parts (may_swap rules n events books) (may_swap_all rules ns (swapped n events) books) may in
    let once = swap_once rules look n events books has all h.0 in
    let more = may_differ rules look ns (swapped n events) books has once.plain h.1 in
    record {
      replies = more.replies ∙ ap (all_swapped ns) once.replies;
      leaves =
          through (last_books rules events books) (last_books rules (swapped n events) books)
          (last_books rules (all_swapped ns (swapped n events)) books) once.leaves more.leaves;
    }

-- ---- a disk is lost

pub last_numbers : (rules : Rules) (events : List Event) (books : Books) → HasNumbers books → HasNumbers (last_books rules events books)
last_numbers rules [] books has = has
last_numbers rules (e ∷ events) books has =
    let caller = caller_in e books in last_numbers rules events (after rules e books) (after_numbers rules caller (e.request caller) books has)

pub command_plain : (caller : Caller) (request : Request) → is_command caller request ≡ true → is_plain caller request ≡ true
command_plain (Counter b) (Do command) is = refl
command_plain HeadOffice (Office command) is = refl
command_plain caller request is = absurd (false≢true is)

pub accepted_plain : (rules : Rules) (look : OfficeAsk → Books → Reply) (events : List Event) (books : Books)
    → are_plain rules (accepted_ones rules events books) books ≡ true
accepted_plain rules look [] books = refl
accepted_plain rules look (e ∷ events) books =
    let caller = caller_in e books in
    let more = accepted_plain rules look events (after rules e books) in
    elim (cases_Bool (accepts rules caller (e.request caller) books)) [
      | inl is ↦ rw (is, command_plain caller (e.request caller) (given rules look caller (e.request caller) books is).3) more
      | inr isnt ↦
          let same : after rules e books ≡ books = others_leave rules caller (e.request caller) books isnt in
          rw (isnt, same) (rw same at more)
    ]
