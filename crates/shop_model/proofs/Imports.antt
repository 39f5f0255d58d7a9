-- Copies are made by imports alone, one for each row of the stock file.
use Rattle.shop_model.proofs.Common.{◌≡◌, inl, inr, ℕ, ◌+◌, List, [], ◌∷◌, length, filter, map, Bool, true, false, refl, sym, ap, ◌∙◌, arith, add-zero, ◌==◌}
use Rattle.shop_model.proofs.Common.{◌&&◌, ◌||◌, list_any, cases_Bool, Row, next, put_all, total, Arrival, Act, Import, Dispatch, Receive, Scrap, Sent}
use Rattle.shop_model.proofs.Common.{Scrapped, Command, Rules, Kept, act_refusals, films_in, verdict, Request, Do, Office, HeadOffice, if_accepted, reply_text}
use Rattle.shop_model.proofs.Common.{Books, BookCopy, Mark, Consignment, Caller, Counter, CopyRows, shop_of, as_arrival, imported, is_consignment, come}
use Rattle.shop_model.proofs.Common.{book_acted, book_done, after_for, after, caller_in, all_lines, is_mark, is_origin, one, rows_made, IsSound, if◌then◌else◌}
use Rattle.shop_model.specs.Rows.{put}
use Rattle.shop_model.specs.Reentered.{kept_by, kept_in}
use Rattle.shop_model.specs.Figures.{imports, made_at, CopiesAreOfImports}
use Rattle.shop_model.proofs.RowLemmas.{same_test}
use Rattle.shop_model.proofs.CustodyLemmas.{total-append, state_made, states_made, unpacked_made, UnderWayOld, under_way_old, made_old, AreOpen, come_old}
use Rattle.shop_model.proofs.ShopLemmas.{arrival_of}
use Rattle.shop_model.proofs.SameStates.{by_cases}
use Rattle.shop_model.proofs.Accepted.{NoneHold, act_holds}
use Rattle.shop_model.proofs.Soundness.{after_sound}

none_more : (t : Bool) (n : ℕ) → n ≡ n + (if t then 0 else 0)
none_more true n = sym (add-zero n)
none_more false n = sym (add-zero n)

imported_made : (b c : ℕ) (films : List ℕ) (rows : List (Row BookCopy))
    → rows_made (λ (mark : Mark). mark.branch == c) (put_all b (map (imported b) films) rows)
    ≡ rows_made (λ (mark : Mark). mark.branch == c) rows + (if b == c then length films else 0)
imported_made b c [] rows = none_more (b == c) _
imported_made b c (film ∷ films) rows =
    let n = next b rows in
    let row : Row BookCopy = record { branch = b; number = n; it = imported b film n } in
    let more = imported_made b c films (put b (imported b film) rows) in
    let m = total-append (λ (row : Row BookCopy). one (is_origin row && (row.it.mark.branch == c))) rows (row ∷ []) in
    let step : one ((b == b && n == n) && (b == c)) + (if b == c then length films else 0) ≡ (if b == c then length (film ∷ films) else 0) =
    elim (cases_Bool (b == c)) [
      | inl is ↦ rw (same_test b, same_test n, is) (omega arith)
      | inr isnt ↦ rw (same_test b, same_test n, isnt) refl
    ] in
    omega (arith, more, m, step)

open_same : (cs : List Consignment) → list_any (λ (it : Arrival). it.received) (map as_arrival cs) ≡ list_any (λ (it : Consignment). it.received) cs
open_same [] = refl
open_same (c ∷ cs) = ap (λ r. c.received || r) (open_same cs)

acted_made : (rules : Rules) (b c : ℕ) (command : Command) (act : Act) (books : Books) → IsSound rules books
    → NoneHold (act_refusals rules b books.catalogue (shop_of b books) command.moment act)
    → made_at c (book_acted rules b command act books) ≡ made_at c books + (if b == c then imports rules act else 0)
acted_made rules b c command (Import lot file) books sound none = imported_made b c (films_in (rules.stock_of file)) books.copies
acted_made rules b c command (Dispatch to xs) books sound none = states_made _ b xs Sent books.copies ∙ none_more (b == c) (made_at c books)
acted_made rules b c command (Scrap x) books sound none = state_made _ b x Scrapped books.copies ∙ none_more (b == c) (made_at c books)
acted_made rules b c command (Receive source number missing) books sound none =
    let q = is_consignment source b number in
    let opens : AreOpen q books.consignments =
    sym (open_same (filter q books.consignments))
    ∙ rw (sym (arrival_of source b number books.consignments (sound.numbers.consignments source b))) none.1.0 in
    let old : UnderWayOld b (next b books.copies) (all_lines books) =
    under_way_old b (next b books.copies) (all_lines books)
    (λ mark some. let c = sound.custody (is_mark mark) in made_old b mark books.copies (sound.numbers.rows CopyRows b) (omega (arith, some, c))) in
    unpacked_made (λ (mark : Mark). mark.branch == c) b (come source b number missing books.consignments) books.copies
    (come_old b (next b books.copies) missing q books.consignments sound.settled opens old)
    ∙ none_more (b == c) (made_at c books)
acted_made rules b c command act books sound none = none_more (b == c) (made_at c books)

abbrev kept_rows : Rules → Kept → ℕ
kept_rows rules k = imports rules k.command.act

-- so it is of the rows of what is kept
kept_total : (rules : Rules) (mine : Bool) (k : Kept) (n : ℕ)
    → n + (if mine then kept_rows rules k else 0) ≡ n + total (kept_rows rules) (if mine then k ∷ [] else [])
kept_total rules true k n = omega arith
kept_total rules false k n = refl

no_total : (rules : Rules) (mine : Bool) (n : ℕ) → n ≡ n + total (kept_rows rules) (if mine then [] else [])
no_total rules true n = sym (add-zero n)
no_total rules false n = sym (add-zero n)

step_made : (rules : Rules) (c : ℕ) (caller : Caller) (request : Request) (books : Books) → IsSound rules books
    → made_at c (after_for rules caller request books) ≡ made_at c books + total (kept_rows rules) (kept_by rules c caller request books)
step_made rules c (Counter b) (Do command) books sound =
    let k : Kept = record { command = command; reply = reply_text rules command (shop_of b books) } in
    by_cases (λ v.
    made_at c (if_accepted v (book_done rules b command books) books)
    ≡ made_at c books + total (kept_rows rules) (if b == c then if_accepted v (k ∷ []) [] else []))
    (verdict rules b books.catalogue (shop_of b books) command)
    (λ e.
    acted_made rules b c command command.act books sound (act_holds rules b books.catalogue (shop_of b books) command e)
    ∙ kept_total rules (b == c) k (made_at c books))
    (λ _ _. no_total rules (b == c) (made_at c books)) (λ _. no_total rules (b == c) (made_at c books))
step_made rules c HeadOffice (Office command) books sound = sym (add-zero (made_at c books))
step_made rules c caller request books sound = sym (add-zero (made_at c books))

pub of_imports : CopiesAreOfImports
of_imports rules [] books b sound = sym (add-zero (made_at b books))
of_imports rules (x ∷ xs) books b sound =
    let caller = caller_in x books in
    let request = x.request caller in
    let now = after rules x books in
    let step = step_made rules b caller request books sound in
    let more = of_imports rules xs now b (after_sound rules rules caller request books (omega arith) (omega arith) sound) in
    let both = total-append (kept_rows rules) (kept_by rules b caller request books) (kept_in rules b xs now) in
    omega (arith, step, more, both)
