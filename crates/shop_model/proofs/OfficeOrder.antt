-- A branch's command and one of head office that it doesn't read may change places.
use Rattle.shop_model.proofs.Common.{◌≡◌, ℕ, List, [], ◌∷◌, ◌++◌, length, filter, map, Bool, true, false, not, None, Some, refl, sym, ap, ap₂, subst, ◌∙◌, ◌==◌}
use Rattle.shop_model.proofs.Common.{◌||◌, nat_lt, list_any, true≢false, false≢true, ⊤, at, lacks, is_empty, has_double, bytes_eq, Moment, Film, Staff, Terms}
use Rattle.shop_model.proofs.Common.{Branch, Act, AddCustomer, Rent, Import, Dispatch, Command, OfficeAct, AddCity, AddFilm, PriceFilm, WithdrawFilm, AddBranch}
use Rattle.shop_model.proofs.Common.{AddStaff, StaffLeaves, SetManager, OfficeCommand, Stock, Copies, BadLine, Rules, Refusal, Full, MomentBack, NoStaff}
use Rattle.shop_model.proofs.Common.{NoCopy, CopyNotHere, CopyOut, NoBranch, OwnBranch, BadLines, FilmWithdrawn, NoFilm, LotIn, Kept, OfficeKept, Catalogue}
use Rattle.shop_model.proofs.Common.{Shop, in_stock, is_away, terms_now, act_refusals, import_refusals, is_film_withdrawn, is_full, is_before, staff_is}
use Rattle.shop_model.proofs.Common.{verdict, office_verdict, Verdict, first, resent, reply_text, Request, Do, Office, reply_by, if_accepted, office_acted}
use Rattle.shop_model.proofs.Common.{office_done, catalogue_after, office_text, Books, Counter, HeadOffice, Put, Rentals, TermRows, all_edited, shop_of}
use Rattle.shop_model.proofs.Common.{book_acted, book_done, set_last, after_for, set_at}
use Rattle.shop_model.specs.Values.{NewCustomer, City}
use Rattle.shop_model.specs.Interleaved.{AreAlike, reads, OfficeCommutes}
use Rattle.shop_model.proofs.SameStates.{by_cases, by_verdict}
use Rattle.shop_model.proofs.Accepted.{catalogue_stays}
use Rattle.shop_model.proofs.LinkLemmas.{any_same, any_at_set, has_set}
use Rattle.shop_model.proofs.Interleaved.{itself}

-- ---- what a branch's act reads stays

cities_stay : (office : OfficeAct) (it : NewCustomer) (catalogue : Catalogue)
    → reads office (AddCustomer it) ≡ false → (office_acted office catalogue).cities ≡ catalogue.cities
cities_stay (AddCity city) it catalogue unread = absurd (true≢false unread)
cities_stay office it catalogue unread = refl

films_stay : (office : OfficeAct) (c x : ℕ) (catalogue : Catalogue) → reads office (Rent c x) ≡ false → (office_acted office catalogue).films ≡ catalogue.films
films_stay (AddFilm film) c x catalogue unread = absurd (true≢false unread)
films_stay (PriceFilm film rate) c x catalogue unread = absurd (true≢false unread)
films_stay (WithdrawFilm film) c x catalogue unread = absurd (true≢false unread)
films_stay office c x catalogue unread = refl

same_without : (a b : Bool) → not a ≡ not b → a ≡ b
same_without true true e = refl
same_without true false e = absurd (false≢true e)
same_without false true e = absurd (true≢false e)
same_without false false e = refl

lacks_set : {A : Type 0} (n m : ℕ) (f : A → A) (xs : List A) → lacks (set_at m f xs) n ≡ lacks xs n
lacks_set n m f xs = same_without (lacks (set_at m f xs) n) (lacks xs n) (has_set n m f xs)

-- of a film an import reads that it is there, and not withdrawn
withdrawn_stays : (office : OfficeAct) (lot file : List ℕ) (catalogue : Catalogue) → reads office (Import lot file) ≡ false → (film : ℕ)
    → list_any (λ (f : Film). f.withdrawn) (at film (office_acted office catalogue).films) ≡ list_any (λ (f : Film). f.withdrawn) (at film catalogue.films)
withdrawn_stays (AddFilm new) lot file catalogue unread film = absurd (true≢false unread)
withdrawn_stays (WithdrawFilm f) lot file catalogue unread film = absurd (true≢false unread)
withdrawn_stays (PriceFilm f rate) lot file catalogue unread film =
    any_at_set (λ (it : Film). it.withdrawn) film f (λ (it : Film). record it { rate = rate }) catalogue.films (λ x. refl)
withdrawn_stays office lot file catalogue unread film = refl

film_lacks : (office : OfficeAct) (lot file : List ℕ) (catalogue : Catalogue) → reads office (Import lot file) ≡ false
    → (film : ℕ) → lacks (office_acted office catalogue).films film ≡ lacks catalogue.films film
film_lacks (AddFilm new) lot file catalogue unread film = absurd (true≢false unread)
film_lacks (WithdrawFilm f) lot file catalogue unread film = absurd (true≢false unread)
film_lacks (PriceFilm f rate) lot file catalogue unread film = lacks_set film f (λ (it : Film). record it { rate = rate }) catalogue.films
film_lacks office lot file catalogue unread film = refl

branch_lacks : (office : OfficeAct) (to : ℕ) (xs : List ℕ) (catalogue : Catalogue) → reads office (Dispatch to xs) ≡ false
    → lacks (office_acted office catalogue).branches to ≡ lacks catalogue.branches to
branch_lacks (AddBranch branch) to xs catalogue unread = absurd (true≢false unread)
branch_lacks (SetManager b s) to xs catalogue unread = lacks_set to b (λ (it : Branch). record it { manager = Some s }) catalogue.branches
branch_lacks office to xs catalogue unread = refl

staff_stay : (office : OfficeAct) (act : Act) (catalogue : Catalogue) → reads office act ≡ false → (office_acted office catalogue).staff ≡ catalogue.staff
staff_stay (AddStaff staff) act catalogue unread = absurd (true≢false unread)
staff_stay (StaffLeaves s) act catalogue unread = absurd (true≢false unread)
staff_stay (AddCity city) act catalogue unread = refl
staff_stay office act catalogue unread = refl

-- the catalogue after an act of head office
abbrev acted_on : OfficeAct → List OfficeKept → Catalogue → Catalogue
acted_on office kept catalogue = record (office_acted office catalogue) { kept = kept }

import_stays : (office : OfficeAct) (kept : List OfficeKept) (catalogue : Catalogue) (shop : Shop) (lot file : List ℕ) (stock : Stock)
    → reads office (Import lot file) ≡ false
    → import_refusals (acted_on office kept catalogue) shop lot stock ≡ import_refusals catalogue shop lot stock
import_stays office kept catalogue shop lot file (Copies films) unread =
    ap₂ (λ (gone none : Bool). (FilmWithdrawn, gone) ∷ (NoFilm, none) ∷ (LotIn, list_any (bytes_eq lot) shop.lots) ∷ [])
    (any_same (is_film_withdrawn (acted_on office kept catalogue)) (is_film_withdrawn catalogue) films (withdrawn_stays office lot file catalogue unread))
    (any_same (lacks (office_acted office catalogue).films) (lacks catalogue.films) films (film_lacks office lot file catalogue unread))
import_stays office kept catalogue shop lot file (BadLine line) unread = refl

acts_stay : (rules : Rules) (b : ℕ) (moment : Moment) (office : OfficeAct) (act : Act) (kept : List OfficeKept) (catalogue : Catalogue) (shop : Shop)
    → reads office act ≡ false
    → act_refusals rules b (acted_on office kept catalogue) shop moment act ≡ act_refusals rules b catalogue shop moment act
acts_stay rules b moment office (AddCustomer it) kept catalogue shop unread =
    ap (λ (cities : List City). act_refusals rules b (record catalogue { cities = cities }) shop moment (AddCustomer it))
    (cities_stay office it catalogue unread)
acts_stay rules b moment office (Rent c x) kept catalogue shop unread =
    ap (λ (films : List Film). act_refusals rules b (record catalogue { films = films }) shop moment (Rent c x)) (films_stay office c x catalogue unread)
acts_stay rules b moment office (Import lot file) kept catalogue shop unread = import_stays office kept catalogue shop lot file (rules.stock_of file) unread
acts_stay rules b moment office (Dispatch to xs) kept catalogue shop unread =
    ap (λ (no : Bool).
    (NoCopy, list_any (lacks shop.copies) xs)
    ∷ (CopyNotHere, list_any (is_away shop.copies) xs)
    ∷ (CopyOut, list_any (λ x. not (in_stock x shop.rentals)) xs)
    ∷ (NoBranch, no)
    ∷ (OwnBranch, to == b)
    ∷ (BadLines, is_empty xs || nat_lt 100 (length xs) || has_double xs)
    ∷ []) (branch_lacks office to xs catalogue unread)
acts_stay rules b moment office act kept catalogue shop unread = refl

verdict_stays : (rules : Rules) (b : ℕ) (k : Command) (office : OfficeCommand) (catalogue : Catalogue) (shop : Shop) → reads office.act k.act ≡ false
    → verdict rules b (office_done office catalogue) shop k ≡ verdict rules b catalogue shop k
verdict_stays rules b k office catalogue shop unread =
    ap₂ (λ (staff : List Staff) (more : List (Refusal × Bool)).
    resent k (filter (λ (it : Kept). bytes_eq it.command.key k.key) shop.kept)
    (first ((Full, is_full rules shop k.act) ∷ (MomentBack, is_before k.moment shop.last) ∷ (NoStaff, not (list_any (staff_is b) (at k.staff staff))) ∷ more)))
    (staff_stay office.act k.act catalogue unread) (acts_stay rules b k.moment office.act k.act (office_done office catalogue).kept catalogue shop unread)

-- ---- what a branch's act leaves, with another catalogue

-- a rent has the same terms in it
abbrev HasSameTerms : Act → Catalogue → Catalogue → Shop → Type 0
HasSameTerms (Rent c x) now catalogue shop = terms_now now shop x ≡ terms_now catalogue shop x
HasSameTerms act now catalogue shop = ⊤

terms_stay : (act : Act) (office : OfficeAct) (kept : List OfficeKept) (catalogue : Catalogue) (shop : Shop)
    → reads office act ≡ false → HasSameTerms act (acted_on office kept catalogue) catalogue shop
terms_stay (Rent c x) office kept catalogue shop unread =
    ap (λ (films : List Film). terms_now (record catalogue { films = films }) shop x) (films_stay office c x catalogue unread)
terms_stay act office kept catalogue shop unread = tt

abbrev with_shared : Catalogue → Books → Books
with_shared catalogue books = record books { catalogue = catalogue }

acted_with : (rules : Rules) (b : ℕ) (k : Command) (act : Act) (now : Catalogue) (books : Books) → HasSameTerms act now books.catalogue (shop_of b books)
    → book_acted rules b k act (with_shared now books) ≡ with_shared now (book_acted rules b k act books)
acted_with rules b k (Rent c x) now books same =
    ap (λ (its : List Terms). all_edited b
    (Put Rentals ((λ _. record { rented = k.moment; copy = x; customer = c; returned = None; staff = k.staff }) ∷ [])
    ∷ Put TermRows (map (λ it _. it) its) ∷ [])
    (with_shared now books))
    same
acted_with rules b k act now books same = refl

done_with : (rules : Rules) (b : ℕ) (k : Command) (now : Catalogue) (books : Books) → HasSameTerms k.act now books.catalogue (shop_of b books)
    → book_done rules b k (with_shared now books) ≡ with_shared now (book_done rules b k books)
done_with rules b k now books same =
    ap (λ (acted : Books). record acted {
      kept = books.kept ++ record { owner = b; it = record { command = k; reply = reply_text rules k (shop_of b books) } } ∷ [];
      lasts = set_last b k.moment books.lasts;
    }) (acted_with rules b k k.act now books same)

-- ---- both

pub branch_keeps : (rules : Rules) (b : ℕ) (request : Request) (books : Books) → (after_for rules (Counter b) request books).catalogue ≡ books.catalogue
branch_keeps rules b (Do command) books =
    by_verdict (λ (it : Books). it.catalogue ≡ books.catalogue)
    (verdict rules b books.catalogue (shop_of b books) command) (book_done rules b command books) books
    (λ _. catalogue_stays rules b command command.act books) refl
branch_keeps rules b request books = refl

both_orders : (rules : Rules) (b : ℕ) (k : Command) (office : OfficeCommand) (books : Books) → reads office.act k.act ≡ false
    → after_for rules HeadOffice (Office office) (after_for rules (Counter b) (Do k) books)
    ≡ after_for rules (Counter b) (Do k) (after_for rules HeadOffice (Office office) books)
both_orders rules b k office books unread =
    let shop = shop_of b books in
    let old = books.catalogue in
    let x = after_for rules (Counter b) (Do k) books in
    let now = catalogue_after rules office old in
    let v = verdict rules b old shop k in
    let same : verdict rules b now shop k ≡ v =
    by_verdict (λ (it : Catalogue). verdict rules b it shop k ≡ v) (office_verdict rules old office)
    (office_done office old) old (λ _. verdict_stays rules b k office old shop unread) refl in
    let done : book_done rules b k (with_shared now books) ≡ with_shared now (book_done rules b k books) =
    by_verdict (λ (it : Catalogue). book_done rules b k (with_shared it books) ≡ with_shared it (book_done rules b k books))
    (office_verdict rules old office) (office_done office old) old
    (λ _. done_with rules b k (office_done office old) books (terms_stay k.act office.act (office_done office old).kept old shop unread))
    (done_with rules b k old books (itself_terms k.act old shop)) in
    ap (λ (it : Catalogue). with_shared (catalogue_after rules office it) x) (branch_keeps rules b (Do k) books)
    ∙ by_cases (λ it.
    with_shared now (if_accepted it (book_done rules b k books) books)
    ≡ if_accepted it (book_done rules b k (with_shared now books)) (with_shared now books))
    v
    (λ _. sym done) (λ _ _. refl) (λ _. refl)
    ∙ ap (λ (it : Verdict). if_accepted it (book_done rules b k (with_shared now books)) (with_shared now books)) (sym same)
  where
    itself_terms : (act : Act) (catalogue : Catalogue) (shop : Shop) → HasSameTerms act catalogue catalogue shop
    itself_terms (Rent c x) catalogue shop = refl
    itself_terms act catalogue shop = tt

pub office_commutes : OfficeCommutes
office_commutes rules look b k office books unread =
    let old = books.catalogue in
    let x = after_for rules (Counter b) (Do k) books in
    let same : verdict rules b (catalogue_after rules office old) (shop_of b books) k ≡ verdict rules b old (shop_of b books) k =
    by_verdict (λ (it : Catalogue). verdict rules b it (shop_of b books) k ≡ verdict rules b old (shop_of b books) k)
    (office_verdict rules old office) (office_done office old) old
    (λ _. verdict_stays rules b k office old (shop_of b books) unread) refl in
    record {
      first = ap (λ (it : Verdict). reply_by it (reply_text rules k (shop_of b books))) same;
      second = ap (λ (it : Catalogue). reply_by (office_verdict rules it office) (office_text office it)) (branch_keeps rules b (Do k) books);
      leaves =
          subst (AreAlike (after_for rules HeadOffice (Office office) x))
          (both_orders rules b k office books unread) (itself (after_for rules HeadOffice (Office office) x));
    }
