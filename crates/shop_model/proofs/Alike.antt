-- What commands leave of each branch's rows depends on the rows of that branch and of the branch that acts.
use Rattle.shop_model.proofs.Common.{◌≡◌, inl, inr, ℕ, ◌+◌, List, [], ◌∷◌, ◌++◌, length, filter, map, Bool, true, false, not, cond, None, refl, sym, ⊤, ap, ap₂}
use Rattle.shop_model.proofs.Common.{subst, ◌∙◌, ◌==◌, flat_map, cases_Bool, at, Row, Owned, is_of, is_row, next, put_all, set_row, set_rows, update_where}
use Rattle.shop_model.proofs.Common.{Moment, Text, Copy, Terms, Act, Rent, Dispatch, Receive, Command, Rules, Kept, film_terms, terms_now, reply_text, Books}
use Rattle.shop_model.proofs.Common.{BookCopy, Line, Consignment, Table, Customers, CopyRows, Rentals, TermRows, Payments, RowsOf, rows_of, if_same, with_rows}
use Rattle.shop_model.proofs.Common.{Edit, Put, Set, PutLot, Append, Update, edited, all_edited, edits_of, shop_of, unmarked, unpacked, come, put_state, Sent}
use Rattle.shop_model.proofs.Common.{checked, is_consignment, new_consignment, set_last, book_acted, book_done, Catalogue}
use Rattle.shop_model.specs.Rows.{put}
use Rattle.shop_model.specs.Interleaved.{HasSameRows}
use Rattle.shop_model.proofs.RowLemmas.{same_if, differ_if, differ_test, one_more, filter_away}
use Rattle.shop_model.proofs.EditLemmas.{by_table}

-- ---- lists

pub filter_update : {A : Type 0} (p q : A → Bool) (f : A → A) (xs : List A)
    → ((x : A) → p (f x) ≡ p x) → filter p (update_where q f xs) ≡ update_where q f (filter p xs)
filter_update p q f [] keeps = refl
filter_update p q f (x ∷ xs) keeps = elim (cases_Bool (p x)) [
  | inl is ↦ elim (cases_Bool (q x)) [
    | inl hit ↦ rw (hit, keeps x, is, hit) (ap (λ rest. f x ∷ rest) (filter_update p q f xs keeps))
    | inr miss ↦ rw (miss, is, miss) (ap (λ rest. x ∷ rest) (filter_update p q f xs keeps))
  ]
  | inr isnt ↦ elim (cases_Bool (q x)) [
    | inl hit ↦ rw (hit, keeps x, isnt) (filter_update p q f xs keeps)
    | inr miss ↦ rw (miss, isnt) (filter_update p q f xs keeps)
  ]
]

-- rows that pass and aren't updated stay
pub update_away : {A : Type 0} (p q : A → Bool) (f : A → A) (xs : List A) → ((x : A) → p (f x) ≡ p x)
    → ((x : A) → p x ≡ true → q x ≡ false) → filter p (update_where q f xs) ≡ filter p xs
update_away p q f [] keeps apart = refl
update_away p q f (x ∷ xs) keeps apart = elim (cases_Bool (p x)) [
  | inl is ↦ rw (apart x is, is) (ap (λ rest. x ∷ rest) (update_away p q f xs keeps apart))
  | inr isnt ↦ elim (cases_Bool (q x)) [
    | inl hit ↦ rw (hit, keeps x, isnt) (update_away p q f xs keeps apart)
    | inr miss ↦ rw (miss, isnt) (update_away p q f xs keeps apart)
  ]
]

pub filter_swap : {A : Type 0} (p q : A → Bool) (xs : List A) → filter p (filter q xs) ≡ filter q (filter p xs)
filter_swap p q [] = refl
filter_swap p q (x ∷ xs) = elim (cases_Bool (p x)) [
  | inl is ↦ elim (cases_Bool (q x)) [
    | inl hit ↦ rw (hit, is, hit) (ap (λ rest. x ∷ rest) (filter_swap p q xs))
    | inr miss ↦ rw (miss, is, miss) (filter_swap p q xs)
  ]
  | inr isnt ↦ elim (cases_Bool (q x)) [
    | inl hit ↦ rw (hit, isnt) (filter_swap p q xs)
    | inr miss ↦ rw (miss, isnt) (filter_swap p q xs)
  ]
]

-- one more in each of two lists that have the same
pub one_more_same : {A : Type 0} (p : A → Bool) (xs ys : List A) (x y : A) → x ≡ y
    → filter p xs ≡ filter p ys → filter p (xs ++ x ∷ []) ≡ filter p (ys ++ y ∷ [])
one_more_same {A = A} p xs ys x y same e =
    one_more p xs x ∙ ap₂ (λ (z : A) (rest : List A). cond (p z) (rest ++ z ∷ []) rest) same e ∙ sym (one_more p ys y)

-- ---- rows of one branch depend on its own rows and on the rows of the branch that acts

put_same : {A : Type 0} (b c : ℕ) (make : ℕ → A) (one other : List (Row A))
    → filter (is_of c) one ≡ filter (is_of c) other → filter (is_of b) one ≡ filter (is_of b) other
    → filter (is_of b) (put c make one) ≡ filter (is_of b) (put c make other)
put_same {A = A} b c make one other own mine =
    let row : ℕ → Row A = λ n. record { branch = c; number = n; it = make n } in
    one_more_same (is_of b) one other (row (next c one)) (row (next c other))
    (ap (λ (rows : List (Row A)). row (length (map (λ (it : Row A). it.it) rows) + 1)) own) mine

put_all_same : {A : Type 0} (b c : ℕ) (makes : List (ℕ → A)) (one other : List (Row A))
    → filter (is_of c) one ≡ filter (is_of c) other → filter (is_of b) one ≡ filter (is_of b) other
    → filter (is_of b) (put_all c makes one) ≡ filter (is_of b) (put_all c makes other)
put_all_same b c [] one other own mine = mine
put_all_same b c (make ∷ makes) one other own mine =
    put_all_same b c makes (put c make one) (put c make other) (put_same c c make one other own own) (put_same b c make one other own mine)

set_rows_same : {A : Type 0} (b c : ℕ) (ns : List ℕ) (f : A → A) (one other : List (Row A)) → filter (is_of b) one ≡ filter (is_of b) other
    → filter (is_of b) (set_rows c ns f one) ≡ filter (is_of b) (set_rows c ns f other)
set_rows_same b c [] f one other mine = mine
set_rows_same {A = A} b c (n ∷ ns) f one other mine =
    let g : Row A → Row A = λ row. record row { it = f row.it } in
    set_rows_same b c ns f (set_row c n f one) (set_row c n f other)
    (filter_update (is_of b) (is_row c n) g one (λ x. refl) ∙ ap (update_where (is_row c n) g) mine
    ∙ sym (filter_update (is_of b) (is_row c n) g other (λ x. refl)))

put_away : {A : Type 0} (b c : ℕ) (makes : List (ℕ → A)) (rows : List (Row A))
    → (c == b) ≡ false → filter (is_of b) (put_all c makes rows) ≡ filter (is_of b) rows
put_away b c [] rows differ = refl
put_away b c (make ∷ makes) rows differ =
    put_away b c makes (put c make rows) differ
    ∙ one_more (is_of b) rows (record { branch = c; number = next c rows; it = make (next c rows) }) ∙ rw differ refl

pub apart : (b c m : ℕ) → (c == b) ≡ false → (m == b) ≡ true → (m == c) ≡ false
apart b c m differ is = differ_test m c (λ e. differ_if c b differ (sym e ∙ same_if m b is))

set_away : {A : Type 0} (b c : ℕ) (ns : List ℕ) (f : A → A) (rows : List (Row A))
    → (c == b) ≡ false → filter (is_of b) (set_rows c ns f rows) ≡ filter (is_of b) rows
set_away b c [] f rows differ = refl
set_away {A = A} b c (n ∷ ns) f rows differ =
    set_away b c ns f (set_row c n f rows) differ
    ∙ update_away (is_of b) (is_row c n) (λ (row : Row A). record row { it = f row.it }) rows (λ x. refl) (λ x is. rw (apart b c x.branch differ is) refl)

-- ---- tables

same_or_both : (P : (t : Table) → RowsOf t → RowsOf t → Type 0) (t u : Table) (x x' : RowsOf t) (y y' : RowsOf u) → P t x x' → P u y y'
    → P u (if_same RowsOf t u x y) (if_same RowsOf t u x' y')
same_or_both P Customers Customers x x' y y' first second = first
same_or_both P CopyRows CopyRows x x' y y' first second = first
same_or_both P Rentals Rentals x x' y y' first second = first
same_or_both P TermRows TermRows x x' y y' first second = first
same_or_both P Payments Payments x x' y y' first second = first
same_or_both P t u x x' y y' first second = second

-- What holds of each table's two lists still holds after the lists of one table are replaced, if it holds of the new lists.
both_tables : (P : (t : Table) → RowsOf t → RowsOf t → Type 0) (t : Table) (new new' : RowsOf t) (one other : Books) → P t new new'
    → ((u : Table) → P u (rows_of one u) (rows_of other u)) → (u : Table) → P u (rows_of (with_rows t new one) u) (rows_of (with_rows t new' other) u)
both_tables P t new new' one other is old Customers = same_or_both P t Customers new new' one.customers other.customers is (old Customers)
both_tables P t new new' one other is old u = same_or_both P t u new new' (rows_of one u) (rows_of other u) is (old u)

-- the tables stay where all else is other
pub by_others :
    (b : ℕ) (one other : Books) (catalogue catalogue' : Catalogue) (lots lots' : List (Owned Text))
    (cs cs' : List Consignment) (kept kept' : List (Owned Kept)) (lasts lasts' : List (Owned Moment))
    → ((t : Table) → filter (is_of b) (rows_of one t) ≡ filter (is_of b) (rows_of other t)) → (t : Table)
    → filter (is_of b) (rows_of (record one { catalogue = catalogue; lots = lots; consignments = cs; kept = kept; lasts = lasts }) t)
    ≡ filter (is_of b) (rows_of (record other { catalogue = catalogue'; lots = lots'; consignments = cs'; kept = kept'; lasts = lasts' }) t)
by_others b one other catalogue catalogue' lots lots' cs cs' kept kept' lasts lasts' same Customers = same Customers
by_others b one other catalogue catalogue' lots lots' cs cs' kept kept' lasts lasts' same t = same t

-- ---- the same rows

pub same_itself : (b : ℕ) (books : Books) → HasSameRows b books books
same_itself b books = record { rows = λ t. refl; lots = refl; kept = refl; lasts = refl }

pub same_back : (b : ℕ) (one other : Books) → HasSameRows b one other → HasSameRows b other one
same_back b one other same = record { rows = λ t. sym (same.rows t); lots = sym same.lots; kept = sym same.kept; lasts = sym same.lasts }

pub same_through : (b : ℕ) (one other third : Books) → HasSameRows b one other → HasSameRows b other third → HasSameRows b one third
same_through b one other third same more = record {
  rows = λ t. same.rows t ∙ more.rows t;
  lots = same.lots ∙ more.lots;
  kept = same.kept ∙ more.kept;
  lasts = same.lasts ∙ more.lasts;
}

-- ---- edits

edit_same : (b c : ℕ) (edit : Edit) (one other : Books) → HasSameRows c one other
    → HasSameRows b one other → HasSameRows b (edited c edit one) (edited c edit other)
edit_same b c (Put t makes) one other own mine = record {
  rows =
      both_tables (λ (u : Table) (x y : RowsOf u). filter (is_of b) x ≡ filter (is_of b) y) t
      (put_all c makes (rows_of one t)) (put_all c makes (rows_of other t)) one other
      (put_all_same b c makes (rows_of one t) (rows_of other t) (own.rows t) (mine.rows t)) mine.rows;
  lots = mine.lots;
  kept = mine.kept;
  lasts = mine.lasts;
}
edit_same b c (Set t ns f) one other own mine = record {
  rows =
      both_tables (λ (u : Table) (x y : RowsOf u). filter (is_of b) x ≡ filter (is_of b) y) t
      (set_rows c ns f (rows_of one t)) (set_rows c ns f (rows_of other t)) one other
      (set_rows_same b c ns f (rows_of one t) (rows_of other t) (mine.rows t)) mine.rows;
  lots = mine.lots;
  kept = mine.kept;
  lasts = mine.lasts;
}
edit_same b c (PutLot lot) one other own mine = record {
  rows =
      by_others b one other one.catalogue other.catalogue (one.lots ++ record { owner = c; it = lot } ∷ [])
      (other.lots ++ record { owner = c; it = lot } ∷ []) one.consignments other.consignments one.kept other.kept one.lasts other.lasts mine.rows;
  lots =
      one_more_same (λ (row : Owned Text). row.owner == b) one.lots other.lots (record { owner = c; it = lot }) (record { owner = c; it = lot }) refl mine.lots;
  kept = mine.kept;
  lasts = mine.lasts;
}
edit_same b c (Append it) one other own mine = record {
  rows =
      by_others b one other one.catalogue other.catalogue one.lots other.lots (one.consignments ++ it ∷ [])
      (other.consignments ++ it ∷ []) one.kept other.kept one.lasts other.lasts mine.rows;
  lots = mine.lots;
  kept = mine.kept;
  lasts = mine.lasts;
}
edit_same b c (Update test f) one other own mine = record {
  rows =
      by_others b one other one.catalogue other.catalogue one.lots other.lots (update_where test f one.consignments)
      (update_where test f other.consignments) one.kept other.kept one.lasts other.lasts mine.rows;
  lots = mine.lots;
  kept = mine.kept;
  lasts = mine.lasts;
}

all_same : (b c : ℕ) (edits : List Edit) (one other : Books) → HasSameRows c one other
    → HasSameRows b one other → HasSameRows b (all_edited c edits one) (all_edited c edits other)
all_same b c [] one other own mine = mine
all_same b c (edit ∷ edits) one other own mine =
    all_same b c edits (edited c edit one) (edited c edit other) (edit_same c c edit one other own own) (edit_same b c edit one other own mine)

edit_away : (b c : ℕ) (edit : Edit) (books : Books) → (c == b) ≡ false → HasSameRows b (edited c edit books) books
edit_away b c (Put t makes) books differ = record {
  rows =
      by_table (λ (u : Table) (its : RowsOf u). filter (is_of b) its ≡ filter (is_of b) (rows_of books u)) t _ books
      (put_away b c makes (rows_of books t) differ) (λ u. refl);
  lots = refl;
  kept = refl;
  lasts = refl;
}
edit_away b c (Set t ns f) books differ = record {
  rows =
      by_table (λ (u : Table) (its : RowsOf u). filter (is_of b) its ≡ filter (is_of b) (rows_of books u)) t _ books
      (set_away b c ns f (rows_of books t) differ) (λ u. refl);
  lots = refl;
  kept = refl;
  lasts = refl;
}
edit_away b c (PutLot lot) books differ = record {
  rows =
      by_others b books books books.catalogue books.catalogue (books.lots ++ record { owner = c; it = lot } ∷ [])
      books.lots books.consignments books.consignments books.kept books.kept books.lasts books.lasts (λ t. refl);
  lots = one_more (λ (row : Owned Text). row.owner == b) books.lots (record { owner = c; it = lot }) ∙ rw differ refl;
  kept = refl;
  lasts = refl;
}
edit_away b c (Append it) books differ = record {
  rows =
      by_others b books books books.catalogue books.catalogue books.lots books.lots
      (books.consignments ++ it ∷ []) books.consignments books.kept books.kept books.lasts books.lasts (λ t. refl);
  lots = refl;
  kept = refl;
  lasts = refl;
}
edit_away b c (Update test f) books differ = record {
  rows =
      by_others b books books books.catalogue books.catalogue books.lots books.lots
      (update_where test f books.consignments) books.consignments books.kept books.kept books.lasts books.lasts (λ t. refl);
  lots = refl;
  kept = refl;
  lasts = refl;
}

all_away : (b c : ℕ) (edits : List Edit) (books : Books) → (c == b) ≡ false → HasSameRows b (all_edited c edits books) books
all_away b c [] books differ = same_itself b books
all_away b c (edit ∷ edits) books differ =
    same_through b (all_edited c edits (edited c edit books)) (edited c edit books) books
    (all_away b c edits (edited c edit books) differ) (edit_away b c edit books differ)

-- ---- acts

-- what a branch's act finds that comes in with a consignment
abbrev pub ComesSame : ℕ → Act → List Consignment → List Consignment → Type 0
ComesSame c (Receive source number missing) one other = come source c number missing one ≡ come source c number missing other
ComesSame c act one other = ⊤

copies_same : (c : ℕ) (one other : Books) → HasSameRows c one other → (shop_of c one).copies ≡ (shop_of c other).copies
copies_same c one other own = ap (λ (rows : List (Row BookCopy)). map unmarked (map (λ (row : Row BookCopy). row.it) rows)) (own.rows CopyRows)

terms_same : (c x : ℕ) (one other : Books) → one.catalogue ≡ other.catalogue → HasSameRows c one other
    → terms_now one.catalogue (shop_of c one) x ≡ terms_now other.catalogue (shop_of c other) x
terms_same c x one other same own =
    ap₂ (λ (catalogue : Catalogue) (copies : List Copy). map film_terms (flat_map (λ (copy : Copy). at copy.film catalogue.films) (at x copies))) same
    (copies_same c one other own)

acted_same : (rules : Rules) (b c : ℕ) (command : Command) (act : Act) (one other : Books) → one.catalogue ≡ other.catalogue
    → HasSameRows c one other → HasSameRows b one other → ComesSame c act one.consignments other.consignments
    → HasSameRows b (book_acted rules c command act one) (book_acted rules c command act other)
acted_same rules b c command (Rent y x) one other same own mine comes =
    let edits : List Terms → List Edit = λ its.
    Put Rentals ((λ _. record { rented = command.moment; copy = x; customer = y; returned = None; staff = command.staff }) ∷ [])
    ∷ Put TermRows (map (λ it _. it) its) ∷ [] in
    subst (λ (its : List Terms). HasSameRows b (all_edited c (edits its) one) (all_edited c (edits (terms_now other.catalogue (shop_of c other) x)) other))
    (sym (terms_same c x one other same own))
    (all_same b c (edits (terms_now other.catalogue (shop_of c other) x)) one other own mine)
acted_same rules b c command (Receive source number missing) one other same own mine comes =
    let edits : List Line → List Edit = λ lines. Put CopyRows (map unpacked lines) ∷ Update (is_consignment source c number) (checked missing) ∷ [] in
    subst (λ (lines : List Line). HasSameRows b (all_edited c (edits lines) one) (all_edited c (edits (come source c number missing other.consignments)) other))
    (sym comes)
    (all_same b c (edits (come source c number missing other.consignments)) one other own mine)
acted_same rules b c command (Dispatch to xs) one other same own mine comes =
    let first = edit_same b c (Set CopyRows xs (put_state Sent)) one other own mine in
    let x = edited c (Set CopyRows xs (put_state Sent)) one in
    let y = edited c (Set CopyRows xs (put_state Sent)) other in
    record {
      rows =
          by_others b x y x.catalogue y.catalogue x.lots y.lots (x.consignments ++ new_consignment c to xs one ∷ [])
          (y.consignments ++ new_consignment c to xs other ∷ []) x.kept y.kept x.lasts y.lasts first.rows;
      lots = first.lots;
      kept = first.kept;
      lasts = first.lasts;
    }
acted_same rules b c command act one other same own mine comes = all_same b c (edits_of rules c command act one) one other own mine

-- ---- commands

last_same : (b c : ℕ) (moment : Moment) (one other : List (Owned Moment))
    → filter (λ (row : Owned Moment). row.owner == b) one ≡ filter (λ (row : Owned Moment). row.owner == b) other
    → filter (λ (row : Owned Moment). row.owner == b) (set_last c moment one) ≡ filter (λ (row : Owned Moment). row.owner == b) (set_last c moment other)
last_same b c moment one other mine =
    let p : Owned Moment → Bool = λ row. row.owner == b in
    let q : Owned Moment → Bool = λ row. not (row.owner == c) in
    let new : Owned Moment = record { owner = c; it = moment } in
    ap (λ (rest : List (Owned Moment)). cond (c == b) (new ∷ rest) rest) (filter_swap p q one ∙ ap (filter q) mine ∙ sym (filter_swap p q other))

-- the rows after a command depend on the rows of the branch and of the branch that gives the command
pub done_same : (rules : Rules) (b c : ℕ) (command : Command) (one other : Books) → one.catalogue ≡ other.catalogue
    → HasSameRows c one other → HasSameRows b one other → ComesSame c command.act one.consignments other.consignments
    → reply_text rules command (shop_of c one) ≡ reply_text rules command (shop_of c other)
    → HasSameRows b (book_done rules c command one) (book_done rules c command other)
done_same rules b c command one other same own mine comes text =
    let acted = acted_same rules b c command command.act one other same own mine comes in
    let x = book_acted rules c command command.act one in
    let y = book_acted rules c command command.act other in
    let row : Text → Owned Kept = λ reply. record { owner = c; it = record { command = command; reply = reply } } in
    let first = row (reply_text rules command (shop_of c one)) in
    let second = row (reply_text rules command (shop_of c other)) in
    record {
      rows =
          by_others b x y x.catalogue y.catalogue x.lots y.lots x.consignments y.consignments (one.kept ++ first ∷ [])
          (other.kept ++ second ∷ []) (set_last c command.moment one.lasts) (set_last c command.moment other.lasts) acted.rows;
      lots = acted.lots;
      kept = one_more_same (λ (row : Owned Kept). row.owner == b) one.kept other.kept first second (ap row text) mine.kept;
      lasts = last_same b c command.moment one.lasts other.lasts mine.lasts;
    }

-- and the rows of other branches stay
pub done_away : (rules : Rules) (b c : ℕ) (command : Command) (books : Books) → (c == b) ≡ false → HasSameRows b (book_done rules c command books) books
done_away rules b c command books differ =
    let acted = all_away b c (edits_of rules c command command.act books) books differ in
    let x = book_acted rules c command command.act books in
    let row : Owned Kept = record { owner = c; it = record { command = command; reply = reply_text rules command (shop_of c books) } } in
    record {
      rows =
          by_others b x books x.catalogue books.catalogue x.lots books.lots x.consignments books.consignments
          (books.kept ++ row ∷ []) books.kept (set_last c command.moment books.lasts) books.lasts acted.rows;
      lots = acted.lots;
      kept = one_more (λ (row : Owned Kept). row.owner == b) books.kept row ∙ rw differ refl;
      lasts =
          rw differ
          (filter_away (λ (row : Owned Moment). row.owner == b) (λ row. not (row.owner == c)) books.lasts (λ row is. rw (apart b c row.owner differ is) refl));
    }
