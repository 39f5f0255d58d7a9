-- What is said of a list of edits once, whatever act makes it.
use Rattle.shop_model.proofs.Common.{◌≡◌, map, inl, inr, ℕ, ◌+◌, ◌≤◌, List, [], ◌∷◌, length, filter, refl, sym, ap, ◌∙◌, ◌++◌, arith, append-nil, append_assoc}
use Rattle.shop_model.proofs.Common.{length-append, ⊤, ◌==◌, cases_Bool, Row, Owned, of, owned_by, is_of, is_row, next, put_all, set_row, set_rows, Text, Books}
use Rattle.shop_model.proofs.Common.{Consignment, Table, Customers, CopyRows, Rentals, TermRows, Payments, RowOf, RowsOf, rows_of, if_same, with_rows, Edit}
use Rattle.shop_model.proofs.Common.{Put, Set, PutLot, Append, Update, edited, all_edited, Catalogue, opening}
use Rattle.shop_model.specs.Rows.{put}
use Rattle.shop_model.proofs.RowLemmas.{same_test, more_yes, put_own, put_other, set_same, length_map}
use Rattle.shop_model.specs.Books.{shop_of, unmarked}

pub same_or : (F : Table → Type 0) (P : (t : Table) → F t → Type 0) (t u : Table) (x : F t) (y : F u) → P t x → P u y → P u (if_same F t u x y)
same_or F P Customers Customers x y first second = first
same_or F P CopyRows CopyRows x y first second = first
same_or F P Rentals Rentals x y first second = first
same_or F P TermRows TermRows x y first second = first
same_or F P Payments Payments x y first second = first
same_or F P t u x y first second = second

same_self : (F : Table → Type 0) (t : Table) (x y : F t) → if_same F t t x y ≡ x
same_self F Customers x y = refl
same_self F t x y = refl

-- The frame: what holds of each table's rows still holds after the rows of one table are replaced, if it holds of the new rows.
pub by_table : (P : (t : Table) → RowsOf t → Type 0) (t : Table) (new : RowsOf t) (books : Books) → P t new
    → ((u : Table) → P u (rows_of books u)) → (u : Table) → P u (rows_of (with_rows t new books) u)
by_table P t new books is old Customers = same_or RowsOf P t Customers new books.customers is (old Customers)
by_table P t new books is old u = same_or RowsOf P t u new (rows_of books u) is (old u)

-- what holds of no rows holds in books that have none
pub by_none : (P : (t : Table) → RowsOf t → Type 0) (catalogue : Catalogue) → ((t : Table) → P t []) → (t : Table) → P t (rows_of (opening catalogue) t)
by_none P catalogue is Customers = is Customers
by_none P catalogue is t = is t

-- other rows in one table leave a shop as it was, if the branch's own rows in it are the same
pub tables_stay : (b : ℕ) (t : Table) (new : List (Row (RowOf t))) (books : Books)
    → of b new ≡ of b (rows_of books t) → shop_of b (with_rows t new books) ≡ shop_of b books
tables_stay b t new books same =
    let all = by_table (λ u its. of b its ≡ of b (rows_of books u)) t new books same (λ u. refl) in
    λ i.
    record (shop_of b books) {
      customers = all Customers i;
      copies = map unmarked (all CopyRows i);
      rentals = all Rentals i;
      terms = all TermRows i;
      payments = all Payments i;
    }

-- ---- one edit after another

-- what each of some edits is asked, by the books at which it comes
abbrev pub AskedOfEach : ℕ → (Books → Edit → Type 0) → List Edit → Books → Type 0
AskedOfEach b Asked [] books = ⊤
AskedOfEach b Asked (edit ∷ edits) books = Asked books edit × AskedOfEach b Asked edits (edited b edit books)

-- what each edit keeps of the books, all of them keep
pub each_keeps : (P : Books → Type 0) (Asked : Books → Edit → Type 0) (b : ℕ)
    → ((books : Books) (edit : Edit) → Asked books edit → P books → P (edited b edit books))
    → (edits : List Edit) (books : Books) → AskedOfEach b Asked edits books → P books → P (all_edited b edits books)
each_keeps P Asked b keeps [] books asked h = h
each_keeps P Asked b keeps (edit ∷ edits) books asked h = each_keeps P Asked b keeps edits (edited b edit books) asked.1 (keeps books edit asked.0 h)

-- and where each is asked more
pub each_weaker : (Asked Less : Books → Edit → Type 0) (b : ℕ) → ((books : Books) (edit : Edit) → Asked books edit → Less books edit)
    → (edits : List Edit) (books : Books) → AskedOfEach b Asked edits books → AskedOfEach b Less edits books
each_weaker Asked Less b weaker [] books asked = tt
each_weaker Asked Less b weaker (edit ∷ edits) books asked = (weaker books edit asked.0, each_weaker Asked Less b weaker edits (edited b edit books) asked.1)

-- where edits of consignments alone are asked something: of one edit, and of some, in which each other one is passed over
abbrev pub AskedOfSend : (Books → Consignment → Type 0) → ((Consignment → Consignment) → Type 0) → Books → Edit → Type 0
AskedOfSend IsNew Keeps books (Append it) = IsNew books it
AskedOfSend IsNew Keeps books (Update test f) = Keeps f
AskedOfSend IsNew Keeps books edit = ⊤

abbrev pub AskedOfSends : ℕ → (Books → Consignment → Type 0) → ((Consignment → Consignment) → Type 0) → List Edit → Books → Type 0
AskedOfSends b IsNew Keeps [] books = ⊤
AskedOfSends b IsNew Keeps (Append it ∷ edits) books = IsNew books it × AskedOfSends b IsNew Keeps edits (edited b (Append it) books)
AskedOfSends b IsNew Keeps (Update test f ∷ edits) books = Keeps f × AskedOfSends b IsNew Keeps edits (edited b (Update test f) books)
AskedOfSends b IsNew Keeps (edit ∷ edits) books = AskedOfSends b IsNew Keeps edits (edited b edit books)

pub sends_keep : (P : Books → Type 0) (IsNew : Books → Consignment → Type 0) (Keeps : (Consignment → Consignment) → Type 0) (b : ℕ)
    → ((books : Books) (edit : Edit) → AskedOfSend IsNew Keeps books edit → P books → P (edited b edit books))
    → (edits : List Edit) (books : Books) → AskedOfSends b IsNew Keeps edits books → P books → P (all_edited b edits books)
sends_keep P IsNew Keeps b keeps [] books asked h = h
sends_keep P IsNew Keeps b keeps (Append it ∷ edits) books asked h =
    sends_keep P IsNew Keeps b keeps edits (edited b (Append it) books) asked.1 (keeps books (Append it) asked.0 h)
sends_keep P IsNew Keeps b keeps (Update test f ∷ edits) books asked h =
    sends_keep P IsNew Keeps b keeps edits (edited b (Update test f) books) asked.1 (keeps books (Update test f) asked.0 h)
sends_keep P IsNew Keeps b keeps (edit ∷ edits) books asked h = sends_keep P IsNew Keeps b keeps edits (edited b edit books) asked (keeps books edit tt h)

-- ---- what is put

-- what the new rows are, from that number on
abbrev pub new_its : {A : Type 0} → ℕ → List (ℕ → A) → List A
new_its n [] = []
new_its n (make ∷ makes) = make n ∷ new_its (n + 1) makes

pub put_all_its : {A : Type 0} (b : ℕ) (makes : List (ℕ → A)) (rows : List (Row A)) → of b (put_all b makes rows) ≡ of b rows ++ new_its (next b rows) makes
put_all_its b [] rows = sym (append-nil (of b rows))
put_all_its b (make ∷ makes) rows =
    let own = put_own b make rows in
    let one = length-append (of b rows) (make (next b rows) ∷ []) in
    let further : next b (put b make rows) ≡ next b rows + 1 = let l = ap length own in omega (arith, l, one) in
    put_all_its b makes (put b make rows) ∙ rw (further, own) (append_assoc (of b rows) (make (next b rows) ∷ []) (new_its (next b rows + 1) makes))

-- ---- sizes

-- how many rows the edits put into the table, how many lots, and how many consignments
abbrev pub grown : Table → List Edit → ℕ
grown u [] = 0
grown u (Put t makes ∷ edits) = if_same (λ _. ℕ) t u (length makes) 0 + grown u edits
grown u (edit ∷ edits) = grown u edits

abbrev pub new_lots : List Edit → ℕ
new_lots [] = 0
new_lots (PutLot lot ∷ edits) = 1 + new_lots edits
new_lots (edit ∷ edits) = new_lots edits

abbrev pub new_sends : List Edit → ℕ
new_sends [] = 0
new_sends (Append it ∷ edits) = 1 + new_sends edits
new_sends (edit ∷ edits) = new_sends edits

abbrev pub row_count : ℕ → Table → Books → ℕ
row_count b t books = length (of b (rows_of books t))

put_most : {A : Type 0} (a b : ℕ) (makes : List (ℕ → A)) (rows : List (Row A)) → length (of a (put_all b makes rows)) ≤ length (of a rows) + length makes
put_most a b [] rows = omega arith
put_most {A = A} a b (make ∷ makes) rows =
    let more = put_most a b makes (put b make rows) in
    elim (cases_Bool (b == a)) [
      | inl is ↦
          let own = ap length (more_yes (λ (row : Row A). row.it) (is_of a) rows (record { branch = b; number = next b rows; it = make (next b rows) }) is) in
          let one = length-append (of a rows) (make (next b rows) ∷ []) in
          omega (arith, own, one, more)
      | inr differ ↦ let other = ap length (put_other a b make rows differ) in omega (arith, other, more)
    ]

set_length : {A : Type 0} (a b : ℕ) (ns : List ℕ) (f : A → A) (rows : List (Row A)) → length (of a (set_rows b ns f rows)) ≡ length (of a rows)
set_length a b [] f rows = refl
set_length a b (n ∷ ns) f rows = set_length a b ns f (set_row b n f rows) ∙ one where
  one : length (of a (set_row b n f rows)) ≡ length (of a rows)
  one =
      let same = ap length (set_same (is_of a) (is_row b n) (λ (row : Row _). record row { it = f row.it }) (λ row. row.number) rows (λ x. refl) (λ x. refl)) in
      let new = length_map (λ (row : Row _). row.number) (filter (is_of a) (set_row b n f rows)) in
      let old = length_map (λ (row : Row _). row.number) (filter (is_of a) rows) in
      let its = length_map (λ (row : Row _). row.it) (filter (is_of a) (set_row b n f rows)) in
      let was = length_map (λ (row : Row _). row.it) (filter (is_of a) rows) in
      omega (arith, same, new, old, its, was)

rows_put : (a b : ℕ) (t : Table) (makes : List (ℕ → RowOf t)) (books : Books) (u : Table)
    → row_count a u (edited b (Put t makes) books) ≤ row_count a u books + if_same (λ _. ℕ) t u (length makes) 0
rows_put a b t makes books u =
    let own = put_most a b makes (rows_of books t) in
    let all =
    by_table (λ v new. length (of a new) ≤ row_count a v books + if_same (λ _. ℕ) t v (length makes) 0) t _ books
    (rw (same_self (λ _. ℕ) t (length makes) 0) own) (λ v. omega arith) in
    all u

-- no branch has more new rows in a table than the edits put there
pub rows_edited : (a b : ℕ) (edits : List Edit) (books : Books) (u : Table) → row_count a u (all_edited b edits books) ≤ row_count a u books + grown u edits
rows_edited a b [] books u = omega arith
rows_edited a b (Put t makes ∷ edits) books u =
    let one = rows_put a b t makes books u in let more = rows_edited a b edits (edited b (Put t makes) books) u in omega (arith, one, more)
rows_edited a b (Set t ns f ∷ edits) books u =
    let one = by_table (λ v new. length (of a new) ≡ row_count a v books) t _ books (set_length a b ns f (rows_of books t)) (λ v. refl) u in
    let more = rows_edited a b edits (edited b (Set t ns f) books) u in
    omega (arith, one, more)
rows_edited a b (edit ∷ edits) books u = rows_edited a b edits (edited b edit books) u

pub lots_edited : (b : ℕ) (edits : List Edit) (books : Books)
    → length (owned_by b (all_edited b edits books).lots) ≡ length (owned_by b books.lots) + new_lots edits
lots_edited b [] books = omega arith
lots_edited b (PutLot lot ∷ edits) books =
    let own = ap length (more_yes (λ (row : Owned Text). row.it) (λ row. row.owner == b) books.lots (record { owner = b; it = lot }) (same_test b)) in
    let one = length-append (owned_by b books.lots) (lot ∷ []) in
    let more = lots_edited b edits (edited b (PutLot lot) books) in
    omega (arith, own, one, more)
lots_edited b (Put t makes ∷ edits) books = lots_edited b edits (edited b (Put t makes) books)
lots_edited b (edit ∷ edits) books = lots_edited b edits (edited b edit books)
