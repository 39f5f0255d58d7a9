-- How a change of the books changes their own counts. If only the rows of one kind of one branch grow, only that count grows.
use Rattle.shop_schema.proofs.Common.{◌≡◌, ◌+◌, ◌≤◌, ◌==◌, ◌&&◌, ℕ, suc, List, [], ◌∷◌, ◌++◌, map, filter, length, true, false, Bool, cond, not, Some, None}
use Rattle.shop_schema.proofs.Common.{refl, sym, ap, subst, ◌∙◌, arith, is_none, AllByRecursion, nat_tests, filter-append, map-flat_map, length_push, Moment}
use Rattle.shop_schema.proofs.Common.{Row, Owned, is_of, is_row, of, owned_by, numbered, set_row, Customer, Payment, Rental, Text, Kept, Books, BookCopy}
use Rattle.shop_schema.proofs.Common.{more_yes, more_no, same_if, length_map, is_count, count_in, count_of, branch_counts, office_count, counts_of, pairs_of}
use Rattle.shop_schema.proofs.Common.{Count, Out, raise, raised, is_open, out_of, is_out_by, put_out, drop_out}
use Rattle.std.specs.Prelude.{flat_map}
use Rattle.std.proofs.lemmas.List.{length-append}
use Rattle.shop_schema.proofs.Lasts.{turned}
use Rattle.shop_ledger.specs.declared.counts.CountKind.{CountKind}
use Rattle.shop_ledger.specs.declared.counts.CountKind.TheVariants as kind
use Rattle.shop_ledger.specs.Counted.{kind_number}
use Rattle.shop_ledger.proofs.CountsOf.{not_office}
use Rattle.shop_schema.specs.Counts.{copies_kind, customers_kind, kept_kind, payments_kind, rentals_kind}

-- the counts of books in which the branch has `m` more rows of the kind, and each other count is as it was
module _ (b k m : ℕ) (old new : Books) (outs : List Out) (low : 1 ≤ b)
    (branches : new.catalogue.branches ≡ old.catalogue.branches) (office : new.catalogue.kept ≡ old.catalogue.kept)
    (out : map out_of (filter is_open new.rentals) ≡ outs) (pairs : pairs_of new.consignments ≡ pairs_of old.consignments)
    (its : (a : ℕ) → count_in k a new ≡ cond (a == b && true) (count_in k a old + m) (count_in k a old))
    (others : (kind : CountKind) (a : ℕ) → (kind_number kind == k) ≡ false → count_in (kind_number kind) a new ≡ count_in (kind_number kind) a old) where
  abbrev more : Count → Count
  more c = cond (is_count b k c) (raised m c) c

  grown : (a : ℕ) (kind : CountKind) → count_of new a (kind_number kind) ≡ more (count_of old a (kind_number kind))
  grown a kind = ap (λ l. record { caller = a; kind = kind_number kind; last = l }) (go (kind_number kind == k) refl) ∙ told (a == b && kind_number kind == k)
    where
      n : ℕ
      n = count_in (kind_number kind) a old

      none : (t : Bool) → n ≡ cond (t && false) (n + m) n
      none true = refl
      none false = refl

      go : (t : Bool) → (kind_number kind == k) ≡ t → count_in (kind_number kind) a new ≡ cond (a == b && t) (n + m) n
      go true is =
          subst (λ j. count_in j a new ≡ cond (a == b && true) (count_in j a old + m) (count_in j a old)) (sym (same_if (kind_number kind) k is)) (its a)
      go false isnt = others kind a isnt ∙ none (a == b)

      told : (t : Bool)
          → record { caller = a; kind = kind_number kind; last = cond t (n + m) n }
          ≡ cond t (raised m (count_of old a (kind_number kind))) (count_of old a (kind_number kind))
      told true = refl
      told false = refl

  office_row : office_count new ≡ more (office_count old)
  office_row =
      ap (λ kept. record { caller = 0; kind = 4; last = length kept }) office
      ∙ ap (λ t. cond (t && 4 == k) (raised m (office_count old)) (office_count old)) (sym (not_office b low))

  all_grown : flat_map (branch_counts new) (numbered new.catalogue.branches) ≡ map more (flat_map (branch_counts old) (numbered old.catalogue.branches))
  all_grown =
      (λ i.
      flat_map
      (λ it. grown it.0 kind.Customers i ∷ grown it.0 kind.Copies i ∷ grown it.0 kind.Rentals i ∷ grown it.0 kind.Payments i ∷ grown it.0 kind.Kept i ∷ [])
      (numbered (branches i)))
      ∙ sym (map-flat_map more (branch_counts old) (numbered old.catalogue.branches))

  pub counts_grown : counts_of new ≡ record (raise b k m (counts_of old)) { outs = outs }
  counts_grown = λ i. record { counters = office_row i ∷ all_grown i; outs = out i; pairs = pairs i }

-- the same if each count is as it was
module _ (old new : Books) (outs : List Out) (branches : new.catalogue.branches ≡ old.catalogue.branches) (office : new.catalogue.kept ≡ old.catalogue.kept)
    (out : map out_of (filter is_open new.rentals) ≡ outs) (pairs : pairs_of new.consignments ≡ pairs_of old.consignments)
    (same : (n a : ℕ) → count_in n a new ≡ count_in n a old) where
  still : (a n : ℕ) → count_of new a n ≡ count_of old a n
  still a n = ap (λ l. record { caller = a; kind = n; last = l }) (same n a)

  pub counts_still : counts_of new ≡ record (counts_of old) { outs = outs }
  counts_still = λ i. record {
    counters =
        record { caller = 0; kind = 4; last = length (office i) }
        ∷ flat_map (λ it. still it.0 0 i ∷ still it.0 1 i ∷ still it.0 2 i ∷ still it.0 3 i ∷ still it.0 4 i ∷ []) (numbered (branches i));
    outs = out i;
    pairs = pairs i;
  }

-- ---- rows put last

one_kept : (b : ℕ) (x : Kept) (rows : List (Owned Kept)) (a : ℕ)
    → length (owned_by a (rows ++ record { owner = b; it = x } ∷ [])) ≡ cond (a == b && true) (length (owned_by a rows) + 1) (length (owned_by a rows))
one_kept b x rows a = go (a == b) refl
  where
    go : (t : Bool) → (a == b) ≡ t
        → length (owned_by a (rows ++ record { owner = b; it = x } ∷ [])) ≡ cond (t && true) (length (owned_by a rows) + 1) (length (owned_by a rows))
    go true e =
        ap length (more_yes (λ (row : Owned Kept). row.it) (λ row. row.owner == a) rows (record { owner = b; it = x }) (turned a b true e))
        ∙ length_push (owned_by a rows) x
    go false e = ap length (more_no (λ (row : Owned Kept). row.it) (λ row. row.owner == a) rows (record { owner = b; it = x }) (turned a b false e))

-- a kept command
pub kept_counted : (b : ℕ) (x : Kept) (books : Books) → 1 ≤ b
    → counts_of (record books { kept = books.kept ++ record { owner = b; it = x } ∷ [] }) ≡ raise b kept_kind 1 (counts_of books)
kept_counted b x books low = counts_grown b 4 1 books with_row (counts_of books).outs low refl refl refl refl (one_kept b x books.kept) others
  where
    with_row : Books
    with_row = record books { kept = books.kept ++ record { owner = b; it = x } ∷ [] }

    others : (kind : CountKind) (a : ℕ) → (kind_number kind == 4) ≡ false → count_in (kind_number kind) a with_row ≡ count_in (kind_number kind) a books
    others kind.Customers a e = refl
    others kind.Copies a e = refl
    others kind.Rentals a e = refl
    others kind.Payments a e = refl
    others kind.Kept a e = cc

-- ---- many rows put last

of_all : {A : Type 0} (b : ℕ) (more : List (Row A)) (a : ℕ) → AllByRecursion (λ (row : Row A). row.branch ≡ b) more
    → (t : Bool) → (a == b) ≡ t → length (filter (is_of a) more) ≡ cond (t && true) (length more) 0
of_all b [] a all true e = refl
of_all b [] a all false e = refl
of_all b (row ∷ more) a all true e =
    let yes : (row.branch == a) ≡ true = subst (λ n. (n == a) ≡ true) (sym all.0) (turned a b true e) in
    ap (λ u. length (cond u (row ∷ filter (is_of a) more) (filter (is_of a) more))) yes ∙ ap suc (of_all b more a all.1 true e)
of_all b (row ∷ more) a all false e =
    let no : (row.branch == a) ≡ false = subst (λ n. (n == a) ≡ false) (sym all.0) (turned a b false e) in
    ap (λ u. length (cond u (row ∷ filter (is_of a) more) (filter (is_of a) more))) no ∙ of_all b more a all.1 false e

many_put : {A : Type 0} (b : ℕ) (rows more : List (Row A)) (a : ℕ) → AllByRecursion (λ (row : Row A). row.branch ≡ b) more
    → length (of a (rows ++ more)) ≡ cond (a == b && true) (length (of a rows) + length more) (length (of a rows))
many_put {A} b rows more a all = go (a == b) (of_all b more a all (a == b) refl)
  where
    split : length (of a (rows ++ more)) ≡ length (of a rows) + length (filter (is_of a) more)
    split =
        let whole = length_map (λ (row : Row A). row.it) (filter (is_of a) (rows ++ more)) in
        let first = length_map (λ (row : Row A). row.it) (filter (is_of a) rows) in
        let both = ap length (filter-append (is_of a) rows more) ∙ length-append (filter (is_of a) rows) (filter (is_of a) more) in
        omega (arith, whole, first, both)

    go : (t : Bool) → length (filter (is_of a) more) ≡ cond (t && true) (length more) 0
        → length (of a (rows ++ more)) ≡ cond (t && true) (length (of a rows) + length more) (length (of a rows))
    go true e = omega (arith, split, e)
    go false e = omega (arith, split, e)

-- copies that are imported
pub copies_counted : (b : ℕ) (more : List (Row BookCopy)) (lots : List (Owned Text)) (books : Books)
    → 1 ≤ b → AllByRecursion (λ (row : Row BookCopy). row.branch ≡ b) more
    → counts_of (record books { copies = books.copies ++ more; lots = lots }) ≡ raise b copies_kind (length more) (counts_of books)
copies_counted b more lots books low all =
    counts_grown b 1 (length more) books (record books { copies = books.copies ++ more; lots = lots }) _ low refl refl refl refl
    (λ a. many_put b books.copies more a all) (λ kind a isnt. rw isnt)

-- one row, whatever its number is
pub customer_row_counted : (b : ℕ) (row : Row Customer) (books : Books) → 1 ≤ b → row.branch ≡ b
    → counts_of (record books { customers = books.customers ++ row ∷ [] }) ≡ raise b customers_kind 1 (counts_of books)
customer_row_counted b row books low own =
    counts_grown b 0 1 books (record books { customers = books.customers ++ row ∷ [] }) _ low refl refl refl refl
    (λ a. many_put b books.customers (row ∷ []) a (own, tt)) (λ kind a isnt. rw isnt)

pub payment_row_counted : (b : ℕ) (row : Row Payment) (books : Books) → 1 ≤ b → row.branch ≡ b
    → counts_of (record books { payments = books.payments ++ row ∷ [] }) ≡ raise b payments_kind 1 (counts_of books)
payment_row_counted b row books low own =
    counts_grown b 3 1 books (record books { payments = books.payments ++ row ∷ [] }) _ low refl refl refl refl
    (λ a. many_put b books.payments (row ∷ []) a (own, tt)) (λ kind a isnt. rw isnt)

pub rental_row_counted : (b : ℕ) (row : Row Rental) (books : Books) → 1 ≤ b → row.branch ≡ b → row.it.returned ≡ None
    → counts_of (record books { rentals = books.rentals ++ row ∷ [] })
    ≡ put_out (record { branch = b; copy = row.it.copy; rental = row.number }) (raise b rentals_kind 1 (counts_of books))
rental_row_counted b row books low own not_back =
    counts_grown b 2 1 books (record books { rentals = books.rentals ++ row ∷ [] }) _ low refl refl outs_more refl
    (λ a. many_put b books.rentals (row ∷ []) a (own, tt)) (λ kind a isnt. rw isnt)
  where
    outs_more : map out_of (filter is_open (books.rentals ++ row ∷ []))
        ≡ map out_of (filter is_open books.rentals) ++ record { branch = b; copy = row.it.copy; rental = row.number } ∷ []
    outs_more =
        more_yes out_of is_open books.rentals row (ap is_none not_back)
        ∙ ap (λ (n : ℕ). map out_of (filter is_open books.rentals) ++ record { branch = n; copy = row.it.copy; rental = row.number } ∷ []) own

-- ---- rows that are set

set_keeps : {A : Type 0} (b n : ℕ) (f : A → A) (rows : List (Row A)) (a : ℕ) → length (of a (set_row b n f rows)) ≡ length (of a rows)
set_keeps {A} b n f [] a = refl
set_keeps {A} b n f (row ∷ rows) a = go (is_row b n row) (set_keeps b n f rows a)
  where
    step : (u : Bool) (x y : A) → length (of a (set_row b n f rows)) ≡ length (of a rows)
        → length (map (λ (r : Row A). r.it) (cond u (record row { it = x } ∷ filter (is_of a) (set_row b n f rows)) (filter (is_of a) (set_row b n f rows))))
        ≡ length (map (λ (r : Row A). r.it) (cond u (record row { it = y } ∷ filter (is_of a) rows) (filter (is_of a) rows)))
    step true x y more = ap suc more
    step false x y more = more

    go : (t : Bool) → length (of a (set_row b n f rows)) ≡ length (of a rows)
        → length (of a (cond t (record row { it = f row.it }) row ∷ set_row b n f rows)) ≡ length (of a (row ∷ rows))
    go true more = step (row.branch == a) (f row.it) row.it more
    go false more = step (row.branch == a) row.it row.it more

-- a customer who is set
pub active_counted : (b n : ℕ) (f : Customer → Customer) (books : Books)
    → counts_of (record books { customers = set_row b n f books.customers }) ≡ counts_of books
active_counted b n f books =
    counts_still books (record books { customers = set_row b n f books.customers }) _ refl refl refl refl (λ k a. rw (set_keeps b n f books.customers a))

-- a copy that is set
pub state_counted : (b n : ℕ) (f : BookCopy → BookCopy) (books : Books) → counts_of (record books { copies = set_row b n f books.copies }) ≡ counts_of books
state_counted b n f books =
    counts_still books (record books { copies = set_row b n f books.copies }) _ refl refl refl refl (λ k a. rw (set_keeps b n f books.copies a))

-- ---- a copy that comes back

-- an open rental has the branch, the copy and the number exactly if it has the branch and the number; so it is if a number occurs once
abbrev pub IsItsRental : ℕ → ℕ → ℕ → Row Rental → Type 0
IsItsRental b n x row = is_open row ≡ true → is_out_by b x n (out_of row) ≡ is_row b n row

abbrev back : Moment → Rental → Rental
back m it = record it { returned = Some m }

outs_left : (b n x : ℕ) (m : Moment) (rows : List (Row Rental)) → AllByRecursion (IsItsRental b n x) rows
    → map out_of (filter is_open (set_row b n (back m) rows)) ≡ filter (λ o. not (is_out_by b x n o)) (map out_of (filter is_open rows))
outs_left b n x m [] all = refl
outs_left b n x m (row ∷ rows) all = go (is_row b n row) refl (is_open row) refl (outs_left b n x m rows all.1)
  where
    go : (t : Bool) → is_row b n row ≡ t → (u : Bool) → is_open row ≡ u
        → map out_of (filter is_open (set_row b n (back m) rows)) ≡ filter (λ o. not (is_out_by b x n o)) (map out_of (filter is_open rows))
        → map out_of (filter is_open (cond t (record row { it = back m row.it }) row ∷ set_row b n (back m) rows))
        ≡ filter (λ o. not (is_out_by b x n o)) (map out_of (cond u (row ∷ filter is_open rows) (filter is_open rows)))
    go true p true q more =
        more
        ∙ ap (λ v.
        cond (not v) (out_of row ∷ filter (λ o. not (is_out_by b x n o)) (map out_of (filter is_open rows)))
        (filter (λ o. not (is_out_by b x n o)) (map out_of (filter is_open rows))))
        (sym (all.0 q ∙ p))
    go true p false q more = more
    go false p true q more =
        ap (λ v. map out_of (cond v (row ∷ filter is_open (set_row b n (back m) rows)) (filter is_open (set_row b n (back m) rows)))) q
        ∙ ap (λ l. out_of row ∷ l) more
        ∙ ap (λ v.
        cond (not v) (out_of row ∷ filter (λ o. not (is_out_by b x n o)) (map out_of (filter is_open rows)))
        (filter (λ o. not (is_out_by b x n o)) (map out_of (filter is_open rows))))
        (sym (all.0 q ∙ p))
    go false p false q more =
        ap (λ v. map out_of (cond v (row ∷ filter is_open (set_row b n (back m) rows)) (filter is_open (set_row b n (back m) rows)))) q ∙ more

pub returned_counted : (b n x : ℕ) (m : Moment) (books : Books) → AllByRecursion (IsItsRental b n x) books.rentals
    → counts_of (record books { rentals = set_row b n (back m) books.rentals }) ≡ drop_out b x n (counts_of books)
returned_counted b n x m books all =
    counts_still books (record books { rentals = set_row b n (back m) books.rentals }) _ refl refl
    (outs_left b n x m books.rentals all) refl (λ k a. rw (set_keeps b n (back m) books.rentals a))

-- if the rental of the number has the copy, it is the copy's rental
abbrev HasCopy : ℕ → ℕ → ℕ → Row Rental → Type 0
HasCopy b n x row = is_row b n row ≡ true → row.it.copy ≡ x

have_copy : (b n x : ℕ) (rows : List (Row Rental))
    → AllByRecursion (λ (m : ℕ). m ≡ x) (map (λ (row : Row Rental). row.it.copy) (filter (is_row b n) rows)) → AllByRecursion (HasCopy b n x) rows
have_copy b n x [] all = tt
have_copy b n x (row ∷ rows) all = go (is_row b n row) refl (λ more. have_copy b n x rows more) all
  where
    apart : false ≡ true → ⊥
    apart e = cc

    go : (t : Bool) → is_row b n row ≡ t
        → (AllByRecursion (λ (m : ℕ). m ≡ x) (map (λ (it : Row Rental). it.it.copy) (filter (is_row b n) rows)) → AllByRecursion (HasCopy b n x) rows)
        → AllByRecursion (λ (m : ℕ). m ≡ x) (map (λ (it : Row Rental). it.it.copy) (cond t (row ∷ filter (is_row b n) rows) (filter (is_row b n) rows)))
        → AllByRecursion (HasCopy b n x) (row ∷ rows)
    go true p more all = ((λ h. all.0), more all.1)
    go false p more all = ((λ h. absurd (apart (sym p ∙ h))), more all)

pub same_rental : (b n x : ℕ) (row : Row Rental) → HasCopy b n x row → is_out_by b x n (out_of row) ≡ is_row b n row
same_rental b n x row has = go (row.branch == b) refl (row.number == n) refl
  where
    go : (s : Bool) → (row.branch == b) ≡ s → (t : Bool) → (row.number == n) ≡ t → (s && row.it.copy == x && t) ≡ (s && t)
    go false p t q = refl
    go true p false q = none (row.it.copy == x)
      where
        none : (u : Bool) → (true && u && false) ≡ false
        none true = refl
        none false = refl
    go true p true q =
        let both : is_row b n row ≡ true = λ i. p i && q i in
        let its : row.it.copy ≡ x = has both in
        let yes : (row.it.copy == x) ≡ true = grind (arith, its, nat_tests) in
        ap (λ u. true && u && true) yes

pub its_rentals : (b n x : ℕ) (rows : List (Row Rental))
    → map (λ (row : Row Rental). row.it.copy) (filter (is_row b n) rows) ≡ x ∷ [] → AllByRecursion (IsItsRental b n x) rows
its_rentals b n x rows is = all rows (have_copy b n x rows (subst (AllByRecursion (λ (m : ℕ). m ≡ x)) (sym is) (refl, tt)))
  where
    all : (rows : List (Row Rental)) → AllByRecursion (HasCopy b n x) rows → AllByRecursion (IsItsRental b n x) rows
    all [] h = tt
    all (row ∷ rows) h = ((λ is_out. same_rental b n x row h.0), all rows h.1)

-- and it is out at most once
fewer : (b n x : ℕ) (rows : List (Row Rental)) → AllByRecursion (HasCopy b n x) rows
    → length (filter (is_out_by b x n) (map out_of (filter is_open rows))) ≤ length (filter (is_row b n) rows)
fewer b n x [] all = omega arith
fewer b n x (row ∷ rows) all = go (is_open row) (is_row b n row) (same_rental b n x row all.0) (fewer b n x rows all.1)
  where
    go : (u t : Bool) → is_out_by b x n (out_of row) ≡ t
        → length (filter (is_out_by b x n) (map out_of (filter is_open rows))) ≤ length (filter (is_row b n) rows)
        → length (filter (is_out_by b x n) (map out_of (cond u (row ∷ filter is_open rows) (filter is_open rows))))
        ≤ length (cond t (row ∷ filter (is_row b n) rows) (filter (is_row b n) rows))
    go true true e more = rw e (omega (arith, more))
    go true false e more = rw e more
    go false true e more = omega (arith, more)
    go false false e more = more

pub out_once : (b n x : ℕ) (books : Books) → map (λ (row : Row Rental). row.it.copy) (filter (is_row b n) books.rentals) ≡ x ∷ []
    → length (filter (is_out_by b x n) (counts_of books).outs) ≤ 1
out_once b n x books is =
    let all = have_copy b n x books.rentals (subst (AllByRecursion (λ (m : ℕ). m ≡ x)) (sym is) (refl, tt)) in
    let few = fewer b n x books.rentals all in
    let one : length (filter (is_row b n) books.rentals) ≡ 1 =
    sym (length_map (λ (row : Row Rental). row.it.copy) (filter (is_row b n) books.rentals)) ∙ ap length is in
    omega (arith, few, one)
