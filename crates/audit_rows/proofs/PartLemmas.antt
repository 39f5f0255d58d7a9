-- One branch after another: each branch's part has exactly the branch's rows of the tables.
use Rattle.shop_types.proofs.Common.{◌≡◌, ◌&&◌, ◌+◌, ◌<◌, ◌≤◌, ◌==◌, ℕ, suc, List, [], ◌∷◌, map, filter, length, Bool, true, refl, sym, ap, subst, ◌∙◌, arith}
use Rattle.shop_types.proofs.Common.{get_or, drop, drop-cons, add-one, AllByRecursion, list_all, nat_tests, Table}
use Rattle.sqlite_trees.specs.Tree.{IsAscending}
use Rattle.audit_rows.specs.declared.books.OrderedBooks.{OrderedBooks}
use Rattle.audit_rows.specs.declared.branches.Rest.{Rest}
use Rattle.audit_rows.specs.declared.rows.CheckedBranch.{CheckedBranch}
use Rattle.audit_rows.specs.declared.rows.CheckedLot.{CheckedLot}
use Rattle.audit_rows.specs.declared.rows.CheckedKept.{CheckedKept}
use Rattle.audit_rows.specs.declared.rows.CheckedHeader.{CheckedHeader}
use Rattle.audit_rows.specs.Lists.{Key, is_below, climbs, front_of, back_of}
use Rattle.audit_rows.specs.Shops.{is_among}
use Rattle.audit_rows.specs.Tables.{CheckedOf, checked_key, checked_rows, lent_rows, OfEach, each}
use Rattle.audit_rows.specs.Parts.{PartRows, branch_rows, front_rows, AreBehind, is_good_part, are_good_from, is_owned, are_rows_owned, are_others_owned}
use Rattle.audit_rows.specs.Parts.{are_consignments_owned}
use Rattle.audit_rows.specs.Ordered.{AreOrdered}
use Rattle.audit_rows.proofs.Keys.{both}
use Rattle.audit_rows.proofs.Tests.{all_parts}
use Rattle.audit_rows.proofs.OrderedLemmas.{each_passes}
use Rattle.audit_rows.proofs.Canon.{ascending_from_climbs}
use Rattle.audit_rows.proofs.GroupLemmas.{IsRest, OwnersRise, FromOn, rest_begins, rest_own, rest_step}

pub record AreRests (books : OrderedBooks) (rest : Rest) (b : ℕ) : Type 0 where
  pub rows : (t : Table) → IsRest (λ (row : CheckedOf t). row.branch) (checked_rows books t) (lent_rows rest.rows t) b
  pub lots : IsRest (λ (row : CheckedLot). row.branch) books.lots.items rest.lots.now b
  pub kept : IsRest (λ (row : CheckedKept). row.branch) books.kept.items rest.kept.now b
  pub headers : IsRest (λ (row : CheckedHeader). row.source) books.headers.items rest.headers.now b

-- ---- in the order of the keys, branches rise

first_low : (a b : ℕ) (ks ls : Key) → is_below (a ∷ ks) (b ∷ ls) ≡ true → a ≤ b
first_low a b ks ls h = grind (arith, nat_tests)

module _ {X : Type 0} (key : X → Key) (owner : X → ℕ) (low : (x y : X) → is_below (key x) (key y) ≡ true → owner x ≤ owner y) where
  all_low : (x : X) (xs : List X) → AllByRecursion (λ y. is_below (key x) (key y) ≡ true) xs → AllByRecursion (λ y. owner x ≤ owner y) xs
  all_low x [] h = tt
  all_low x (y ∷ xs) h = (low x y h.0, all_low x xs h.1)

  owners_from : (xs : List X) → IsAscending (λ x y. is_below (key x) (key y) ≡ true) xs → OwnersRise owner xs
  owners_from [] up = tt
  owners_from (x ∷ xs) up = (all_low x xs up.0, owners_from xs up.1)

  from_one : (n : ℕ) (xs : List X) → list_all (λ x. is_among n (owner x)) xs ≡ true → FromOn owner 1 xs
  from_one n [] h = tt
  from_one n (x ∷ xs) h =
      let parts = both (is_among n (owner x)) (list_all (λ y. is_among n (owner y)) xs) h in
      (least (owner x) parts.0, from_one n xs parts.1)
    where
      least : (m : ℕ) → is_among n m ≡ true → 1 ≤ m
      least m e = grind (arith, nat_tests)

  pub whole_rest : (n : ℕ) (xs rest : List X) → climbs (map key xs) ≡ true → list_all (λ x. is_among n (owner x)) xs ≡ true → rest ≡ xs → IsRest owner xs rest 0
  whole_rest n xs rest up all e =
      subst (λ (ys : List X). IsRest owner xs ys 0) (sym e) (rest_begins owner xs (owners_from xs (ascending_from_climbs key xs up)) (from_one n xs all))

pub rests_begin : (books : OrderedBooks) (rest : Rest) → AreOrdered books → is_owned books ≡ true
    → OfEach (λ t. lent_rows rest.rows t ≡ checked_rows books t) → rest.lots.now ≡ books.lots.items
    → rest.kept.now ≡ books.kept.items → rest.headers.now ≡ books.headers.items → AreRests books rest 0
rests_begin books rest o owned a e f g =
    let n = length books.branches.items in
    let all = all_parts (are_rows_owned books) (are_others_owned books ∷ are_consignments_owned books ∷ []) owned in
    let others =
    both (list_all (λ (row : CheckedLot). is_among n row.branch) books.lots.items)
    (list_all (λ (row : CheckedKept). is_among n row.branch) books.kept.items) all.1.0 in
    let sent =
    both (list_all (λ (row : CheckedHeader). is_among n row.source) books.headers.items)
    (list_all (λ (row : CheckedHeader). is_among n row.addressee) books.headers.items) all.1.1.0 in
    record {
      rows = λ t.
          whole_rest checked_key (λ (row : CheckedOf t). row.branch)
          (λ x y h. first_low x.branch y.branch (x.number ∷ []) (y.number ∷ []) h) n (checked_rows books t) (lent_rows rest.rows t) (o.rows t)
          (each_passes (λ t. list_all (λ (row : CheckedOf t). is_among n row.branch) (checked_rows books t)) all.0 t)
          (each (λ t. lent_rows rest.rows t ≡ checked_rows books t) a t);
      lots =
          whole_rest (λ (row : CheckedLot). row.branch ∷ row.name) (λ row. row.branch)
          (λ x y h. first_low x.branch y.branch x.name y.name h) n books.lots.items rest.lots.now o.lots others.0 e;
      kept =
          whole_rest (λ (row : CheckedKept). row.branch ∷ row.key) (λ row. row.branch)
          (λ x y h. first_low x.branch y.branch x.key y.key h) n books.kept.items rest.kept.now o.kept others.1 f;
      headers =
          whole_rest (λ (row : CheckedHeader). row.source ∷ row.addressee ∷ row.number ∷ []) (λ row. row.source)
          (λ x y h. first_low x.source y.source (x.addressee ∷ x.number ∷ []) (y.addressee ∷ y.number ∷ []) h)
          n books.headers.items rest.headers.now o.headers sent.0 g;
    }

-- ---- the next branch

module _ {X : Type 0} (owner : X → ℕ) (all : List X) where
  next_own : (b branch : ℕ) (rest front : List X) → branch ≡ b + 1 → IsRest owner all rest b
      → front ≡ front_of (λ x. owner x == branch) rest → front ≡ filter (λ x. owner x == branch) all
  next_own b branch rest front is r e =
      subst (λ n. front ≡ filter (λ x. owner x == n) all) (sym is) (rest_own owner all b rest front r (e ∙ ap (λ n. front_of (λ x. owner x == n) rest) is))

  next_rest : (b branch : ℕ) (rest back : List X) → branch ≡ b + 1 → IsRest owner all rest b
      → back ≡ back_of (λ x. owner x == branch) rest → IsRest owner all back (b + 1)
  next_rest b branch rest back is r e = rest_step owner all b rest back r (e ∙ ap (λ n. back_of (λ x. owner x == n) rest) is)

module _ (books : OrderedBooks) (b branch : ℕ) (is : branch ≡ b + 1) (rest : Rest) (r : AreRests books rest b) where
  pub next_part : (part : PartRows) → part ≡ front_rows rest branch → part ≡ branch_rows books branch
  next_part part e = e ∙ (λ i. record {
    rows = λ t. next_own (λ (row : CheckedOf t). row.branch) (checked_rows books t) b branch (lent_rows rest.rows t) _ is (r.rows t) refl i;
    lots = length (next_own (λ (row : CheckedLot). row.branch) books.lots.items b branch rest.lots.now _ is r.lots refl i);
    kept = length (next_own (λ (row : CheckedKept). row.branch) books.kept.items b branch rest.kept.now _ is r.kept refl i);
    sent = length (next_own (λ (row : CheckedHeader). row.source) books.headers.items b branch rest.headers.now _ is r.headers refl i);
  })

  pub next_rests : (more : Rest) → AreBehind rest more branch → AreRests books more (b + 1)
  next_rests more h = record {
    rows = λ t.
        next_rest (λ (row : CheckedOf t). row.branch) (checked_rows books t) b branch (lent_rows rest.rows t) (lent_rows more.rows t) is (r.rows t) (h.rows t);
    lots = next_rest (λ (row : CheckedLot). row.branch) books.lots.items b branch rest.lots.now more.lots.now is r.lots h.lots;
    kept = next_rest (λ (row : CheckedKept). row.branch) books.kept.items b branch rest.kept.now more.kept.now is r.kept h.kept;
    headers = next_rest (λ (row : CheckedHeader). row.source) books.headers.items b branch rest.headers.now more.headers.now is r.headers h.headers;
  }

pub good_step : (books : OrderedBooks) (b i : ℕ) (rows : List CheckedBranch) (row : CheckedBranch) (part : PartRows) (t : Bool)
    → i < length rows → row ≡ get_or rows i row → part ≡ branch_rows books b
    → t ≡ is_good_part books b row.last part → are_good_from books b (drop i rows) ≡ (t && are_good_from books (b + 1) (drop (i + 1) rows))
good_step books b i rows row part t h e p q =
    let cut : drop i rows ≡ row ∷ drop (i + 1) rows = rw (add-one, drop-cons rows i row h) (λ j. sym e j ∷ drop (suc i) rows) in
    ap (are_good_from books b) cut ∙ (λ j. sym (q ∙ ap (is_good_part books b row.last) p) j && are_good_from books (b + 1) (drop (i + 1) rows))
