-- The rows of the books stay such as the program can hold.
use Rattle.shop_schema.proofs.Common.{◌≡◌, ◌≤◌, ◌<◌, ◌+◌, ◌^◌, ◌==◌, ℕ, suc, get_or, List, [], ◌∷◌, map, length, Bool, true, false, sym, ap, subst, ◌∙◌, arith}
use Rattle.shop_schema.proofs.Common.{inl, inr, append-nil, ◌-◌, length-append, ◌⊎◌, if◌then◌else◌, AllByRecursion, nat_tests, All-push, Row, Owned, at, of}
use Rattle.shop_schema.proofs.Common.{is_row, next, put_all, set_row, set_rows, Text, Film, Copy, Rental, Terms, Act, Rules, film_terms, terms_now, Shop}
use Rattle.shop_schema.proofs.Common.{Catalogue, IsGoodCatalogue, Books, Consignment, Customers, CopyRows, Rentals, TermRows, Payments, unmarked, RowOf}
use Rattle.shop_schema.proofs.Common.{rows_of, with_rows, Edit, Put, Set, PutLot, Append, edited, all_edited, shop_of, by_table, AskedOfEach, each_keeps}
use Rattle.shop_schema.proofs.Common.{IsSound, row_terms, migrated, without_terms, put_own, length_map, at_one, all-append, HasFewShared, IsHeld, IsConsignment}
use Rattle.shop_schema.proofs.Common.{IsKey, IsNumber, IsFilm, IsRow, IsRental, IsTerms, IsLot, AreBytes, AreValues, FilmsFit, FitsTables, AreRowValues}
use Rattle.shop_schema.proofs.Common.{IsRowOf, RowsOf}
use Rattle.std.specs.Prelude.{flat_map}
use Rattle.shop_model.specs.Rows.{put, update_where}
use Rattle.shop_model.specs.Values as model
use Rattle.shop_model.specs.Books.{Table, Update}

-- a good catalogue by a size of a million has few shared rows
few_by_good : (sizes : Rules) (catalogue : Catalogue) → sizes.commands ≡ 1_000_000 → IsGoodCatalogue sizes catalogue → HasFewShared catalogue
few_by_good sizes catalogue commands good =
    let keys = good.keys_fit in
    let few = good.sizes in
    record {
      countries = omega (arith, commands, keys, few.countries);
      cities = omega (arith, commands, keys, few.cities);
      languages = omega (arith, commands, keys, few.languages);
      categories = omega (arith, commands, keys, few.categories);
      actors = omega (arith, commands, keys, few.actors);
      films = omega (arith, commands, keys, few.films);
      branches = omega (arith, commands, keys, few.branches);
      staff = omega (arith, commands, keys, few.staff);
    }

-- by such sizes no branch has more rows of a kind
most : (sizes : Rules) (books : Books) → sizes.commands ≡ 1_000_000 → sizes.copies ≡ 1_000_000
    → IsSound sizes books → (t : Table) (b : ℕ) → length (of b (rows_of books t)) ≤ 1_000_000
most sizes books commands copies sound Customers b = let few = (sound.shops b).keys in let fit = (sound.shops b).customers_fit in omega arith
most sizes books commands copies sound CopyRows b = let few = (sound.shops b).copies in let same = length_map unmarked (of b books.copies) in omega arith
most sizes books commands copies sound Rentals b = let few = (sound.shops b).keys in let fit = (sound.shops b).rentals_fit in omega arith
most sizes books commands copies sound TermRows b =
    let few = (sound.shops b).keys in let fit = (sound.shops b).rentals_fit in let same = sound.terms b in omega arith
most sizes books commands copies sound Payments b = let few = (sound.shops b).keys in let fit = (sound.shops b).payments_fit in omega arith

-- sound books of such rows, by sizes of a million, are held
pub held_by_sound : (sizes : Rules) (books : Books) → sizes.commands ≡ 1_000_000
    → sizes.copies ≡ 1_000_000 → IsSound sizes books → AreValues books → IsHeld books
held_by_sound sizes books commands copies sound values = record {
  values = values;
  numbers = sound.numbers;
  keys = λ b. (sound.links b).keys;
  tokens = sound.catalogue.tokens;
  most_kept = λ b. let few = (sound.shops b).keys in omega arith;
  most_rows = most sizes books commands copies sound;
  termed = sound.terms;
  most_office_kept = let few = sound.catalogue.keys_fit in omega arith;
  out_once = λ b. (sound.held b).one;
  owners = sound.owners;
  office_keys = sound.catalogue.keys;
  single = sound.catalogue.single;
  names = sound.catalogue.names;
  few_shared = few_by_good sizes books.catalogue commands sound.catalogue;
  places = sound.places;
}

-- ---- numbers of new rows

pub number_fits : (n : ℕ) → 1 ≤ n → n < 2 ^ 32 → IsNumber n
number_fits n low high = grind (arith, nat_tests)

next_fits : {A : Type 0} (b : ℕ) (rows : List (Row A)) → length (of b rows) ≤ 1_001_000 → IsNumber (next b rows)
next_fits b rows few = number_fits (next b rows) (omega arith) (omega arith)

put_values : {A : Type 0} (P : A → Type 0) (b : ℕ) (make : ℕ → A) (rows : List (Row A)) → IsNumber b → length (of b rows) ≤ 1_001_000 → P (make (next b rows))
    → AllByRecursion (IsRow P) rows → AllByRecursion (IsRow P) (put b make rows)
put_values P b make rows branch few such all = All-push (IsRow P) rows _ all (branch, next_fits b rows few, such)

-- rows after some were set
set_values : {A : Type 0} (P : A → Type 0) (b n : ℕ) (f : A → A) (rows : List (Row A))
    → ((it : A) → P it → P (f it)) → AllByRecursion (IsRow P) rows → AllByRecursion (IsRow P) (set_row b n f rows)
set_values P b n f [] stays all = tt
set_values P b n f (row ∷ rows) stays all = go (is_row b n row) (set_values P b n f rows stays all.1)
  where
    go : (hit : Bool) → AllByRecursion (IsRow P) (set_row b n f rows)
        → AllByRecursion (IsRow P) ((if hit then record row { it = f row.it } else row) ∷ set_row b n f rows)
    go true rest = ((all.0.0, all.0.1, stays row.it all.0.2), rest)
    go false rest = (all.0, rest)

-- ---- terms

all_at : {A : Type 0} (P : A → Type 0) (n : ℕ) (xs : List A) → AllByRecursion P xs → AllByRecursion P (at n xs)
all_at P n [] all = tt
all_at P n (x ∷ xs) all = go (n == 1) (all_at P (n - 1) xs all.1)
  where
    go : (hit : Bool) → AllByRecursion P (at (n - 1) xs) → AllByRecursion P (if hit then x ∷ [] else at (n - 1) xs)
    go true rest = (all.0, tt)
    go false rest = rest

-- the films of some copies
all_found : (films : List Film) → AllByRecursion IsFilm films → (copies : List Copy)
    → AllByRecursion IsFilm (flat_map (λ (copy : Copy). at copy.film films) copies)
all_found films all [] = tt
all_found films all (copy ∷ copies) = all-append IsFilm (at copy.film films) _ (all_at IsFilm copy.film films all) (all_found films all copies)

film_terms_values : (films : List Film) → AllByRecursion IsFilm films → AllByRecursion IsTerms (map film_terms films)
film_terms_values [] all = tt
film_terms_values (film ∷ films) all = (record { rate = all.0.rate; period = all.0.period; replacement = all.0.replacement }, film_terms_values films all.1)

pub now_values : (catalogue : Catalogue) → AllByRecursion IsFilm catalogue.films → (shop : Shop) (x : ℕ) → AllByRecursion IsTerms (terms_now catalogue shop x)
now_values catalogue films shop x =
    film_terms_values (flat_map (λ (copy : Copy). at copy.film catalogue.films) (at x shop.copies)) (all_found catalogue.films films (at x shop.copies))

pub few_terms : (catalogue : Catalogue) (shop : Shop) (x : ℕ) → length (terms_now catalogue shop x) ≤ 1
few_terms catalogue shop x =
    subst (λ (n : ℕ). n ≤ 1) (sym (length_map film_terms (flat_map (λ (copy : Copy). at copy.film catalogue.films) (at x shop.copies))))
    (go (at x shop.copies) (at_one x shop.copies))
  where
    one : (n : ℕ) (films : List Film) → (at n films ≡ []) ⊎ ((film : Film) × (at n films ≡ film ∷ [])) → length (at n films) ≤ 1
    one n films (inl none) = subst (λ (l : List Film). length l ≤ 1) (sym none) (omega arith)
    one n films (inr found) = subst (λ (l : List Film). length l ≤ 1) (sym found.1) (omega arith)

    go : (copies : List Copy) → (copies ≡ []) ⊎ ((copy : Copy) × (copies ≡ copy ∷ []))
        → length (flat_map (λ (copy : Copy). at copy.film catalogue.films) copies) ≤ 1
    go copies (inl none) = subst (λ (l : List Copy). length (flat_map (λ (copy : Copy). at copy.film catalogue.films) l) ≤ 1) (sym none) (omega arith)
    go copies (inr found) =
        subst (λ (l : List Copy). length (flat_map (λ (copy : Copy). at copy.film catalogue.films) l) ≤ 1) (sym found.1)
        (subst (λ (l : List Film). length l ≤ 1) (sym (append-nil (at found.0.film catalogue.films)))
        (one found.0.film catalogue.films (at_one found.0.film catalogue.films)))

-- the program can also hold the terms that the books get in the migration to version 2
row_values : (b n : ℕ) (its : List Terms) → IsNumber b → IsNumber n → AllByRecursion IsTerms its
    → AllByRecursion (IsRow IsTerms) (map (λ (it : Terms). record { branch = b; number = n; it = it }) its)
row_values b n [] branch number all = tt
row_values b n (it ∷ its) branch number all = ((branch, number, all.0), row_values b n its branch number all.1)

all_migrated : (books : Books) → AllByRecursion IsFilm books.catalogue.films → (rows : List (Row Rental))
    → AllByRecursion (IsRow IsRental) rows → AllByRecursion (IsRow IsTerms) (flat_map (row_terms books) rows)
all_migrated books films [] all = tt
all_migrated books films (row ∷ rows) all =
    all-append (IsRow IsTerms) (row_terms books row) (flat_map (row_terms books) rows)
    (row_values row.branch row.number (terms_now books.catalogue (shop_of row.branch books) row.it.copy) all.0.0 all.0.1
    (now_values books.catalogue films (shop_of row.branch books) row.it.copy))
    (all_migrated books films rows all.1)

-- other terms
with_terms : (its : List (Row Terms)) (books : Books) → AllByRecursion (IsRow IsTerms) its → AreValues books → AreValues (record books { terms = its })
with_terms its books are v = record {
  catalogue = v.catalogue;
  rows = by_table AreRowValues TermRows its books are v.rows;
  lots = v.lots;
  consignments = v.consignments;
  kept = v.kept;
  lasts = v.lasts;
}

pub migrated_values : (books : Books) → AreValues books → AreValues (migrated books)
migrated_values books v = with_terms _ books (all_migrated books v.catalogue.films.1 books.rentals (v.rows Rentals)) v

pub values_without : (books : Books) → AreValues books → AreValues (without_terms books)
values_without books v = with_terms [] books tt v

-- ---- what a step is given

-- rules by which every stock file fits are rules by which every act does
pub acts_fit : (rules : Rules) → ((file : Text) → FilmsFit (rules.stock_of file)) → (act : Act) → FitsTables rules act
acts_fit rules files (model.Import lot file) = files file
acts_fit rules files act = tt

-- ---- edits

with_values : (t : Table) (new : RowsOf t) (books : Books) → AreRowValues t new → AreValues books → AreValues (with_rows t new books)
with_values t new books is v = record {
  catalogue = v.catalogue;
  rows = by_table AreRowValues t new books is v.rows;
  lots = v.lots;
  consignments = v.consignments;
  kept = v.kept;
  lasts = v.lasts;
}

with_others : (lots : List (Owned Text)) (cs : List Consignment) (books : Books) → AllByRecursion IsLot lots
    → AllByRecursion IsConsignment cs → AreValues books → AreValues (record books { lots = lots; consignments = cs })
with_others lots cs books lots_are cs_are v = record {
  catalogue = v.catalogue;
  rows = v.rows;
  lots = lots_are;
  consignments = cs_are;
  kept = v.kept;
  lasts = v.lasts;
}

-- what new rows are asked, whatever their numbers
abbrev pub AreNew : (t : Table) → List (ℕ → RowOf t) → Type 0
AreNew t makes = AllByRecursion (λ (make : ℕ → RowOf t). (n : ℕ) → IsNumber n → IsRowOf t (make n)) makes

puts_values : (t : Table) (b : ℕ) (makes : List (ℕ → RowOf t)) (its : List (Row (RowOf t))) → IsNumber b
    → length (of b its) + length makes ≤ 1_001_000 → AreNew t makes → AreRowValues t its → AreRowValues t (put_all b makes its)
puts_values t b [] its branch few new all = all
puts_values t b (make ∷ makes) its branch few new all =
    let own : length (of b (put b make its)) ≡ length (of b its) + 1 = ap length (put_own b make its) ∙ length-append (of b its) (make (next b its) ∷ []) in
    puts_values t b makes (put b make its) branch (omega arith) new.1
    (put_values (IsRowOf t) b make its branch (omega arith) (new.0 (next b its) (next_fits b its (omega arith))) all)

sets_values : (t : Table) (b : ℕ) (ns : List ℕ) (f : RowOf t → RowOf t) (its : List (Row (RowOf t)))
    → ((it : RowOf t) → IsRowOf t it → IsRowOf t (f it)) → AreRowValues t its → AreRowValues t (set_rows b ns f its)
sets_values t b [] f its stays all = all
sets_values t b (n ∷ ns) f its stays all = sets_values t b ns f (set_row b n f its) stays (set_values (IsRowOf t) b n f its stays all)

-- what an edit is asked
abbrev pub IsEditOfValues : ℕ → Books → Edit → Type 0
IsEditOfValues b books (Put t makes) = (length (of b (rows_of books t)) + length makes ≤ 1_001_000) × AreNew t makes
IsEditOfValues b books (Set t ns f) = (it : RowOf t) → IsRowOf t it → IsRowOf t (f it)
IsEditOfValues b books (PutLot lot) = IsKey lot
IsEditOfValues b books (Append it) = IsConsignment it
IsEditOfValues b books (Update test f) = AllByRecursion IsConsignment (update_where test f books.consignments)

values_edited : (b : ℕ) → IsNumber b → (books : Books) (edit : Edit) → IsEditOfValues b books edit → AreValues books → AreValues (edited b edit books)
values_edited b branch books (Put t makes) asked v = with_values t _ books (puts_values t b makes (rows_of books t) branch asked.0 asked.1 (v.rows t)) v
values_edited b branch books (Set t ns f) asked v = with_values t _ books (sets_values t b ns f (rows_of books t) asked (v.rows t)) v
values_edited b branch books (PutLot lot) asked v =
    with_others _ books.consignments books (All-push IsLot books.lots (record { owner = b; it = lot }) v.lots (branch, asked)) v.consignments v
values_edited b branch books (Append it) asked v = with_others books.lots _ books v.lots (All-push IsConsignment books.consignments it v.consignments asked) v
values_edited b branch books (Update test f) asked v = with_others books.lots _ books v.lots asked v

pub all_values : (b : ℕ) (edits : List Edit) (books : Books) → IsNumber b
    → AskedOfEach b (IsEditOfValues b) edits books → AreValues books → AreValues (all_edited b edits books)
all_values b edits books branch asked v = each_keeps AreValues (IsEditOfValues b) b (values_edited b branch) edits books asked v

-- ---- the bytes of a stock file

pub bytes_fit : (bytes : List ℕ) → ((k : ℕ) → get_or bytes k 0 < 256) → AreBytes bytes
bytes_fit [] low = tt
bytes_fit (b ∷ bytes) low = (low 0, bytes_fit bytes (λ k. low (suc k)))
