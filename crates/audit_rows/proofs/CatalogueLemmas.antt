-- The checks of shared rows mean what the definitions say of the catalogues that have the rows.
use Rattle.shop_types.proofs.Common.{◌≡◌, ◌&&◌, ◌+◌, ◌==◌, ℕ, zero, suc, List, [], ◌∷◌, map, length, not, Bool, true, false, refl, sym, ap, subst, ◌∙◌, arith}
use Rattle.shop_types.proofs.Common.{nat_le, None, option_to_list, list_any, list_all, bytes_eq, at, Text, City, Film, Cast, Branch, Staff, Rules, OfficeKept}
use Rattle.shop_types.proofs.Common.{Catalogue, Books, has_row, are_different, is_staff_of, IsGoodCatalogue, widest, at_zero}
use Rattle.audit_rows.specs.declared.books.OrderedBooks.{OrderedBooks}
use Rattle.audit_rows.specs.declared.rows.CheckedCity.{CheckedCity}
use Rattle.audit_rows.specs.declared.rows.CheckedFilm.{CheckedFilm}
use Rattle.audit_rows.specs.declared.rows.CheckedCast.{CheckedCast}
use Rattle.audit_rows.specs.declared.rows.CheckedBranch.{CheckedBranch}
use Rattle.audit_rows.specs.declared.rows.CheckedStaff.{CheckedStaff}
use Rattle.audit_rows.specs.Shops.{is_among}
use Rattle.audit_rows.specs.Parts.{is_staff_row}
use Rattle.audit_rows.specs.Catalogues.{managers_from, is_named, is_shared_sized, is_single, is_good_catalogue}
use Rattle.audit_rows.specs.Ordered.{AreOrdered, HaveSharedRows, city_row, film_row, cast_row, branch_row, without_last, staff_row}
use Rattle.audit_rows.proofs.Keys.{both, bytes_eq_symm, any-map, different-map, different_from_climbs}
use Rattle.audit_rows.proofs.Maps.{all-map, length-map}
use Rattle.audit_rows.proofs.Tests.{all_congr, all_and, moved, different_congr, le_from, le_to, all_from, all_from_at, at_all_from}
use Rattle.audit_rows.proofs.ShopLemmas.{has_row_is, at-map}

module _ (rows : OrderedBooks) (books : Books) (o : AreOrdered rows) (s : HaveSharedRows rows books) where
  abbrev cat : Catalogue
  cat = books.catalogue

  -- ---- lengths

  cities_length : length rows.cities.items ≡ length cat.cities
  cities_length = sym (ap length s.cities) ∙ length-map city_row cat.cities

  films_length : length rows.films.items ≡ length cat.films
  films_length = sym (ap length s.films) ∙ length-map film_row cat.films

  casts_length : length rows.casts.items ≡ length cat.casts
  casts_length = sym (ap length s.casts) ∙ length-map cast_row cat.casts

  staff_length : length rows.staff.items ≡ length cat.staff
  staff_length = sym (ap length s.staff) ∙ length-map staff_row cat.staff

  pub branches_length : length rows.branches.items ≡ length cat.branches
  branches_length = sym (length-map without_last rows.branches.items) ∙ sym (ap length s.branches) ∙ length-map (branch_row None) cat.branches

  keys_length : length rows.office_keys.items ≡ length cat.kept
  keys_length = sym (ap length s.office_keys) ∙ length-map (λ (it : OfficeKept). it.command.key) cat.kept

  -- ---- a row that is named is there

  named : {A : Type 0} (xs : List A) (k n : ℕ) → k ≡ length xs → has_row xs n ≡ is_among k n
  named xs k n e = has_row_is xs n ∙ ap (λ m. is_among m n) (sym e)

  pub city_named : (n : ℕ) → has_row cat.cities n ≡ is_among (length rows.cities.items) n
  city_named n = named cat.cities (length rows.cities.items) n cities_length

  pub film_named : (n : ℕ) → has_row cat.films n ≡ is_among (length rows.films.items) n
  film_named n = named cat.films (length rows.films.items) n films_length

  pub branch_named : (n : ℕ) → has_row cat.branches n ≡ is_among (length rows.branches.items) n
  branch_named n = named cat.branches (length rows.branches.items) n branches_length

  -- a test of branches that doesn't see their last moments
  of_branches : (p : Branch → Bool) (q : CheckedBranch → Bool) → ((it : Branch) → p it ≡ q (branch_row None it))
      → ((row : CheckedBranch) → q (without_last row) ≡ q row) → list_all p cat.branches ≡ list_all q rows.branches.items
  of_branches p q h k =
      all_congr p (λ it. q (branch_row None it)) h cat.branches ∙ sym (all-map q (branch_row None) cat.branches) ∙ ap (list_all q) s.branches
      ∙ all-map q without_last rows.branches.items ∙ all_congr (λ row. q (without_last row)) q k rows.branches.items

  city_countries : list_all (λ (it : City). has_row cat.countries it.country) cat.cities
      ≡ list_all (λ (row : CheckedCity). is_among (length rows.countries.items) row.country) rows.cities.items
  city_countries =
      moved city_row cat.cities rows.cities.items s.cities _ _
      (λ it. named cat.countries (length rows.countries.items) it.country (sym (ap length s.countries)))

  films : (list_all (λ (it : Film). has_row cat.languages it.language) cat.films && list_all (λ (it : Film). has_row cat.categories it.category) cat.films)
      ≡ list_all
      (λ (row : CheckedFilm). is_among (length rows.languages.items) row.language && is_among (length rows.categories.items) row.category) rows.films.items
  films =
      sym (all_and (λ (it : Film). has_row cat.languages it.language) (λ (it : Film). has_row cat.categories it.category) cat.films)
      ∙ moved film_row cat.films rows.films.items s.films _ _
      (λ it i.
      named cat.languages (length rows.languages.items) it.language (sym (ap length s.languages)) i
      && named cat.categories (length rows.categories.items) it.category (sym (ap length s.categories)) i)

  casts : (list_all (λ (it : Cast). has_row cat.films it.film) cat.casts && list_all (λ (it : Cast). has_row cat.actors it.actor) cat.casts)
      ≡ list_all (λ (row : CheckedCast). is_among (length rows.films.items) row.film && is_among rows.actors row.actor) rows.casts.items
  casts =
      sym (all_and (λ (it : Cast). has_row cat.films it.film) (λ (it : Cast). has_row cat.actors it.actor) cat.casts)
      ∙ moved cast_row cat.casts rows.casts.items s.casts _ _ (λ it i. film_named it.film i && named cat.actors rows.actors it.actor (sym s.actors) i)

  branch_cities : list_all (λ (it : Branch). has_row cat.cities it.city) cat.branches
      ≡ list_all (λ (row : CheckedBranch). is_among (length rows.cities.items) row.city) rows.branches.items
  branch_cities = of_branches _ (λ (row : CheckedBranch). is_among (length rows.cities.items) row.city) (λ it. city_named it.city) (λ row. refl)

  staff : (list_all (λ (it : Staff). has_row cat.branches it.branch) cat.staff && list_all (λ (it : Staff). has_row cat.cities it.person.city) cat.staff)
      ≡ list_all (λ (row : CheckedStaff). is_among (length rows.branches.items) row.branch && is_among (length rows.cities.items) row.city) rows.staff.items
  staff =
      sym (all_and (λ (it : Staff). has_row cat.branches it.branch) (λ (it : Staff). has_row cat.cities it.person.city) cat.staff)
      ∙ moved staff_row cat.staff rows.staff.items s.staff _ _ (λ it i. branch_named it.branch i && city_named it.person.city i)

  -- ---- managers

  pub staff_is : (b n : ℕ) → is_staff_of b cat.staff n ≡ is_staff_row b rows.staff.items n
  staff_is b n =
      sym (any-map (λ (row : CheckedStaff). row.branch == b) staff_row (at n cat.staff))
      ∙ ap (list_any (λ (row : CheckedStaff). row.branch == b)) (sym (at-map staff_row n cat.staff))
      ∙ ap (λ (xs : List CheckedStaff). list_any (λ (row : CheckedStaff). row.branch == b) (at n xs)) s.staff

  abbrev is_managed : ℕ → CheckedBranch → Bool
  is_managed b row = list_all (is_staff_row b rows.staff.items) (option_to_list row.manager)

  managed_at : (b : ℕ)
      → list_all (λ (it : Branch). list_all (is_staff_of b cat.staff) (option_to_list it.manager)) (at b cat.branches)
      ≡ list_all (is_managed b) (at b rows.branches.items)
  managed_at b =
      all_congr _ (λ (it : Branch). is_managed b (branch_row None it)) (λ it. all_congr _ _ (staff_is b) (option_to_list it.manager)) (at b cat.branches)
      ∙ sym (all-map (is_managed b) (branch_row None) (at b cat.branches)) ∙ ap (list_all (is_managed b)) (sym (at-map (branch_row None) b cat.branches))
      ∙ ap (λ (xs : List CheckedBranch). list_all (is_managed b) (at b xs)) s.branches
      ∙ ap (list_all (is_managed b)) (at-map without_last b rows.branches.items)
      ∙ all-map (is_managed b) without_last (at b rows.branches.items)

  managers_are : (k : ℕ) (xs : List CheckedBranch) → managers_from k rows.staff.items xs ≡ all_from is_managed k xs
  managers_are k [] = refl
  managers_are k (x ∷ xs) = ap (λ t. is_managed k x && t) (managers_are (k + 1) xs)

  managers_of : managers_from 1 rows.staff.items rows.branches.items ≡ true → (b : ℕ)
      → list_all (λ (it : Branch). list_all (is_staff_of b cat.staff) (option_to_list it.manager)) (at b cat.branches) ≡ true
  managers_of h zero = ap (list_all (λ (it : Branch). list_all (is_staff_of 0 cat.staff) (option_to_list it.manager))) (at_zero cat.branches)
  managers_of h (suc b) =
      managed_at (suc b) ∙ all_from_at is_managed 1 rows.branches.items (sym (managers_are 1 rows.branches.items) ∙ h) (suc b) (suc b) refl (omega arith)

  of_managers : ((b : ℕ) → list_all (λ (it : Branch). list_all (is_staff_of b cat.staff) (option_to_list it.manager)) (at b cat.branches) ≡ true)
      → managers_from 1 rows.staff.items rows.branches.items ≡ true
  of_managers h =
      managers_are 1 rows.branches.items
      ∙ at_all_from is_managed 1 rows.branches.items
      (λ n m e low. subst (λ j. list_all (is_managed j) (at n rows.branches.items) ≡ true) (same n m e) (sym (managed_at n) ∙ h n))
    where
      same : (n m : ℕ) → m + 1 ≡ n + 1 → n ≡ m
      same n m e = omega (arith, e)

  -- ---- doubles

  flipped : (names : List Text) (items : List Text) → names ≡ items
      → are_different (λ (earlier later : Text). bytes_eq later earlier) names ≡ are_different bytes_eq items
  flipped names items e = different_congr _ bytes_eq (λ x y. bytes_eq_symm y x) names ∙ ap (are_different bytes_eq) e

  tokens : are_different (λ (earlier later : Branch). bytes_eq earlier.token later.token) cat.branches
      ≡ are_different (λ (earlier later : CheckedBranch). bytes_eq earlier.token later.token) rows.branches.items
  tokens =
      sym (different-map (λ (earlier later : CheckedBranch). bytes_eq earlier.token later.token) (branch_row None) cat.branches)
      ∙ ap (are_different (λ (earlier later : CheckedBranch). bytes_eq earlier.token later.token)) s.branches
      ∙ different-map (λ (earlier later : CheckedBranch). bytes_eq earlier.token later.token) without_last rows.branches.items

  office_token : list_all (λ (it : Branch). not (bytes_eq it.token cat.office_token)) cat.branches
      ≡ list_all (λ (row : CheckedBranch). not (bytes_eq row.token rows.office_token)) rows.branches.items
  office_token =
      of_branches _ (λ (row : CheckedBranch). not (bytes_eq row.token rows.office_token))
      (λ it. ap (λ (t : Text). not (bytes_eq it.token t)) s.office_token) (λ row. refl)

  office_keys : are_different (λ (earlier later : OfficeKept). bytes_eq earlier.command.key later.command.key) cat.kept ≡ true
  office_keys =
      sym (different-map bytes_eq (λ (it : OfficeKept). it.command.key) cat.kept)
      ∙ ap (are_different bytes_eq) s.office_keys ∙ different_from_climbs rows.office_keys.items o.office_keys

  pair_key : (x y : Cast) → (x.film == y.film && x.actor == y.actor) ≡ bytes_eq (x.film ∷ x.actor ∷ []) (y.film ∷ y.actor ∷ [])
  pair_key x y = go (x.film == y.film) (x.actor == y.actor)
    where
      go : (p q : Bool) → (p && q) ≡ (p && (q && true))
      go true true = refl
      go true false = refl
      go false q = refl

  single_casts : are_different (λ (earlier later : Cast). earlier.film == later.film && earlier.actor == later.actor) cat.casts ≡ true
  single_casts =
      different_congr _ _ pair_key cat.casts
      ∙ sym (different-map (λ (x y : CheckedCast). bytes_eq (x.film ∷ x.actor ∷ []) (y.film ∷ y.actor ∷ [])) cast_row cat.casts)
      ∙ ap (are_different (λ (x y : CheckedCast). bytes_eq (x.film ∷ x.actor ∷ []) (y.film ∷ y.actor ∷ []))) s.casts
      ∙ sym (different-map bytes_eq (λ (x : CheckedCast). x.film ∷ x.actor ∷ []) rows.casts.items)
      ∙ different_from_climbs (map (λ (x : CheckedCast). x.film ∷ x.actor ∷ []) rows.casts.items) o.casts

  pub catalogue_from_rows : (rules : Rules) → is_good_catalogue rows ≡ true → IsGoodCatalogue (widest rules) cat
  catalogue_from_rows rules h =
      let a3 = both (nat_le (length rows.office_keys.items) 1000000 && is_shared_sized rows && is_named rows) (is_single rows) h in
      let a2 = both (nat_le (length rows.office_keys.items) 1000000 && is_shared_sized rows) (is_named rows) a3.0 in
      let a1 = both (nat_le (length rows.office_keys.items) 1000000) (is_shared_sized rows) a2.0 in
      let z8 =
      both (nat_le (length rows.casts.items) (length rows.office_keys.items + 3) && nat_le (length rows.countries.items) (length rows.office_keys.items + 3)
      && nat_le (length rows.cities.items) (length rows.office_keys.items + 3)
      && nat_le (length rows.languages.items) (length rows.office_keys.items + 3)
      && nat_le (length rows.categories.items) (length rows.office_keys.items + 3)
      && nat_le (rows.actors) (length rows.office_keys.items + 3) && nat_le (length rows.films.items) (length rows.office_keys.items + 3)
      && nat_le (length rows.branches.items) (length rows.office_keys.items + 3))
      (nat_le (length rows.staff.items) (length rows.office_keys.items + 3)) a1.1 in
      let z7 =
      both (nat_le (length rows.casts.items) (length rows.office_keys.items + 3) && nat_le (length rows.countries.items) (length rows.office_keys.items + 3)
      && nat_le (length rows.cities.items) (length rows.office_keys.items + 3)
      && nat_le (length rows.languages.items) (length rows.office_keys.items + 3)
      && nat_le (length rows.categories.items) (length rows.office_keys.items + 3)
      && nat_le (rows.actors) (length rows.office_keys.items + 3) && nat_le (length rows.films.items) (length rows.office_keys.items + 3))
      (nat_le (length rows.branches.items) (length rows.office_keys.items + 3)) z8.0 in
      let z6 =
      both (nat_le (length rows.casts.items) (length rows.office_keys.items + 3) && nat_le (length rows.countries.items) (length rows.office_keys.items + 3)
      && nat_le (length rows.cities.items) (length rows.office_keys.items + 3)
      && nat_le (length rows.languages.items) (length rows.office_keys.items + 3)
      && nat_le (length rows.categories.items) (length rows.office_keys.items + 3) && nat_le (rows.actors) (length rows.office_keys.items + 3))
      (nat_le (length rows.films.items) (length rows.office_keys.items + 3)) z7.0 in
      let z5 =
      both (nat_le (length rows.casts.items) (length rows.office_keys.items + 3) && nat_le (length rows.countries.items) (length rows.office_keys.items + 3)
      && nat_le (length rows.cities.items) (length rows.office_keys.items + 3)
      && nat_le (length rows.languages.items) (length rows.office_keys.items + 3)
      && nat_le (length rows.categories.items) (length rows.office_keys.items + 3))
      (nat_le (rows.actors) (length rows.office_keys.items + 3)) z6.0 in
      let z4 =
      both (nat_le (length rows.casts.items) (length rows.office_keys.items + 3) && nat_le (length rows.countries.items) (length rows.office_keys.items + 3)
      && nat_le (length rows.cities.items) (length rows.office_keys.items + 3)
      && nat_le (length rows.languages.items) (length rows.office_keys.items + 3))
      (nat_le (length rows.categories.items) (length rows.office_keys.items + 3)) z5.0 in
      let z3 =
      both (nat_le (length rows.casts.items) (length rows.office_keys.items + 3) && nat_le (length rows.countries.items) (length rows.office_keys.items + 3)
      && nat_le (length rows.cities.items) (length rows.office_keys.items + 3))
      (nat_le (length rows.languages.items) (length rows.office_keys.items + 3)) z4.0 in
      let z2 =
      both
      (nat_le (length rows.casts.items) (length rows.office_keys.items + 3) && nat_le (length rows.countries.items) (length rows.office_keys.items + 3))
      (nat_le (length rows.cities.items) (length rows.office_keys.items + 3)) z3.0 in
      let z1 =
      both (nat_le (length rows.casts.items) (length rows.office_keys.items + 3))
      (nat_le (length rows.countries.items) (length rows.office_keys.items + 3)) z2.0 in
      let n5 =
      both (list_all (λ (row : CheckedCity). is_among (length rows.countries.items) row.country) rows.cities.items
      && list_all (λ (row : CheckedFilm). is_among (length rows.languages.items) row.language && is_among (length rows.categories.items) row.category)
      rows.films.items
      && list_all (λ (row : CheckedCast). is_among (length rows.films.items) row.film && is_among rows.actors row.actor) rows.casts.items
      && list_all (λ (row : CheckedBranch). is_among (length rows.cities.items) row.city) rows.branches.items
      && list_all
      (λ (row : CheckedStaff). is_among (length rows.branches.items) row.branch && is_among (length rows.cities.items) row.city) rows.staff.items)
      (managers_from 1 rows.staff.items rows.branches.items) a2.1 in
      let n4 =
      both (list_all (λ (row : CheckedCity). is_among (length rows.countries.items) row.country) rows.cities.items
      && list_all (λ (row : CheckedFilm). is_among (length rows.languages.items) row.language && is_among (length rows.categories.items) row.category)
      rows.films.items
      && list_all (λ (row : CheckedCast). is_among (length rows.films.items) row.film && is_among rows.actors row.actor) rows.casts.items
      && list_all (λ (row : CheckedBranch). is_among (length rows.cities.items) row.city) rows.branches.items)
      (list_all (λ (row : CheckedStaff). is_among (length rows.branches.items) row.branch && is_among (length rows.cities.items) row.city) rows.staff.items)
      n5.0 in
      let n3 =
      both (list_all (λ (row : CheckedCity). is_among (length rows.countries.items) row.country) rows.cities.items
      && list_all (λ (row : CheckedFilm). is_among (length rows.languages.items) row.language && is_among (length rows.categories.items) row.category)
      rows.films.items
      && list_all (λ (row : CheckedCast). is_among (length rows.films.items) row.film && is_among rows.actors row.actor) rows.casts.items)
      (list_all (λ (row : CheckedBranch). is_among (length rows.cities.items) row.city) rows.branches.items) n4.0 in
      let n2 =
      both (list_all (λ (row : CheckedCity). is_among (length rows.countries.items) row.country) rows.cities.items
      && list_all (λ (row : CheckedFilm). is_among (length rows.languages.items) row.language && is_among (length rows.categories.items) row.category)
      rows.films.items)
      (list_all (λ (row : CheckedCast). is_among (length rows.films.items) row.film && is_among rows.actors row.actor) rows.casts.items) n3.0 in
      let n1 =
      both (list_all (λ (row : CheckedCity). is_among (length rows.countries.items) row.country) rows.cities.items)
      (list_all (λ (row : CheckedFilm). is_among (length rows.languages.items) row.language && is_among (length rows.categories.items) row.category)
      rows.films.items)
      n2.0 in
      let d4 =
      both (are_different bytes_eq rows.countries.items && are_different bytes_eq rows.languages.items && are_different bytes_eq rows.categories.items
      && are_different (λ (earlier later : CheckedBranch). bytes_eq earlier.token later.token) rows.branches.items)
      (list_all (λ (row : CheckedBranch). not (bytes_eq row.token rows.office_token)) rows.branches.items) a3.1 in
      let d3 =
      both (are_different bytes_eq rows.countries.items && are_different bytes_eq rows.languages.items && are_different bytes_eq rows.categories.items)
      (are_different (λ (earlier later : CheckedBranch). bytes_eq earlier.token later.token) rows.branches.items) d4.0 in
      let d2 =
      both (are_different bytes_eq rows.countries.items && are_different bytes_eq rows.languages.items)
      (are_different bytes_eq rows.categories.items) d3.0 in
      let d1 = both (are_different bytes_eq rows.countries.items) (are_different bytes_eq rows.languages.items) d2.0 in
      let film =
      both (list_all (λ (it : Film). has_row cat.languages it.language) cat.films)
      (list_all (λ (it : Film). has_row cat.categories it.category) cat.films) (films ∙ n1.1) in
      let cast =
      both (list_all (λ (it : Cast). has_row cat.films it.film) cat.casts)
      (list_all (λ (it : Cast). has_row cat.actors it.actor) cat.casts) (casts ∙ n2.1) in
      let person =
      both (list_all (λ (it : Staff). has_row cat.branches it.branch) cat.staff)
      (list_all (λ (it : Staff). has_row cat.cities it.person.city) cat.staff) (staff ∙ n4.1) in
      record {
        names = record {
          city_countries = city_countries ∙ n1.0;
          film_languages = film.0;
          film_categories = film.1;
          cast_films = cast.0;
          cast_actors = cast.1;
          branch_cities = branch_cities ∙ n3.1;
          managers = managers_of n5.1;
          staff_branches = person.0;
          staff_cities = person.1;
        };
        sizes = record {
          casts =
              (let e = casts_length in
              let f = keys_length in let l = le_from (length rows.casts.items) (length rows.office_keys.items + 3) z1.0 in omega (arith, e, f, l));
          countries =
              (let e = sym (ap length s.countries) in
              let f = keys_length in let l = le_from (length rows.countries.items) (length rows.office_keys.items + 3) z1.1 in omega (arith, e, f, l));
          cities =
              (let e = cities_length in
              let f = keys_length in let l = le_from (length rows.cities.items) (length rows.office_keys.items + 3) z2.1 in omega (arith, e, f, l));
          languages =
              (let e = sym (ap length s.languages) in
              let f = keys_length in let l = le_from (length rows.languages.items) (length rows.office_keys.items + 3) z3.1 in omega (arith, e, f, l));
          categories =
              (let e = sym (ap length s.categories) in
              let f = keys_length in let l = le_from (length rows.categories.items) (length rows.office_keys.items + 3) z4.1 in omega (arith, e, f, l));
          actors =
              (let e = sym s.actors in let f = keys_length in let l = le_from (rows.actors) (length rows.office_keys.items + 3) z5.1 in omega (arith, e, f, l));
          films =
              (let e = films_length in
              let f = keys_length in let l = le_from (length rows.films.items) (length rows.office_keys.items + 3) z6.1 in omega (arith, e, f, l));
          branches =
              (let e = branches_length in
              let f = keys_length in let l = le_from (length rows.branches.items) (length rows.office_keys.items + 3) z7.1 in omega (arith, e, f, l));
          staff =
              (let e = staff_length in
              let f = keys_length in let l = le_from (length rows.staff.items) (length rows.office_keys.items + 3) z8.1 in omega (arith, e, f, l));
        };
        single = record {
          casts = single_casts;
          countries = flipped cat.countries rows.countries.items s.countries ∙ d1.0;
          languages = flipped cat.languages rows.languages.items s.languages ∙ d1.1;
          categories = flipped cat.categories rows.categories.items s.categories ∙ d2.1;
        };
        keys_fit = (let f = keys_length in let l = le_from (length rows.office_keys.items) 1000000 a1.0 in omega (arith, f, l));
        keys = office_keys;
        tokens = tokens ∙ d3.1;
        office_token = office_token ∙ d4.1;
      }

  pub rows_from_catalogue : (rules : Rules) → IsGoodCatalogue (widest rules) cat → is_good_catalogue rows ≡ true
  rows_from_catalogue rules g =
      let keys : nat_le (length rows.office_keys.items) 1000000 ≡ true =
      le_to (length rows.office_keys.items) 1000000 (let f = keys_length in let l = g.keys_fit in omega (arith, f, l)) in
      let z0 : nat_le (length rows.casts.items) (length rows.office_keys.items + 3) ≡ true =
      le_to (length rows.casts.items) (length rows.office_keys.items + 3)
      (let e = casts_length in let f = keys_length in let l = g.sizes.casts in omega (arith, e, f, l)) in
      let z1 : nat_le (length rows.countries.items) (length rows.office_keys.items + 3) ≡ true =
      le_to (length rows.countries.items) (length rows.office_keys.items + 3)
      (let e = sym (ap length s.countries) in let f = keys_length in let l = g.sizes.countries in omega (arith, e, f, l)) in
      let z2 : nat_le (length rows.cities.items) (length rows.office_keys.items + 3) ≡ true =
      le_to (length rows.cities.items) (length rows.office_keys.items + 3)
      (let e = cities_length in let f = keys_length in let l = g.sizes.cities in omega (arith, e, f, l)) in
      let z3 : nat_le (length rows.languages.items) (length rows.office_keys.items + 3) ≡ true =
      le_to (length rows.languages.items) (length rows.office_keys.items + 3)
      (let e = sym (ap length s.languages) in let f = keys_length in let l = g.sizes.languages in omega (arith, e, f, l)) in
      let z4 : nat_le (length rows.categories.items) (length rows.office_keys.items + 3) ≡ true =
      le_to (length rows.categories.items) (length rows.office_keys.items + 3)
      (let e = sym (ap length s.categories) in let f = keys_length in let l = g.sizes.categories in omega (arith, e, f, l)) in
      let z5 : nat_le (rows.actors) (length rows.office_keys.items + 3) ≡ true =
      le_to (rows.actors) (length rows.office_keys.items + 3)
      (let e = sym s.actors in let f = keys_length in let l = g.sizes.actors in omega (arith, e, f, l)) in
      let z6 : nat_le (length rows.films.items) (length rows.office_keys.items + 3) ≡ true =
      le_to (length rows.films.items) (length rows.office_keys.items + 3)
      (let e = films_length in let f = keys_length in let l = g.sizes.films in omega (arith, e, f, l)) in
      let z7 : nat_le (length rows.branches.items) (length rows.office_keys.items + 3) ≡ true =
      le_to (length rows.branches.items) (length rows.office_keys.items + 3)
      (let e = branches_length in let f = keys_length in let l = g.sizes.branches in omega (arith, e, f, l)) in
      let z8 : nat_le (length rows.staff.items) (length rows.office_keys.items + 3) ≡ true =
      le_to (length rows.staff.items) (length rows.office_keys.items + 3)
      (let e = staff_length in let f = keys_length in let l = g.sizes.staff in omega (arith, e, f, l)) in
      let n0 : list_all (λ (row : CheckedCity). is_among (length rows.countries.items) row.country) rows.cities.items ≡ true =
      sym city_countries ∙ g.names.city_countries in
      let n1 :
      list_all (λ (row : CheckedFilm). is_among (length rows.languages.items) row.language && is_among (length rows.categories.items) row.category)
      rows.films.items
      ≡ true =
      sym films ∙ (λ i. g.names.film_languages i && g.names.film_categories i) in
      let n2 : list_all (λ (row : CheckedCast). is_among (length rows.films.items) row.film && is_among rows.actors row.actor) rows.casts.items ≡ true =
      sym casts ∙ (λ i. g.names.cast_films i && g.names.cast_actors i) in
      let n3 : list_all (λ (row : CheckedBranch). is_among (length rows.cities.items) row.city) rows.branches.items ≡ true =
      sym branch_cities ∙ g.names.branch_cities in
      let n4 :
      list_all
      (λ (row : CheckedStaff). is_among (length rows.branches.items) row.branch && is_among (length rows.cities.items) row.city) rows.staff.items
      ≡ true =
      sym staff ∙ (λ i. g.names.staff_branches i && g.names.staff_cities i) in
      let n5 : managers_from 1 rows.staff.items rows.branches.items ≡ true = of_managers g.names.managers in
      let d0 : are_different bytes_eq rows.countries.items ≡ true = sym (flipped cat.countries rows.countries.items s.countries) ∙ g.single.countries in
      let d1 : are_different bytes_eq rows.languages.items ≡ true = sym (flipped cat.languages rows.languages.items s.languages) ∙ g.single.languages in
      let d2 : are_different bytes_eq rows.categories.items ≡ true = sym (flipped cat.categories rows.categories.items s.categories) ∙ g.single.categories in
      let d3 : are_different (λ (earlier later : CheckedBranch). bytes_eq earlier.token later.token) rows.branches.items ≡ true = sym tokens ∙ g.tokens in
      let d4 : list_all (λ (row : CheckedBranch). not (bytes_eq row.token rows.office_token)) rows.branches.items ≡ true = sym office_token ∙ g.office_token in
      (λ i.
      keys i && (z0 i && z1 i && z2 i && z3 i && z4 i && z5 i && z6 i && z7 i && z8 i)
      && (n0 i && n1 i && n2 i && n3 i && n4 i && n5 i) && (d0 i && d1 i && d2 i && d3 i && d4 i))
