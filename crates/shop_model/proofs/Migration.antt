-- Books of version 1 become sound books, in which balances and overdue rentals are the same.
use Rattle.shop_model.proofs.Common.{◌≡◌, inl, inr, ℕ, ◌+◌, ◌*◌, List, [], ◌∷◌, ◌++◌, length, filter, map, Bool, true, false, refl, sym, ap, ap₂, subst, ◌∙◌}
use Rattle.shop_model.proofs.Common.{arith, ◌==◌, ◌&&◌, ◌-ℤ◌, nat_lt, flat_map, zip, is_none, AllByRecursion, list_any, list_all, or-false, cases_Bool}
use Rattle.shop_model.proofs.Common.{and_parts, not-true, map-append, filter-append, Row, IsCounted, AreNumbered, lacks, is_of, of, total, Moment, is_by, Film}
use Rattle.shop_model.proofs.Common.{Rental, Terms, Payment, Rule, ByCode, Rules, Catalogue, Shop, film_of, film_terms, terms_now, late_days, fee, balance}
use Rattle.shop_model.proofs.Common.{is_overdue, Books, shop_of, has_row, IsLinkedShop, IsSoundBy, HasTerms, Rentals, TermRows, AreRowsNumbered, AreRowsOwned}
use Rattle.std.specs.Prelude.{pos}
use Rattle.std.proofs.lemmas.List.{length-append}
use Rattle.shop_model.specs.Calendar.{day_of}
use Rattle.shop_model.specs.Migration.{HasNoTerms, IsSoundWithoutTerms, film_fee, film_balance, is_film_overdue, row_terms, migrated, MigratedIsSound}
use Rattle.shop_model.specs.Migration.{SoundWithoutTerms, MigratedKeepsBalances}
use Rattle.shop_model.proofs.RowLemmas.{same_if, same_test, length_map}
use Rattle.shop_model.proofs.EditLemmas.{by_table}
use Rattle.shop_model.proofs.LinkLemmas.{all_joined}
use Rattle.shop_model.proofs.LinkedShops.{linked_same}
use Rattle.shop_model.proofs.Soundness.{one_film_now, holder_same, good_same}

-- ---- each rental has one film

abbrev HaveOne : Catalogue → Shop → List Rental → Type 0
HaveOne catalogue shop rentals = AllByRecursion (λ (rental : Rental). length (film_of catalogue shop rental) ≡ 1) rentals

have_one : (b : ℕ) (catalogue : Catalogue) (shop : Shop) (rentals : List Rental) → IsLinkedShop b catalogue shop
    → list_all (λ (it : Rental). has_row shop.copies it.copy) rentals ≡ true → HaveOne catalogue shop rentals
have_one b catalogue shop [] linked all = tt
have_one b catalogue shop (rental ∷ rentals) linked all =
    let h = and_parts (has_row shop.copies rental.copy) _ all in
    let one = one_film_now b catalogue shop rental.copy linked (not-true (lacks shop.copies rental.copy) h.0) in
    (sym (length_map film_terms (film_of catalogue shop rental)) ∙ one, have_one b catalogue shop rentals linked h.1)

all_have_one : (b : ℕ) (catalogue : Catalogue) (shop : Shop) → IsLinkedShop b catalogue shop → HaveOne catalogue shop shop.rentals
all_have_one b catalogue shop linked = have_one b catalogue shop shop.rentals linked linked.rental_copies

-- ---- the terms that one branch gets

append_of : {A : Type 0} (b : ℕ) (xs ys : List (Row A)) → of b (xs ++ ys) ≡ of b xs ++ of b ys
append_of {A = A} b xs ys =
    ap (map (λ (row : Row A). row.it)) (filter-append (is_of b) xs ys) ∙ map-append (λ (row : Row A). row.it) (filter (is_of b) xs) (filter (is_of b) ys)

abbrev made : ℕ → ℕ → List Terms → List (Row Terms)
made b n its = map (λ (it : Terms). record { branch = b; number = n; it = it }) its

own_made : (b n : ℕ) (its : List Terms) → of b (made b n its) ≡ its
own_made b n [] = refl
own_made b n (it ∷ its) = rw (same_test b) (ap (λ (rest : List Terms). it ∷ rest) (own_made b n its))

other_made : (b c n : ℕ) (its : List Terms) → (c == b) ≡ false → filter (is_of b) (made c n its) ≡ []
other_made b c n [] differ = refl
other_made b c n (it ∷ its) differ = rw differ (other_made b c n its differ)

own_numbers : (b n : ℕ) (its : List Terms) → length its ≡ 1 → map (λ (row : Row Terms). row.number) (filter (is_of b) (made b n its)) ≡ n ∷ []
own_numbers b n [] one = cc
own_numbers b n (it ∷ []) one = rw (same_test b) refl
own_numbers b n (it ∷ other ∷ its) one = absurd (omega (arith, one))

module _ (books : Books) (b : ℕ) where
  abbrev terms_in : Rental → List Terms
  terms_in rental = terms_now books.catalogue (shop_of b books) rental.copy

  branch_terms : (rows : List (Row Rental)) → of b (flat_map (row_terms books) rows) ≡ flat_map terms_in (of b rows)
  branch_terms [] = refl
  branch_terms (row ∷ rows) = append_of b (row_terms books row) (flat_map (row_terms books) rows) ∙ elim (cases_Bool (row.branch == b)) [
    | inl is ↦
        let Own : ℕ → Type 0 = λ c. of b (made c row.number (terms_now books.catalogue (shop_of c books) row.it.copy)) ≡ terms_in row.it in
        let own : Own row.branch = subst Own (sym (same_if row.branch b is)) (own_made b row.number (terms_in row.it)) in
        rw is (ap₂ (λ (xs ys : List Terms). xs ++ ys) own (branch_terms rows))
    | inr isnt ↦
        rw isnt
        (ap (λ (none : List (Row Terms)). map (λ (it : Row Terms). it.it) none ++ of b (flat_map (row_terms books) rows))
        (other_made b row.branch row.number (terms_now books.catalogue (shop_of row.branch books) row.it.copy) isnt)
        ∙ branch_terms rows)
  ]

  abbrev numbers : {A : Type 0} → List (Row A) → List ℕ
  numbers {A} rows = map (λ (row : Row A). row.number) (filter (is_of b) rows)

  branch_numbers : (rows : List (Row Rental)) → HaveOne books.catalogue (shop_of b books) (of b rows) → numbers (flat_map (row_terms books) rows) ≡ numbers rows
  branch_numbers [] one = refl
  branch_numbers (row ∷ rows) one =
      let number = λ (it : Row Terms). it.number in
      ap (map number) (filter-append (is_of b) (row_terms books row) (flat_map (row_terms books) rows))
      ∙ map-append number (filter (is_of b) (row_terms books row)) (filter (is_of b) (flat_map (row_terms books) rows))
      ∙ elim (cases_Bool (row.branch == b)) [
        | inl is ↦
            let h : (length (film_of books.catalogue (shop_of b books) row.it) ≡ 1) × HaveOne books.catalogue (shop_of b books) (of b rows) = rw is at one in
            let Own : ℕ → Type 0 =
            λ c. map number (filter (is_of b) (made c row.number (terms_now books.catalogue (shop_of c books) row.it.copy))) ≡ row.number ∷ [] in
            let own : Own row.branch =
            subst Own (sym (same_if row.branch b is))
            (own_numbers b row.number (terms_in row.it) (length_map film_terms (film_of books.catalogue (shop_of b books) row.it) ∙ h.0)) in
            rw is (ap₂ (λ (ms ns : List ℕ). ms ++ ns) own (branch_numbers rows h.1))
        | inr isnt ↦
            let rest : HaveOne books.catalogue (shop_of b books) (of b rows) = rw isnt at one in
            rw isnt
            (ap (λ (none : List (Row Terms)). map number none ++ numbers (flat_map (row_terms books) rows))
            (other_made b row.branch row.number (terms_now books.catalogue (shop_of row.branch books) row.it.copy) isnt)
            ∙ branch_numbers rows rest)
      ]

  terms_length : (rentals : List Rental) → HaveOne books.catalogue (shop_of b books) rentals → length (flat_map terms_in rentals) ≡ length rentals
  terms_length [] one = refl
  terms_length (rental ∷ rentals) one =
      let l = length-append (terms_in rental) (flat_map terms_in rentals) in
      let first = length_map film_terms (film_of books.catalogue (shop_of b books) rental) ∙ one.0 in
      let rest = terms_length rentals one.1 in
      omega (arith, l, first, rest)

-- the rentals of all branches, each in its own
rows_have_one : (books : Books) (rows : List (Row Rental)) → ((b : ℕ) → HaveOne books.catalogue (shop_of b books) (of b rows))
    → AllByRecursion (λ (row : Row Rental). length (film_of books.catalogue (shop_of row.branch books) row.it) ≡ 1) rows
rows_have_one books [] each = tt
rows_have_one books (row ∷ rows) each = ((own (each row.branch)).0, rows_have_one books rows (λ b. rest b (each b)))
  where
    own : HaveOne books.catalogue (shop_of row.branch books) (of row.branch (row ∷ rows))
        → (length (film_of books.catalogue (shop_of row.branch books) row.it) ≡ 1) × HaveOne books.catalogue (shop_of row.branch books) (of row.branch rows)
    own h = rw (same_test row.branch) at h

    rest : (b : ℕ) → HaveOne books.catalogue (shop_of b books) (of b (row ∷ rows)) → HaveOne books.catalogue (shop_of b books) (of b rows)
    rest b h = elim (cases_Bool (row.branch == b)) [
      | inl is ↦
          let both : (length (film_of books.catalogue (shop_of b books) row.it) ≡ 1) × HaveOne books.catalogue (shop_of b books) (of b rows) = rw is at h in
          both.1
      | inr isnt ↦ rw isnt at h
    ]

pub all_rows_have_one : (rules : Rules) (books : Books) → IsSoundWithoutTerms rules books
    → AllByRecursion (λ (row : Row Rental). length (film_of books.catalogue (shop_of row.branch books) row.it) ≡ 1) books.rentals
all_rows_have_one rules books sound = rows_have_one books books.rentals (λ b. all_have_one b books.catalogue (shop_of b books) (sound.links b))

-- ---- balances and overdue rentals

fee_step : (q : Rental → Bool) (g : Rental → ℕ) (rental : Rental) (films : List Film) (rentals : List Rental) (terms : List Terms) → length films ≡ 1
    → g rental ≡ total (λ (film : Film). film.rate + 100 * late_days rental.rented rental.returned film.period) films
    → total fee (filter (λ (it : Rental × Terms). q it.0) (zip rentals terms)) ≡ total g (filter q rentals)
    → total fee (filter (λ (it : Rental × Terms). q it.0) (zip (rental ∷ rentals) (map film_terms films ++ terms))) ≡ total g (filter q (rental ∷ rentals))
fee_step q g rental [] rentals terms one is rest = cc
fee_step q g rental (film ∷ []) rentals terms one is rest = elim (cases_Bool (q rental)) [
  | inl hit ↦ rw hit (omega (arith, is, rest))
  | inr miss ↦ rw miss rest
]
fee_step q g rental (film ∷ other ∷ films) rentals terms one is rest = absurd (omega (arith, one))

overdue_step : (moment : Moment) (p : Rental → Bool) (rental : Rental) (films : List Film) (rentals : List Rental) (terms : List Terms) → length films ≡ 1
    → p rental ≡ (is_none rental.returned && list_any (λ (film : Film). nat_lt (day_of rental.rented + film.period) (day_of moment)) films)
    → map (λ (it : Rental × Terms). it.0) (filter (is_overdue moment) (zip rentals terms)) ≡ filter p rentals
    → map (λ (it : Rental × Terms). it.0) (filter (is_overdue moment) (zip (rental ∷ rentals) (map film_terms films ++ terms))) ≡ filter p (rental ∷ rentals)
overdue_step moment p rental [] rentals terms one is rest = cc
overdue_step moment p rental (film ∷ []) rentals terms one is rest =
    let late = nat_lt (day_of rental.rented + film.period) (day_of moment) in
    let same : p rental ≡ is_overdue moment (rental, film_terms film) = is ∙ ap (λ (a : Bool). is_none rental.returned && a) (or-false late) in
    elim (cases_Bool (is_overdue moment (rental, film_terms film))) [
      | inl hit ↦ rw (hit, same ∙ hit) (ap (λ (more : List Rental). rental ∷ more) rest)
      | inr miss ↦ rw (miss, same ∙ miss) rest
    ]
overdue_step moment p rental (film ∷ other ∷ films) rentals terms one is rest = absurd (omega (arith, one))

module _ (catalogue : Catalogue) (shop : Shop) where
  abbrev its : Rental → List Terms
  its rental = terms_now catalogue shop rental.copy

  fees_stay : (q : Rental → Bool) (rentals : List Rental) → HaveOne catalogue shop rentals
      → total fee (filter (λ (it : Rental × Terms). q it.0) (zip rentals (flat_map its rentals))) ≡ total (film_fee catalogue shop) (filter q rentals)
  fees_stay q [] one = refl
  fees_stay q (rental ∷ rentals) one =
      fee_step q (film_fee catalogue shop) rental (film_of catalogue shop rental) rentals (flat_map its rentals) one.0 refl (fees_stay q rentals one.1)

  overdue_stays : (moment : Moment) (rentals : List Rental) → HaveOne catalogue shop rentals
      → map (λ (it : Rental × Terms). it.0) (filter (is_overdue moment) (zip rentals (flat_map its rentals)))
      ≡ filter (is_film_overdue catalogue shop moment) rentals
  overdue_stays moment [] one = refl
  overdue_stays moment (rental ∷ rentals) one =
      overdue_step moment (is_film_overdue catalogue shop moment) rental (film_of catalogue shop rental) rentals
      (flat_map its rentals) one.0 refl (overdue_stays moment rentals one.1)

pub keeps_balances : MigratedKeepsBalances
keeps_balances rules books code sound = record {
  balances = λ b customer moment.
      let shop = shop_of b books in
      let one = all_have_one b books.catalogue shop (sound.links b) in
      let q = λ (rental : Rental). rental.customer == customer && is_by rental.rented moment in
      let fees =
      ap (λ (terms : List Terms). total fee (filter (λ (it : Rental × Terms). q it.0) (zip shop.rentals terms))) (branch_terms books b books.rentals)
      ∙ fees_stay books.catalogue shop q shop.rentals one in
      let by : (rule : Rule) → rule ≡ ByCode → balance rule (shop_of b (migrated books)) customer moment ≡ film_balance books.catalogue shop customer moment =
      λ rule is. subst (λ (it : Rule). balance it (shop_of b (migrated books)) customer moment ≡ film_balance books.catalogue shop customer moment) (sym is)
      (ap (λ (n : ℕ).
      pos n -ℤ pos
      (total (λ (payment : Payment). payment.amount)
      (filter (λ (payment : Payment). payment.customer == customer && is_by payment.paid moment) shop.payments)))
      fees)
      in
      by books.catalogue.rule code;
  overdue_same = λ b moment.
      let shop = shop_of b books in
      let one = all_have_one b books.catalogue shop (sound.links b) in
      ap (λ (terms : List Terms). map (λ (it : Rental × Terms). it.0) (filter (is_overdue moment) (zip shop.rentals terms)))
      (branch_terms books b books.rentals)
      ∙ overdue_stays books.catalogue shop moment shop.rentals one;
}

-- ---- soundness

-- Books with other terms are sound if the terms are numbered, each of a branch that is there. Each branch's shop has to have what is asked.
module _ (Were Are : Shop → Type 0) (rules : Rules) (books : Books) (its : List (Row Terms)) where
  abbrev with_its : Books
  with_its = record books { terms = its }

  with_terms : IsSoundBy Were rules books → list_all (λ (row : Row Terms). has_row books.catalogue.branches row.branch) its ≡ true
      → ((b : ℕ) → AreNumbered (is_of b) (λ (row : Row Terms). row.number) its) → ((b : ℕ) → Are (shop_of b with_its)) → IsSoundBy Are rules with_its
  with_terms sound owned numbered termed = record {
    catalogue = sound.catalogue;
    owners =
        let h = sound.owners in
        record {
          rows = by_table (AreRowsOwned books.catalogue.branches) TermRows its books owned h.rows;
          lots = h.lots;
          kept = h.kept;
          lasts = h.lasts;
          sources = h.sources;
          addressees = h.addressees;
        };
    numbers = record { rows = by_table AreRowsNumbered TermRows its books numbered sound.numbers.rows; consignments = sound.numbers.consignments };
    places = sound.places;
    custody = sound.custody;
    origins = record { rows = sound.origins.rows; lines = sound.origins.lines };
    settled = sound.settled;
    lasts = sound.lasts;
    held = λ b. holder_same (shop_of b books) (shop_of b with_its) refl refl (sound.held b);
    shops = λ b. good_same rules (shop_of b books) (shop_of b books).arrivals (of b its) (sound.shops b);
    links = λ b. linked_same b books.catalogue (shop_of b books) (shop_of b books).arrivals (of b its) (sound.links b) (sound.links b).arrival_films;
    terms = termed;
  }

pub without_terms_sound : SoundWithoutTerms
without_terms_sound rules books sound = with_terms HasTerms HasNoTerms rules books [] sound refl (λ b. tt) (λ b. refl)

pub migrated_sound : MigratedIsSound
migrated_sound rules books sound =
    with_terms HasNoTerms HasTerms rules books (flat_map (row_terms books) books.rentals) sound
    (all_joined (λ (row : Row Terms). has_row books.catalogue.branches row.branch)
    (λ (row : Row Rental). has_row books.catalogue.branches row.branch) (row_terms books) books.rentals
    (λ row there. all_made row.branch row.number (terms_now books.catalogue (shop_of row.branch books) row.it.copy) there) (sound.owners.rows Rentals))
    (λ b. subst (IsCounted 1) (sym (branch_numbers books b books.rentals (one b))) (sound.numbers.rows Rentals b))
    (λ b. ap length (branch_terms books b books.rentals) ∙ terms_length books b (shop_of b books).rentals (one b))
  where
    one : (b : ℕ) → HaveOne books.catalogue (shop_of b books) (shop_of b books).rentals
    one b = all_have_one b books.catalogue (shop_of b books) (sound.links b)

    all_made : (c n : ℕ) (its : List Terms) → has_row books.catalogue.branches c ≡ true
        → list_all (λ (row : Row Terms). has_row books.catalogue.branches row.branch) (made c n its) ≡ true
    all_made c n [] there = refl
    all_made c n (it ∷ its) there = rw there (all_made c n its there)
