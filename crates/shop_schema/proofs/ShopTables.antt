-- The tables of the shop, each as one value.
use Rattle.shop_schema.proofs.Common.{◌≡◌, ◌≤◌, ◌||◌, arith, ℕ, List, [], ◌∷◌, Bool, true, false, true≢false, refl, sym, codes, bytes_eq, rating_text}
use Rattle.shop_schema.proofs.Common.{features_text}
use Rattle.shop_schema.proofs.Common.{seen_rule, seen_state, Rating, chain_columns, rule_columns, named_columns, city_columns, actor_columns, film_columns}
use Rattle.shop_schema.proofs.Common.{cast_columns, staff_columns, customer_columns, copy_columns, rental_columns, terms_columns, payment_columns, lot_columns}
use Rattle.shop_schema.proofs.Common.{IsName, IsToken, IsRating, IsCity, IsActor, IsFilm, IsCast, IsStaff, IsRow, IsCustomer, IsCopy, IsRental, IsTerms}
use Rattle.shop_schema.proofs.Common.{IsPayment, IsLot, IsShared, TableOf, person_kinds}
use Rattle.shop_model.specs.Values as model
use Rattle.shop_types.specs.declared.film.Rating.TheVariants as rating
use Rattle.shop_types.specs.declared.rule.Rule.TheVariants as rule
use Rattle.shop_types.specs.declared.custody.CopyState as states
use Rattle.shop_types.specs.declared.custody.CopyState.TheVariants as state
use Rattle.shop_schema.specs.Kinds as kind
use Rattle.shop_schema.proofs.FormValues.{text_equal}

-- ---- what has one text or number a word

pub rating_fits : (it : Rating) → IsRating (rating_text it)
rating_fits rating.G = refl
rating_fits rating.Pg = refl
rating_fits rating.Pg13 = refl
rating_fits rating.R = refl
rating_fits rating.Nc17 = refl

pub rating_is : (t : List ℕ) → IsRating t → (it : Rating) × (rating_text it ≡ t)
rating_is t h =
    go (bytes_eq t (codes "G")) (bytes_eq t (codes "PG")) (bytes_eq t (codes "PG-13"))
    (bytes_eq t (codes "R")) (bytes_eq t (codes "NC-17")) refl refl refl refl refl h
  where
    go : (a b c d e : Bool) → bytes_eq t (codes "G") ≡ a → bytes_eq t (codes "PG") ≡ b
        → bytes_eq t (codes "PG-13") ≡ c → bytes_eq t (codes "R") ≡ d → bytes_eq t (codes "NC-17") ≡ e
        → (a || b || c || d || e) ≡ true → (it : Rating) × (rating_text it ≡ t)
    go true b c d e is _ _ _ _ h = (rating.G, sym (text_equal t (codes "G") is))
    go false true c d e _ is _ _ _ h = (rating.Pg, sym (text_equal t (codes "PG") is))
    go false false true d e _ _ is _ _ h = (rating.Pg13, sym (text_equal t (codes "PG-13") is))
    go false false false true e _ _ _ is _ h = (rating.R, sym (text_equal t (codes "R") is))
    go false false false false true _ _ _ _ is h = (rating.Nc17, sym (text_equal t (codes "NC-17") is))
    go false false false false false _ _ _ _ _ h = absurd (true≢false (sym h))

pub rule_is : (it : model.Rule) → (seen : _) × (seen_rule seen ≡ it)
rule_is model.ByCode = (rule.ByCode, refl)
rule_is model.ByComment = (rule.ByComment, refl)

pub state_is : (it : model.CopyState) → (seen : states.CopyState) × (seen_state seen ≡ it)
state_is model.Here = (state.Here, refl)
state_is model.Sent = (state.Sent, refl)
state_is model.Scrapped = (state.Scrapped, refl)

-- ---- shared rows

abbrev pub chain : TableOf chain_columns IsToken
chain = record {
  kinds = kind.Version ∷ kind.Token ∷ [];
  from = λ (version, (token, z)). token;
  told = λ v. refl;
  ones = λ v h. h.1.0;
  only = λ token h. ((record {}, (token, tt)), (tt, (h, tt)), refl);
}

abbrev pub chain_rule : TableOf rule_columns (λ it. Unit {0})
chain_rule = record {
  kinds = kind.Rule ∷ [];
  from = λ (it, z). seen_rule it;
  told = λ v. refl;
  ones = λ v h. tt;
  only = λ it h. let seen = rule_is it in ((seen.0, tt), (tt, tt), seen.1);
}

abbrev pub named : TableOf named_columns (IsShared IsName)
named = record {
  kinds = kind.Number ∷ kind.Text 1 45 ∷ [];
  from = λ (number, (name, z)). (number, name);
  told = λ v. refl;
  ones = λ v h. (h.0, h.1.0);
  only = λ it h. ((it.0, (it.1, tt)), (h.0, (h.1, tt)), refl);
}

abbrev pub cities : TableOf city_columns (IsShared IsCity)
cities = record {
  kinds = kind.Number ∷ kind.Text 1 45 ∷ kind.Number ∷ [];
  from = λ (number, (name, (country, z))). (number, record { name = name; country = country });
  told = λ v. refl;
  ones = λ v h. (h.0, (h.1.0, h.1.1.0));
  only = λ it h. ((it.0, (it.1.name, (it.1.country, tt))), (h.0, (h.1.0, (h.1.1, tt))), refl);
}

abbrev pub actors : TableOf actor_columns (IsShared IsActor)
actors = record {
  kinds = kind.Number ∷ kind.Text 1 45 ∷ kind.Text 1 45 ∷ [];
  from = λ (number, (first, (last, z))). (number, record { first = first; last = last });
  told = λ v. refl;
  ones = λ v h. (h.0, (h.1.0, h.1.1.0));
  only = λ it h. ((it.0, (it.1.first, (it.1.last, tt))), (h.0, (h.1.0, (h.1.1, tt))), refl);
}

-- a number has no lower bound but 0
pub at_least : {n high : ℕ} → n ≤ high → (0 ≤ n) × (n ≤ high)
at_least low = (omega arith, low)

abbrev pub films : TableOf film_columns (IsShared IsFilm)
films = record {
  kinds = kind.Number ∷ kind.Text 1 128 ∷ kind.Text 0 500 ∷ kind.Number ∷ kind.Number ∷ kind.Within 1 255 ∷ kind.Within 0 9_999 ∷ kind.Within 0 99_999
      ∷ kind.WithinOrNull 1 65_535 ∷ kind.Rating ∷ kind.Features ∷ kind.Flag ∷ [];
  from = λ (number, (title, (description, (language, (category, (period, (rate, (replacement, (minutes, (rating, (features, (withdrawn, z)))))))))))). (
    number,
    record {
      title = title;
      description = description;
      language = language;
      category = category;
      period = period;
      rate = rate;
      replacement = replacement;
      minutes = minutes;
      rating = rating_text rating;
      features = features_text features;
      withdrawn = withdrawn;
    },
  );
  told = λ v. refl;
  ones = λ v h. (
    h.0,
    record {
      title = h.1.0;
      description = h.1.1.0;
      language = h.1.1.1.0;
      category = h.1.1.1.1.0;
      period = h.1.1.1.1.1.0;
      rate = h.1.1.1.1.1.1.0.1;
      replacement = h.1.1.1.1.1.1.1.0.1;
      minutes = h.1.1.1.1.1.1.1.1.0;
      rating = rating_fits v.1.1.1.1.1.1.1.1.1.0;
      features = (v.1.1.1.1.1.1.1.1.1.1.0, refl);
    },
  );
  only = λ it h.
      let film = it.1 in
      let is = h.1 in
      let rated = rating_is film.rating is.rating in
      let featured = is.features in (
        (
          it.0,
          (
            film.title,
            (
              film.description,
              (
                film.language,
                (film.category, (film.period, (film.rate, (film.replacement, (film.minutes, (rated.0, (featured.0, (film.withdrawn, tt)))))))),
              ),
            ),
          ),
        ),
        (
          h.0,
          (
            is.title,
            (is.description, (is.language, (is.category, (is.period, (at_least is.rate, (at_least is.replacement, (is.minutes, (tt, (tt, (tt, tt)))))))))),
          ),
        ),
        (λ i. (it.0, record film { rating = rated.1 i; features = featured.1 i })),
      );
}

abbrev pub casts : TableOf cast_columns IsCast
casts = record {
  kinds = kind.Number ∷ kind.Number ∷ [];
  from = λ (film, (actor, z)). record { film = film; actor = actor };
  told = λ v. refl;
  ones = λ v h. (h.0, h.1.0);
  only = λ it h. ((it.film, (it.actor, tt)), (h.0, (h.1, tt)), refl);
}

abbrev pub staff : TableOf staff_columns (IsShared IsStaff)
staff = record {
  kinds = kind.Number ∷ kind.Number ∷ person_kinds (kind.Flag ∷ []);
  from = λ (number, (branch, (first, (last, (address, (postal, (phone, (city, (gone, z))))))))). (
    number,
    record {
      branch = branch;
      person = record { first = first; last = last; address = address; postal = postal; phone = phone; city = city };
      gone = gone;
    },
  );
  told = λ v. refl;
  ones = λ v h.
      let who = h.1.1 in
      (h.0, (h.1.0, record { first = who.0; last = who.1.0; address = who.1.1.0; postal = who.1.1.1.0; phone = who.1.1.1.1.0; city = who.1.1.1.1.1.0 }));
  only = λ it h.
      let who = it.1.person in
      let is = h.1.1 in (
        (it.0, (it.1.branch, (who.first, (who.last, (who.address, (who.postal, (who.phone, (who.city, (it.1.gone, tt))))))))),
        (h.0, (h.1.0, (is.first, (is.last, (is.address, (is.postal, (is.phone, (is.city, (tt, tt))))))))),
        refl,
      );
}

-- ---- rows of a branch

abbrev pub customers : TableOf customer_columns (IsRow IsCustomer)
customers = record {
  kinds = kind.Number ∷ kind.Number ∷ person_kinds (kind.Flag ∷ kind.Moment ∷ []);
  from = λ (branch, (number, (first, (last, (address, (postal, (phone, (city, (active, (created, z)))))))))).
      record {
        branch = branch;
        number = number;
        it = record {
          person = record { first = first; last = last; address = address; postal = postal; phone = phone; city = city };
          active = active;
          created = created;
        };
      };
  told = λ v. refl;
  ones = λ v h.
      let who = h.1.1 in (
        h.0,
        h.1.0,
        (
          record { first = who.0; last = who.1.0; address = who.1.1.0; postal = who.1.1.1.0; phone = who.1.1.1.1.0; city = who.1.1.1.1.1.0 },
          who.1.1.1.1.1.1.1.0,
        ),
      );
  only = λ row h.
      let who = row.it.person in
      let is = h.2.0 in (
        (row.branch, (row.number, (who.first, (who.last, (who.address, (who.postal, (who.phone, (who.city, (row.it.active, (row.it.created, tt)))))))))),
        (h.0, (h.1, (is.first, (is.last, (is.address, (is.postal, (is.phone, (is.city, (tt, (h.2.1, tt)))))))))),
        refl,
      );
}

abbrev pub copies : TableOf copy_columns (IsRow IsCopy)
copies = record {
  kinds = kind.Number ∷ kind.Number ∷ kind.Number ∷ kind.Copy ∷ kind.Number ∷ kind.Number ∷ [];
  from = λ (branch, (number, (film, (at, (origin, (copy, z)))))).
      record { branch = branch; number = number; it = record { film = film; state = seen_state at; mark = record { branch = origin; copy = copy } } };
  told = λ v. refl;
  ones = λ v h. (h.0, h.1.0, (h.1.1.0, (h.1.1.1.1.0, h.1.1.1.1.1.0)));
  only = λ row h.
      let seen = state_is row.it.state in (
        (row.branch, (row.number, (row.it.film, (seen.0, (row.it.mark.branch, (row.it.mark.copy, tt)))))),
        (h.0, (h.1, (h.2.0, (tt, (h.2.1.0, (h.2.1.1, tt)))))),
        (λ i. record row { it = record row.it { state = seen.1 i } }),
      );
}

abbrev pub rentals : TableOf rental_columns (IsRow IsRental)
rentals = record {
  kinds = kind.Number ∷ kind.Number ∷ kind.Moment ∷ kind.Number ∷ kind.Number ∷ kind.MomentOrNull ∷ kind.Number ∷ [];
  from = λ (branch, (number, (rented, (copy, (customer, (returned, (staff, z))))))).
      record { branch = branch; number = number; it = record { rented = rented; copy = copy; customer = customer; returned = returned; staff = staff } };
  told = λ v. refl;
  ones = λ v h. (h.0, h.1.0, record { rented = h.1.1.0; copy = h.1.1.1.0; customer = h.1.1.1.1.0; returned = h.1.1.1.1.1.0; staff = h.1.1.1.1.1.1.0 });
  only = λ row h.
      let it = row.it in
      let is = h.2 in (
        (row.branch, (row.number, (it.rented, (it.copy, (it.customer, (it.returned, (it.staff, tt))))))),
        (h.0, (h.1, (is.rented, (is.copy, (is.customer, (is.returned, (is.staff, tt))))))),
        refl,
      );
}

abbrev pub terms : TableOf terms_columns (IsRow IsTerms)
terms = record {
  kinds = kind.Number ∷ kind.Number ∷ kind.Within 0 9_999 ∷ kind.Within 1 255 ∷ kind.Within 0 99_999 ∷ [];
  from = λ (branch, (number, (rate, (period, (replacement, z))))).
      record { branch = branch; number = number; it = record { rate = rate; period = period; replacement = replacement } };
  told = λ v. refl;
  ones = λ v h. (h.0, h.1.0, record { rate = h.1.1.0.1; period = h.1.1.1.0; replacement = h.1.1.1.1.0.1 });
  only = λ row h. (
    (row.branch, (row.number, (row.it.rate, (row.it.period, (row.it.replacement, tt))))),
    (h.0, (h.1, (at_least h.2.rate, (h.2.period, (at_least h.2.replacement, tt))))),
    refl,
  );
}

abbrev pub payments : TableOf payment_columns (IsRow IsPayment)
payments = record {
  kinds = kind.Number ∷ kind.Number ∷ kind.Number ∷ kind.Number ∷ kind.NumberOrNull ∷ kind.Within 0 99_999 ∷ kind.Moment ∷ [];
  from = λ (branch, (number, (customer, (staff, (rental, (amount, (paid, z))))))).
      record { branch = branch; number = number; it = record { customer = customer; staff = staff; rental = rental; amount = amount; paid = paid } };
  told = λ v. refl;
  ones = λ v h. (h.0, h.1.0, record { customer = h.1.1.0; staff = h.1.1.1.0; rental = h.1.1.1.1.0; amount = h.1.1.1.1.1.0.1; paid = h.1.1.1.1.1.1.0 });
  only = λ row h.
      let it = row.it in
      let is = h.2 in (
        (row.branch, (row.number, (it.customer, (it.staff, (it.rental, (it.amount, (it.paid, tt))))))),
        (h.0, (h.1, (is.customer, (is.staff, (is.rental, (at_least is.amount, (is.paid, tt))))))),
        refl,
      );
}

abbrev pub lots : TableOf lot_columns IsLot
lots = record {
  kinds = kind.Number ∷ kind.Key ∷ [];
  from = λ (branch, (name, z)). record { owner = branch; it = name };
  told = λ v. refl;
  ones = λ v h. (h.0, h.1.0);
  only = λ row h. ((row.owner, (row.it, tt)), (h.0, (h.1, tt)), refl);
}
