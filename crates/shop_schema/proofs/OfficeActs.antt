-- What is shown of each act of head office: its form is its own, what it replies is a text, and the rows that it makes are such as the program can hold.
use Rattle.shop_schema.proofs.Common.{◌≡◌, ◌≤◌, ◌-◌, ◌==◌, ℕ, List, [], ◌∷◌, ◌++◌, length, Bool, true, false, cond, refl, arith, codes, IsUtf8, length-append}
use Rattle.shop_schema.proofs.Common.{IfSome, AllByRecursion, All-push, object, set_at, Film, Branch, Staff, OfficeAct, AddCountry, AddCity, AddLanguage}
use Rattle.shop_schema.proofs.Common.{AddCategory, AddActor, AddFilm, PriceFilm, WithdrawFilm, AddCast, AddBranch, AddStaff, StaffLeaves, SetManager, ByCode}
use Rattle.shop_schema.proofs.Common.{ByComment, ChooseRule, OfficeCommand, office_acted, office_told, office_text, office_done, Catalogue, Books, length_set}
use Rattle.shop_schema.proofs.Common.{HasFewShared, IsToken, IsNumber, IsName, IsCity, IsActor, IsFilm, IsCast, IsBranch, IsStaff, IsKey, IsOfficeAct}
use Rattle.shop_schema.proofs.Common.{IsOfficeKept, AreShared, AreCatalogueValues, AreValues, ◌↔◌, ◌&&◌, Option, Some, ap, subst, bytes_eq-Decides, bytes_eq}
use Rattle.shop_schema.proofs.Common.{and_parts, Text, Person, Rule, same_person, same_rule, same_office_act, same_if, equal_test, person_same, joined}
use Rattle.shop_schema.proofs.Common.{number_form, text_form, person_form, rule_form, office_form}
use Rattle.std.specs.Prelude.{None}
use Rattle.shop_model.specs.Json.{escape_byte}
use Rattle.shop_schema.proofs.Replies.{ascii_bytes, number_ascii, object_utf8}
use Rattle.shop_schema.proofs.FormLemmas.{number_ends, text_is}
use Rattle.shop_schema.proofs.FormValues.{text_equal, Kind, Number, Bytes, Perhaps, Flag, Values, forms, behind, one_form}
use Rattle.shop_schema.proofs.Acts.{person_is, person_equal}
use Rattle.shop_schema.proofs.OneToOne.{alone}

-- ---- one form exactly where they are the same

abbrev film_kinds : List Kind
film_kinds = Bytes ∷ Bytes ∷ Number ∷ Number ∷ Number ∷ Number ∷ Number ∷ Perhaps ∷ Bytes ∷ Bytes ∷ Flag ∷ []

abbrev of_film : Film → Values film_kinds
of_film f =
    (f.title, (f.description, (f.language, (f.category, (f.period, (f.rate, (f.replacement, (f.minutes, (f.rating, (f.features, (f.withdrawn, tt)))))))))))

abbrev branch_kinds : List Kind
branch_kinds = Bytes ∷ Bytes ∷ Bytes ∷ Bytes ∷ Number ∷ Perhaps ∷ []

abbrev of_branch : Branch → Values branch_kinds
of_branch b = (b.token, (b.address, (b.postal, (b.phone, (b.city, (b.manager, tt))))))

-- a name alone
one_name : (n : ℕ) (x y : Text) → (n ∷ text_form x ≡ n ∷ text_form y) ↔ (bytes_eq x y ≡ true)
one_name n x y = (λ h. (bytes_eq-Decides x y).1 (text_is x y (ap behind h)), λ h. ap (λ (t : Text). n ∷ text_form t) (text_equal x y h))

one_number : (n x y : ℕ) → (n ∷ forms (Number ∷ []) (x, tt) ≡ n ∷ forms (Number ∷ []) (y, tt)) ↔ ((x == y) ≡ true)
one_number n x y = one_form n (Number ∷ []) (x, tt) (y, tt)

two_numbers : (n a b c d : ℕ)
    → (n ∷ joined (number_form a ∷ number_form b ∷ []) ≡ n ∷ joined (number_form c ∷ number_form d ∷ [])) ↔ ((a == c && b == d) ≡ true)
two_numbers n a b c d = one_form n (Number ∷ Number ∷ []) (a, (b, tt)) (c, (d, tt))

one_rule : (a b : Rule) → (14 ∷ rule_form a ≡ 14 ∷ rule_form b) ↔ (same_rule a b ≡ true)
one_rule ByCode ByCode = (λ h. refl, λ h. refl)
one_rule ByComment ByComment = (λ h. refl, λ h. refl)
one_rule a b = (λ h. cc, λ h. cc)

one_staff : (b c : ℕ) (p q : Person)
    → (11 ∷ joined (number_form b ∷ person_form p ∷ []) ≡ 11 ∷ joined (number_form c ∷ person_form q ∷ [])) ↔ ((b == c && same_person p q) ≡ true)
one_staff b c p q = (
  λ h.
      let branch = number_ends b c (person_form p ++ []) (person_form q ++ []) (ap behind h) in
      let person = person_is p q (alone (person_form p) (person_form q) branch.1) in
      λ i. equal_test b c branch.0 i && subst (λ (r : Person). same_person p r ≡ true) person (person_same p) i,
  λ h.
      let k = and_parts (b == c) (same_person p q) h in
      λ i. 11 ∷ joined (number_form (same_if b c k.0 i) ∷ person_form (person_equal p q k.1 i) ∷ []),
)

pub one_act : (a b : OfficeAct) → (office_form a ≡ office_form b) ↔ (same_office_act a b ≡ true)
one_act (AddCountry x) (AddCountry y) = one_name 1 x y
one_act (AddCity x) (AddCity y) = one_form 2 (Bytes ∷ Number ∷ []) (x.name, (x.country, tt)) (y.name, (y.country, tt))
one_act (AddLanguage x) (AddLanguage y) = one_name 3 x y
one_act (AddCategory x) (AddCategory y) = one_name 4 x y
one_act (AddActor x) (AddActor y) = one_form 5 (Bytes ∷ Bytes ∷ []) (x.first, (x.last, tt)) (y.first, (y.last, tt))
one_act (AddFilm x) (AddFilm y) = one_form 6 film_kinds (of_film x) (of_film y)
one_act (PriceFilm x m) (PriceFilm y n) = two_numbers 7 x m y n
one_act (WithdrawFilm x) (WithdrawFilm y) = one_number 8 x y
one_act (AddCast x) (AddCast y) = two_numbers 9 x.film x.actor y.film y.actor
one_act (AddBranch x) (AddBranch y) = one_form 10 branch_kinds (of_branch x) (of_branch y)
one_act (AddStaff x) (AddStaff y) = one_staff x.branch y.branch x.person y.person
one_act (StaffLeaves x) (StaffLeaves y) = one_number 12 x y
one_act (SetManager b s) (SetManager c t) = two_numbers 13 b s c t
one_act (ChooseRule x) (ChooseRule y) = one_rule x y
one_act a b = (λ h. cc, λ h. cc)

-- ---- its reply

office_reply : (act : OfficeAct) (it : Catalogue) → IsUtf8 (object (office_told act it))
unfolding escape_byte
office_reply (PriceFilm f rate) it = object_utf8 (office_told (PriceFilm f rate) it) refl (number_ascii f, (number_ascii rate, tt))
office_reply (AddCast cast) it = object_utf8 (office_told (AddCast cast) it) refl (number_ascii cast.actor, (number_ascii cast.film, tt))
office_reply (SetManager b s) it = object_utf8 (office_told (SetManager b s) it) refl (number_ascii b, (number_ascii s, tt))
office_reply (ChooseRule ByCode) it = object_utf8 (office_told (ChooseRule ByCode) it) refl (ascii_bytes (codes "\"code\"") refl, tt)
office_reply (ChooseRule ByComment) it = object_utf8 (office_told (ChooseRule ByComment) it) refl (ascii_bytes (codes "\"comment\"") refl, tt)
office_reply act it = object_utf8 (office_told act it) refl (number_ascii _, tt)

-- ---- lists of shared rows

all_set : {A : Type 0} (P : A → Type 0) (n : ℕ) (f : A → A) (xs : List A) → ((x : A) → P x → P (f x)) → AllByRecursion P xs → AllByRecursion P (set_at n f xs)
all_set P n f [] stays all = tt
all_set P n f (x ∷ xs) stays all = go (n == 1) (all_set P (n - 1) f xs stays all.1)
  where
    go : (hit : Bool) → AllByRecursion P (set_at (n - 1) f xs) → AllByRecursion P (cond hit (f x ∷ xs) (x ∷ set_at (n - 1) f xs))
    go true more = (stays x all.0, all.1)
    go false more = (all.0, more)

shared_push : {A : Type 0} (P : A → Type 0) (xs : List A) (x : A) → length xs ≤ 1_000_003 → P x → AreShared P xs → AreShared P (xs ++ x ∷ [])
shared_push P xs x few such all = let more = length-append xs (x ∷ []) in (omega (arith, more, few), All-push P xs x all.1 such)

shared_set : {A : Type 0} (P : A → Type 0) (n : ℕ) (f : A → A) (xs : List A) → ((x : A) → P x → P (f x)) → AreShared P xs → AreShared P (set_at n f xs)
shared_set P n f xs stays all = let same = length_set n f xs in (omega (arith, same, all.0), all_set P n f xs stays all.1)

-- ---- rows after a column was changed

rated : (film : Film) (rate : ℕ) (withdrawn : Bool) → IsFilm film → rate ≤ 9_999 → IsFilm (record film { rate = rate; withdrawn = withdrawn })
rated film rate withdrawn is low = record {
  title = is.title;
  description = is.description;
  language = is.language;
  category = is.category;
  period = is.period;
  rate = low;
  replacement = is.replacement;
  minutes = is.minutes;
  rating = is.rating;
  features = is.features;
}

managed : (branch : Branch) (manager : Option ℕ) → IsBranch branch → IfSome manager IsNumber → IsBranch (record branch { manager = manager })
managed branch manager is who = record {
  token = is.token;
  address = is.address;
  postal = is.postal;
  phone = is.phone;
  city = is.city;
  manager = who;
}

-- ---- a step

-- what holds of each list of a catalogue, one after another
values_of : (it : Catalogue) → IsToken it.office_token → AllByRecursion IsOfficeKept it.kept → AllByRecursion IsCast it.casts → AreShared IsName it.countries
    → AreShared IsCity it.cities → AreShared IsName it.languages → AreShared IsName it.categories → AreShared IsActor it.actors → AreShared IsFilm it.films
    → AreShared IsBranch it.branches → AreShared IsStaff it.staff → AreCatalogueValues it
values_of it token kept casts countries cities languages categories actors films branches staff = record {
  office_token = token;
  kept = kept;
  casts = casts;
  countries = countries;
  cities = cities;
  languages = languages;
  categories = categories;
  actors = actors;
  films = films;
  branches = branches;
  staff = staff;
}

acted_values : (act : OfficeAct) (it : Catalogue) → IsOfficeAct act → AreCatalogueValues it → HasFewShared it → AreCatalogueValues (office_acted act it)
acted_values (AddCountry name) it is v few =
    values_of _ v.office_token v.kept v.casts (shared_push IsName it.countries name few.countries is v.countries) v.cities v.languages v.categories v.actors
    v.films v.branches v.staff
acted_values (AddCity city) it is v few =
    values_of _ v.office_token v.kept v.casts v.countries (shared_push IsCity it.cities city few.cities is v.cities) v.languages v.categories v.actors v.films
    v.branches v.staff
acted_values (AddLanguage name) it is v few =
    values_of _ v.office_token v.kept v.casts v.countries v.cities (shared_push IsName it.languages name few.languages is v.languages) v.categories v.actors
    v.films v.branches v.staff
acted_values (AddCategory name) it is v few =
    values_of _ v.office_token v.kept v.casts v.countries v.cities v.languages (shared_push IsName it.categories name few.categories is v.categories) v.actors
    v.films v.branches v.staff
acted_values (AddActor actor) it is v few =
    values_of _ v.office_token v.kept v.casts v.countries v.cities v.languages v.categories (shared_push IsActor it.actors actor few.actors is v.actors)
    v.films v.branches v.staff
acted_values (AddFilm film) it is v few =
    values_of _ v.office_token v.kept v.casts v.countries v.cities v.languages v.categories v.actors
    (shared_push IsFilm it.films (record film { withdrawn = false }) few.films (rated film film.rate false is.0 is.0.rate) v.films) v.branches v.staff
acted_values (PriceFilm f rate) it is v few =
    values_of _ v.office_token v.kept v.casts v.countries v.cities v.languages v.categories v.actors
    (shared_set IsFilm f (λ (x : Film). record x { rate = rate }) it.films (λ x such. rated x rate x.withdrawn such is.1) v.films) v.branches v.staff
acted_values (WithdrawFilm f) it is v few =
    values_of _ v.office_token v.kept v.casts v.countries v.cities v.languages v.categories v.actors
    (shared_set IsFilm f (λ (x : Film). record x { withdrawn = true }) it.films (λ x such. rated x x.rate true such such.rate) v.films) v.branches v.staff
acted_values (AddCast cast) it is v few =
    values_of _ v.office_token v.kept (All-push IsCast it.casts cast v.casts is) v.countries v.cities v.languages v.categories v.actors v.films v.branches
    v.staff
acted_values (AddBranch branch) it is v few =
    values_of _ v.office_token v.kept v.casts v.countries v.cities v.languages v.categories v.actors v.films
    (shared_push IsBranch it.branches (record branch { manager = None }) few.branches (managed branch None is.0 tt) v.branches) v.staff
acted_values (AddStaff staff) it is v few =
    values_of _ v.office_token v.kept v.casts v.countries v.cities v.languages v.categories v.actors v.films v.branches
    (shared_push IsStaff it.staff (record staff { gone = false }) few.staff is v.staff)
acted_values (StaffLeaves s) it is v few =
    values_of _ v.office_token v.kept v.casts v.countries v.cities v.languages v.categories v.actors v.films v.branches
    (shared_set IsStaff s (λ (x : Staff). record x { gone = true }) it.staff (λ x such. such) v.staff)
acted_values (SetManager b s) it is v few =
    values_of _ v.office_token v.kept v.casts v.countries v.cities v.languages v.categories v.actors v.films
    (shared_set IsBranch b (λ (x : Branch). record x { manager = Some s }) it.branches (λ x such. managed x (Some s) such is.1) v.branches) v.staff
acted_values (ChooseRule rule) it is v few =
    values_of _ v.office_token v.kept v.casts v.countries v.cities v.languages v.categories v.actors v.films v.branches v.staff

-- what an accepted command of head office makes of the books
pub office_values_done : (command : OfficeCommand) (books : Books) → IsOfficeAct command.act
    → IsKey command.key → AreValues books → HasFewShared books.catalogue
    → AreValues (record books { catalogue = office_done command books.catalogue })
office_values_done command books is key values few =
    let v = acted_values command.act books.catalogue is values.catalogue few in
    let reply = office_reply command.act books.catalogue in
    record {
      catalogue = record {
        office_token = v.office_token;
        kept =
            All-push IsOfficeKept books.catalogue.kept
            (record { command = command; reply = office_text command books.catalogue }) values.catalogue.kept (key, is, reply);
        casts = v.casts;
        countries = v.countries;
        cities = v.cities;
        languages = v.languages;
        categories = v.categories;
        actors = v.actors;
        films = v.films;
        branches = v.branches;
        staff = v.staff;
      };
      rows = values.rows;
      lots = values.lots;
      consignments = values.consignments;
      kept = values.kept;
      lasts = values.lasts;
    }
