-- The parts of each act of head office match its form, in both directions.
use Rattle.shop_schema.proofs.Common.{◌≡◌, ◌↔◌, ◌≤◌, ℕ, List, [], ◌∷◌, ◌++◌, map, length, Option, None, Bool, true, false, refl, sym, ap, subst, arith}
use Rattle.shop_schema.proofs.Common.{append-nil, Text, Person, ByCode, ByComment, OfficeAct, AddCountry, AddCity, AddLanguage, AddCategory, AddActor, AddFilm}
use Rattle.shop_schema.proofs.Common.{PriceFilm, WithdrawFilm, AddCast, AddBranch, AddStaff, StaffLeaves, SetManager, ChooseRule, joined, number_form}
use Rattle.shop_schema.proofs.Common.{text_form, numbers_form, option_form, flag_form, person_form, branch_form, office_form, IsOfficeAct}
use Rattle.books_audit.specs.declared.parts.Part.{Part}
use Rattle.books_audit.specs.declared.office.TheConstants.{OFFICE_ACTS}
use Rattle.books_audit.specs.Forms.{IsOneOf, IsOfficeForm}
use Rattle.books_audit.proofs.Ranges.{in_range, ranged}
use Rattle.books_audit.proofs.PartForms.{OfAll, ◌also◌, told, of_one}

abbrev pub office_acts : List (List Part)
office_acts = map (λ parts. parts.now) OFFICE_ACTS

-- ---- forms whose lists of parts are built otherwise: a name alone, staff after a number, and no manager

named : (n : ℕ) (name : Text) → n ∷ (text_form name ++ []) ≡ n ∷ text_form name
named n name = ap (λ (bytes : List ℕ). n ∷ bytes) (append-nil (text_form name))

employed : (branch : ℕ) (person : Person) → 11 ∷ (number_form branch ++ person_form person) ≡ 11 ∷ joined (number_form branch ∷ person_form person ∷ [])
employed branch person = λ i. 11 ∷ (number_form branch ++ sym (append-nil (person_form person)) i)

none_listed : (ns : List ℕ) → length ns ≤ 0 → numbers_form ns ≡ option_form None
none_listed [] h = refl
none_listed (n ∷ ns) h = absurd (omega (arith, h))

chosen : (comment : Bool) → IsOfficeForm (14 ∷ (flag_form comment ++ []))
chosen true = (ChooseRule ByComment, tt, refl)
chosen false = (ChooseRule ByCode, tt, refl)

-- ---- from parts to acts, and back

from_parts : OfAll IsOfficeForm 1 office_acts
from_parts =
    (λ name k. (AddCountry name, k, named 1 name))
    also (λ name k country n. (AddCity (record { name = name; country = country }), (k, ranged country n), refl))
    also (λ name k. (AddLanguage name, k, named 3 name))
    also (λ name k. (AddCategory name, k, named 4 name))
    also (λ first k last l. (AddActor (record { first = first; last = last }), (k, l), refl))
    also (λ title a description b language c category d period e rate f replacement g minutes h rating j features k withdrawn w. (
      AddFilm (record {
        title = title;
        description = description;
        language = language;
        category = category;
        period = period;
        rate = rate;
        replacement = replacement;
        minutes = minutes;
        rating = rating;
        features = features;
        withdrawn = withdrawn;
      }),
      (
        record {
          title = a;
          description = b;
          language = ranged language c;
          category = ranged category d;
          period = e;
          rate = f.1;
          replacement = g.1;
          minutes = h;
          rating = j;
          features = k;
        },
        w,
      ),
      refl,
    ))
    also (λ film n rate m. (PriceFilm film rate, (ranged film n, m.1), refl))
    also (λ film n. (WithdrawFilm film, ranged film n, refl))
    also (λ film n actor m. (AddCast (record { film = film; actor = actor }), (ranged film n, ranged actor m), refl))
    also (λ token a address b postal c phone d city n listed none. (
      AddBranch (record { token = token; address = address; postal = postal; phone = phone; city = city; manager = None }),
      (record { token = a; address = b; postal = c; phone = d; city = ranged city n; manager = tt }, refl),
      λ i. 10 ∷ joined (text_form token ∷ text_form address ∷ text_form postal ∷ text_form phone ∷ number_form city ∷ none_listed listed none.0 i ∷ []),
    ))
    also (λ branch m first a last b address c postal d phone e city n.
    let person : Person = record { first = first; last = last; address = address; postal = postal; phone = phone; city = city } in (
      AddStaff (record { branch = branch; person = person; gone = false }),
      (ranged branch m, record { first = a; last = b; address = c; postal = d; phone = e; city = ranged city n }),
      employed branch person,
    ))
    also (λ staff n. (StaffLeaves staff, ranged staff n, refl))
    also (λ branch n staff m. (SetManager branch staff, (ranged branch n, ranged staff m), refl))
    also (λ comment _. chosen comment)
    also tt

to_parts : (act : OfficeAct) → IsOfficeAct act → IsOneOf office_acts (office_form act)
to_parts (AddCountry name) is = subst (IsOneOf office_acts) (named 1 name) (told office_acts 0 refl name is)
to_parts (AddCity it) is = told office_acts 1 refl it.name is.0 it.country (in_range it.country is.1)
to_parts (AddLanguage name) is = subst (IsOneOf office_acts) (named 3 name) (told office_acts 2 refl name is)
to_parts (AddCategory name) is = subst (IsOneOf office_acts) (named 4 name) (told office_acts 3 refl name is)
to_parts (AddActor it) is = told office_acts 4 refl it.first is.0 it.last is.1
to_parts (AddFilm f) (is, new) =
    told office_acts 5 refl f.title is.title f.description is.description f.language
    (in_range f.language is.language) f.category (in_range f.category is.category)
    f.period is.period f.rate (omega arith, is.rate) f.replacement (omega arith, is.replacement) f.minutes is.minutes f.rating is.rating f.features is.features
    f.withdrawn new
to_parts (PriceFilm film rate) is = told office_acts 6 refl film (in_range film is.0) rate (omega arith, is.1)
to_parts (WithdrawFilm film) is = told office_acts 7 refl film (in_range film is)
to_parts (AddCast it) is = told office_acts 8 refl it.film (in_range it.film is.0) it.actor (in_range it.actor is.1)
to_parts (AddBranch b) (is, none) =
    subst (λ (manager : Option ℕ). IsOneOf office_acts (10 ∷ branch_form (record b { manager = manager }))) (sym none)
    (told office_acts 9 refl b.token is.token b.address is.address b.postal is.postal b.phone is.phone b.city (in_range b.city is.city) [] (omega arith, tt))
to_parts (AddStaff it) (at, is) =
    let p = it.person in
    subst (IsOneOf office_acts) (employed it.branch p)
    (told office_acts 10 refl it.branch (in_range it.branch at) p.first is.first p.last is.last
    p.address is.address p.postal is.postal p.phone is.phone p.city (in_range p.city is.city))
to_parts (StaffLeaves staff) is = told office_acts 11 refl staff (in_range staff is)
to_parts (SetManager branch staff) is = told office_acts 12 refl branch (in_range branch is.0) staff (in_range staff is.1)
to_parts (ChooseRule ByCode) is = told office_acts 13 refl false tt
to_parts (ChooseRule ByComment) is = told office_acts 13 refl true tt

pub is_office_form : (bytes : List ℕ) → IsOneOf office_acts bytes ↔ IsOfficeForm bytes
is_office_form bytes = (of_one IsOfficeForm office_acts from_parts bytes, λ f. subst (IsOneOf office_acts) (sym f.2) (to_parts f.0 f.1))
