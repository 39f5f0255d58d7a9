-- The parts of each act match its form, in both directions.
use Rattle.shop_schema.proofs.Common.{◌↔◌, ◌≤◌, ℕ, List, map, length, Option, Some, None, refl, sym, subst, arith, leb-true, le-leb, IfSome, Act, AddCustomer}
use Rattle.shop_schema.proofs.Common.{SetActive, Rent, TakeBack, Pay, Import, Dispatch, Receive, Scrap, act_form, IsNumber, IsNumberList, IsAct, AreNumbers}
use Rattle.shop_schema.proofs.Common.{AreBytes}
use Rattle.shop_schema.specs.Forms.{IsStockFile}
use Rattle.books_audit.specs.declared.parts.Part.{Part}
use Rattle.books_audit.specs.declared.acts.TheConstants.{ACTS}
use Rattle.books_audit.specs.Forms.{IsOneOf, IsActForm}
use Rattle.books_audit.proofs.Ranges.{in_range, ranged}
use Rattle.books_audit.proofs.PartForms.{OfAll, ◌also◌, told, of_one}

abbrev pub acts : List (List Part)
acts = map (λ parts. parts.now) ACTS

-- ---- a number or none

option_range : (o : Option ℕ) → IfSome o IsNumber → IfSome o (λ n. (1 ≤ n) × (n ≤ 4_294_967_295))
option_range None is = tt
option_range (Some n) is = in_range n is

option_ranged : (o : Option ℕ) → IfSome o (λ n. (1 ≤ n) × (n ≤ 4_294_967_295)) → IfSome o IsNumber
option_ranged None is = tt
option_ranged (Some n) is = ranged n is

-- ---- what is listed, so much at most

few : (ns : List ℕ) → IsNumberList ns → (length ns ≤ 65_536) × AreNumbers ns
few ns (h, all) = (leb-true (length ns) 65_536 h, all)

listed : (ns : List ℕ) → (length ns ≤ 65_536) × AreNumbers ns → IsNumberList ns
listed ns (h, all) = (le-leb (length ns) 65_536 h, all)

short : (file : List ℕ) → IsStockFile file → (length file ≤ 65_536) × AreBytes file
short file (h, all) = (leb-true (length file) 65_536 h, all)

stock : (file : List ℕ) → (length file ≤ 65_536) × AreBytes file → IsStockFile file
stock file (h, all) = (le-leb (length file) 65_536 h, all)

-- ---- from parts to acts, and back

from_parts : OfAll IsActForm 1 acts
from_parts =
    (λ first a last b address c postal d phone e city n. (
      AddCustomer (record { person = record { first = first; last = last; address = address; postal = postal; phone = phone; city = city } }),
      record { first = a; last = b; address = c; postal = d; phone = e; city = ranged city n },
      refl,
    ))
    also (λ c n active _. (SetActive c active, ranged c n, refl))
    also (λ c n x m. (Rent c x, (ranged c n, ranged x m), refl))
    also (λ r n. (TakeBack r, ranged r n, refl))
    also (λ c n r o amount m. (Pay c r amount, (ranged c n, option_ranged r o, m.1), refl))
    also (λ lot k file f. (Import lot file, (k, stock file f), refl))
    also (λ a n xs l. (Dispatch a xs, (ranged a n, listed xs l), refl))
    also (λ s n number m missing l. (Receive s number missing, (ranged s n, ranged number m, listed missing l), refl))
    also (λ x n. (Scrap x, ranged x n, refl))
    also tt

to_parts : (act : Act) → IsAct act → IsOneOf acts (act_form act)
to_parts (AddCustomer it) is =
    let p = it.person in
    told acts 0 refl p.first is.first p.last is.last p.address is.address p.postal is.postal p.phone is.phone p.city (in_range p.city is.city)
to_parts (SetActive c active) is = told acts 1 refl c (in_range c is) active tt
to_parts (Rent c x) is = told acts 2 refl c (in_range c is.0) x (in_range x is.1)
to_parts (TakeBack r) is = told acts 3 refl r (in_range r is)
to_parts (Pay c r amount) is = told acts 4 refl c (in_range c is.0) r (option_range r is.1) amount (omega arith, is.2)
to_parts (Import lot file) is = told acts 5 refl lot is.0 file (short file is.1)
to_parts (Dispatch a xs) is = told acts 6 refl a (in_range a is.0) xs (few xs is.1)
to_parts (Receive s n missing) is = told acts 7 refl s (in_range s is.0) n (in_range n is.1) missing (few missing is.2)
to_parts (Scrap x) is = told acts 8 refl x (in_range x is)

pub is_act_form : (bytes : List ℕ) → IsOneOf acts bytes ↔ IsActForm bytes
is_act_form bytes = (of_one IsActForm acts from_parts bytes, λ f. subst (IsOneOf acts) (sym f.2) (to_parts f.0 f.1))
