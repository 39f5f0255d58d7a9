-- How to prove something of all forms of a list of parts: one part after another, and by the first byte, which says which list it is.
use Rattle.shop_schema.proofs.Common.{◌≡◌, ◌↔◌, ◌+◌, ℕ, zero, suc, List, [], ◌∷◌, ◌++◌, length, map, Bor, Option, Some, None, option_map, refl, sym, ap, subst}
use Rattle.shop_schema.proofs.Common.{◌∙◌, arith}
use Rattle.std.proofs.lemmas.Option.{slice_get-map}
use Rattle.std.specs.Prelude.{slice_get, unwrap_or}
use Rattle.books_audit.specs.declared.parts.Part.{Part}
use Rattle.books_audit.specs.Forms.{Held, MayHold, held_form, IsForm, IsOneOf}
use Rattle.books_audit.proofs.Ends.{as_held, as_part}

-- ---- parts, one after another

-- P holds of the forms of all values that the parts may have
abbrev pub OfParts : List Part → (List ℕ → Type 0) → Type 0
OfParts [] P = P []
OfParts (part ∷ parts) P = (held : Held part) → MayHold part held → OfParts parts (λ rest. P (held_form part held ++ rest))

of_form : (parts : List Part) (P : List ℕ → Type 0) → OfParts parts P → (bytes : List ℕ) → IsForm parts bytes → P bytes
of_form [] P all bytes e = subst P (sym e) all
of_form (part ∷ parts) P all bytes (piece, rest, is, form, e) =
    let it = as_held part piece is in
    subst P (sym (e ∙ ap (λ (x : List ℕ). x ++ rest) it.2)) (of_form parts (λ more. P (held_form part it.0 ++ more)) (all it.0 it.1) rest form)

by_form : (parts : List Part) (P : List ℕ → Type 0) → ((bytes : List ℕ) → IsForm parts bytes → P bytes) → OfParts parts P
by_form [] P all = all [] refl
by_form (part ∷ parts) P all = λ held may.
    by_form parts (λ rest. P (held_form part held ++ rest))
    (λ rest form. all (held_form part held ++ rest) (held_form part held, rest, as_part part (held_form part held) (held, may, refl), form, refl))

-- ---- one of several lists of parts, given by the first byte

abbrev parts_at : List (List Part) → ℕ → List Part
parts_at forms place = unwrap_or (slice_get forms place) []

-- the forms of the values that the parts at the place may have are such forms
pub told : (forms : List (List Part)) (place : ℕ) → slice_get forms place ≡ Some (parts_at forms place)
    → OfParts (parts_at forms place) (λ rest. IsOneOf forms ((place + 1) ∷ rest))
told forms place there =
    by_form (parts_at forms place) (λ rest. IsOneOf forms ((place + 1) ∷ rest)) (λ rest form. (place, parts_at forms place, rest, there, form, refl))

-- P holds of the forms of all lists of parts, which are numbered from n
abbrev pub OfAll : (List ℕ → Type 0) → ℕ → List (List Part) → Type 0
OfAll P n [] = Unit {0}
OfAll P n (parts ∷ forms) = OfParts parts (λ rest. P (n ∷ rest)) × OfAll P (n + 1) forms

of_place : (P : List ℕ → Type 0) (n : ℕ) (forms : List (List Part)) → OfAll P n forms → (place : ℕ) (parts : List Part)
    → slice_get forms place ≡ Some parts → (rest : List ℕ) → IsForm parts rest → P ((n + place) ∷ rest)
of_place P n [] all place parts there rest form = cc
of_place P n (first ∷ forms) all zero parts there rest form =
    let is : parts ≡ first = cc in
    let same : n ≡ n + 0 = omega arith in
    subst (λ m. P (m ∷ rest)) same (of_form first (λ more. P (n ∷ more)) all.0 rest (subst (λ its. IsForm its rest) is form))
of_place P n (first ∷ forms) all (suc place) parts there rest form =
    let same : n + 1 + place ≡ n + suc place = omega arith in
    subst (λ m. P (m ∷ rest)) same (of_place P (n + 1) forms all.1 place parts there rest form)

infixr 3 ◌also◌
pub ◌also◌ : {A B : Type 0} → A → B → A × B
a also b = (a, b)

-- so P holds of each form
pub of_one : (P : List ℕ → Type 0) (forms : List (List Part)) → OfAll P 1 forms → (bytes : List ℕ) → IsOneOf forms bytes → P bytes
of_one P forms all bytes (place, parts, rest, there, form, e) =
    let same : 1 + place ≡ place + 1 = omega arith in
    subst P (sym e) (subst (λ m. P (m ∷ rest)) same (of_place P 1 forms all place parts there rest form))

-- ---- the first byte, as it is looked up

module _ (forms : List (Bor (List Part))) where
  abbrev lists : List (List Part)
  lists = map (λ parts. parts.now) forms

  there : (place : ℕ) (found : Option (Bor (List Part))) → slice_get forms place ≡ found → slice_get lists place ≡ option_map (λ parts. parts.now) found
  there place found e = slice_get-map (λ parts. parts.now) forms place ∙ ap (option_map (λ parts. parts.now)) e

  looked : (n place : ℕ) (found : Option (Bor (List Part))) → n ≡ place + 1 → slice_get forms place ≡ found
      → (q : ℕ) (parts : List Part) → slice_get lists q ≡ Some parts → n ≡ q + 1
      → Some parts ≡ option_map (λ parts. parts.now) found
  looked n place found t e q parts g h =
      let same : q ≡ place = omega (arith, h, t) in
      sym g ∙ ap (slice_get lists) same ∙ there place found e

  pub found_one : (bytes rest : List ℕ) (n place : ℕ) (parts : Bor (List Part)) → n ≡ place + 1
      → slice_get forms place ≡ Some parts → bytes ≡ n ∷ rest → IsForm parts.now rest ↔ IsOneOf lists bytes
  found_one bytes rest n place parts t found e = (λ f. (place, parts.now, rest, there place (Some parts) found, f, e ∙ (λ i. t i ∷ rest)), from)
    where
      from : IsOneOf lists bytes → IsForm parts.now rest
      from (q, its, more, g, form, h) =
          let heads : n ≡ q + 1 = cc in
          let tails : more ≡ rest = cc in
          let same = looked n place (Some parts) t found q its g heads in
          let is : its ≡ parts.now = cc in
          subst (λ ps. IsForm ps rest) is (subst (IsForm its) tails form)

  pub found_none : (bytes rest : List ℕ) (n place : ℕ) → n ≡ place + 1 → slice_get forms place ≡ None → bytes ≡ n ∷ rest → ¬ IsOneOf lists bytes
  found_none bytes rest n place t none e (q, its, more, g, form, h) =
      let heads : n ≡ q + 1 = cc in
      let same = looked n place None t none q its g heads in
      cc

pub empty_none : (forms : List (List Part)) (bytes : List ℕ) → length bytes ≡ 0 → ¬ IsOneOf forms bytes
empty_none forms bytes none (place, its, more, g, form, h) = omega (arith, none, ap length h)

pub zero_none : (forms : List (List Part)) (bytes rest : List ℕ) (n : ℕ) → n ≡ 0 → bytes ≡ n ∷ rest → ¬ IsOneOf forms bytes
zero_none forms bytes rest n nought e (place, its, more, g, form, h) =
    let heads : n ≡ place + 1 = cc in
    omega (arith, nought, heads)
