-- A label's letter, cut off.
use Rattle.std.proofs.Common.{◌≡◌, ◌≢◌, ◌==◌, ℕ, refl, ap, true, false, [], ◌∷◌, inl, inr}
use Rattle.shop_types.proofs.Common.{cases_Bool}
use Rattle.std.proofs.lemmas.Bool.{eqb-true, eq-eqb}
use Rattle.clap.specs.Words.{Text}
use Rattle.till_words.specs.Labels.{is_number, unlabelled}

same : (c : ℕ) → (c == c) ≡ true
same c = eq-eqb c c refl

-- a text after its letter is a label if the rest is a number
pub cut : (c : ℕ) (text rest : Text) → text ≡ c ∷ rest → is_number rest ≡ true → rest ≡ unlabelled c text
cut c text rest e is = rw (e, same c, is) refl

pub not_cut : (c : ℕ) (text rest : Text) → text ≡ c ∷ rest → is_number rest ≡ false → text ≡ unlabelled c text
not_cut c text rest e is = rw (e, same c, is) refl

other : (c b : ℕ) (rest : Text) → (b == c) ≡ false → b ∷ rest ≡ unlabelled c (b ∷ rest)
other c b rest e = rw e refl

-- a text that doesn't begin with the letter stays
pub no_letter : (c : ℕ) (text : Text) → ((rest : Text) → text ≢ c ∷ rest) → text ≡ unlabelled c text
no_letter c [] other-first = refl
no_letter c (b ∷ rest) other-first = elim (cases_Bool (b == c)) [
  | inl e ↦ absurd (other-first rest (let is : b ≡ c = eqb-true b c e in ap (λ x. x ∷ rest) is))
  | inr e ↦ other c b rest e
]
