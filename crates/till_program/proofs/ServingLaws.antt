-- What a desk did, and what it does next.
use Rattle.std.proofs.Common.{◌≡◌, ℕ, List, [], ◌∷◌, ◌++◌, Option, Some, None, refl, inl, inr, subst, sym}
use Rattle.shop_model.specs.Values.{Text}
use Rattle.till_program.specs.declared.opening.OpenBook.{OpenBook}
use Rattle.till_program.specs.Lines.{IsNotBegun}
use Rattle.till_program.specs.Serving.{IsLooked, ActsAlone, Handles, Steps, Serves, IsServed}

pub looked_same : (held : Option OpenBook) → IsLooked held held
looked_same None = refl
looked_same (Some book) = (refl, (λ clean journal rests. rests))

module _ (name : Text) where
  pub alone_same : (held : Option OpenBook) → ActsAlone name held held
  alone_same held = inl (looked_same held)

  pub alone_closed : (held now : Option OpenBook) → IsNotBegun held now → ActsAlone name held now
  alone_closed held now (inl same) = inl (rw same (looked_same held))
  alone_closed held now (inr none) = inr (inl none)

module _ (name : Text) (secret : List ℕ) where
  serves_then : (steps more : List (Option (List ℕ))) (held between now : Option OpenBook)
      → Serves name secret steps held between → Serves name secret more between now → Serves name secret (steps ++ more) held now
  serves_then [] more held between now one two = subst (λ (it : Option OpenBook). Serves name secret more it now) one two
  serves_then (step ∷ steps) more held between now one two = (one.0, one.1, serves_then steps more one.0 between now one.2 two)

  pub served_same : (held : Option OpenBook) → IsServed name secret held held
  served_same held = ([], refl)

  pub served_then : (held between now : Option OpenBook) → IsServed name secret held between → IsServed name secret between now → IsServed name secret held now
  served_then held between now one two = (one.0 ++ two.0, serves_then one.0 two.0 held between now one.1 two.1)

  pub served_handled : (bytes : List ℕ) (held now : Option OpenBook) → Handles name secret bytes held now → IsServed name secret held now
  served_handled bytes held now handles = (Some bytes ∷ [], (now, handles, refl))

  pub served_alone : (held now : Option OpenBook) → ActsAlone name held now → IsServed name secret held now
  served_alone held now acts = (None ∷ [], (now, acts, refl))
