-- A film's number picks one film.
use Rattle.shop_schema.proofs.Common.{◌≡◌, refl, inl, inr, ℕ, List, map, or-false, list_any, at, at_one, Film, head}
use Rattle.shop_store.specs.SharedSeen.{withdrawn_of}
use Rattle.branch_finds.specs.Finds.{is_yes}

-- a film's number picks one row at most
pub at_most_one : (n : ℕ) (films : List Film) → list_any (λ (f : Film). f.withdrawn) (at n films) ≡ is_yes (head (map withdrawn_of (at n films)))
at_most_one n films = elim (at_one n films) [ inl none ↦ rw none refl | inr one ↦ rw one.1 (or-false one.0.withdrawn) ]
