-- Whether tables stand for books can be decided. So it is known, even if it was only proved that some proof exists.
use Rattle.shop_schema.proofs.Common.{◌≡◌, ℕ, List, [], ◌∷◌, refl, inl, inr, ∥∥₁_map, cases_eq, Trees, Decided, one_bag, decided, in_any, Books, StandsFor}

same_key : (a b : List ℕ) → Decided (a ≡ b)
same_key [] [] = inl refl
same_key [] (n ∷ b) = inr (λ e. cc)
same_key (m ∷ a) [] = inr (λ e. cc)
same_key (m ∷ a) (n ∷ b) = both (cases_eq m n) (same_key a b)
  where
    both : Decided (m ≡ n) → Decided (a ≡ b) → Decided (m ∷ a ≡ n ∷ b)
    both (inl first) (inl rest) = inl (λ i. first i ∷ rest i)
    both (inl first) (inr apart) = inr (λ e. apart cc)
    both (inr apart) rest = inr (λ e. apart cc)

pub stands_in_any : (trees : Trees) (books : Books) → ∥ StandsFor trees books ∥₁ → StandsFor trees books
stands_in_any trees books some = record {
  chain = in_any _ _ (λ s. s.chain) some;
  countries = in_any _ _ (λ s. s.countries) some;
  languages = in_any _ _ (λ s. s.languages) some;
  categories = in_any _ _ (λ s. s.categories) some;
  cities = in_any _ _ (λ s. s.cities) some;
  actors = in_any _ _ (λ s. s.actors) some;
  films = in_any _ _ (λ s. s.films) some;
  casts = in_any _ _ (λ s. s.casts) some;
  branches = in_any _ _ (λ s. s.branches) some;
  staff = in_any _ _ (λ s. s.staff) some;
  customers = in_any _ _ (λ s. s.customers) some;
  copies = in_any _ _ (λ s. s.copies) some;
  rentals = in_any _ _ (λ s. s.rentals) some;
  payments = in_any _ _ (λ s. s.payments) some;
  lots = in_any _ _ (λ s. s.lots) some;
  consignments = in_any _ _ (λ s. s.consignments) some;
  lines = in_any _ _ (λ s. s.lines) some;
  kept = in_any _ _ (λ s. s.kept) some;
  counters = in_any _ _ (λ s. s.counters) some;
  outs = in_any _ _ (λ s. s.outs) some;
  pairs = in_any _ _ (λ s. s.pairs) some;
  more = record {
    rows = (in_any _ _ (λ s. s.more.rows.0) some, (in_any _ _ (λ s. s.more.rows.1.0) some, tt));
    termed = decided (one_bag same_key _ _) (∥∥₁_map some (λ s. s.more.termed));
  };
}
